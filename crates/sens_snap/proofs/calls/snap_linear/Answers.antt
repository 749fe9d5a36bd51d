-- `sens_snap::calls::snap_linear` meets its contract: a law for each return. Assumes nothing.
use Prim.Native.Nat.{◌*◌}
use mathlib.Core.Path.{◌≡◌, refl, sym, ap, ◌∙◌}
use native.Mathlib.Omega.{arith}
use Rattle.std.specs.Prelude.{Err}
use Rattle.sequence.proofs.Answers.{refused}
use Rattle.network.specs.declared.Counts.{Counts}
use Rattle.snapping.proofs.Words.{dual_long}
use Rattle.sens_snap.proofs.Returns.{sheet_refused, sheet_short, sheet_done}
use Rattle.sens_snap.proofs.calls.snap_linear.Goals as goal

pub returns-in_err-solved : goal.returns-in_err-solved
returns-in_err-solved c = let e : c.from_residual.result ≡ Err c.in_err-solved.field-0.0 = grind arith in
    rw e (sheet_refused _ _ _ _ c.in_err-solved.ensures.number (refused c.in_err-solved.field-0.0))

pub returns-then-out-count : goal.returns-then-out-count
returns-then-out-count c = let a = c.in_ok-solved.ensures in
    sheet_short _ _ _ _ a.number refl (dual_long _ _ _ _ _ _ _ ∙ sym (ap (λ (k : Counts). 3 * k.rows) a.accepted.counts)) c.if-out-count.true

pub returns : goal.returns
returns c = let a = c.in_ok-solved.ensures in
    let o = c.point_of-point.ensures in
    sheet_done _ _ _ _ a.number refl (dual_long _ _ _ _ _ _ _ ∙ sym (ap (λ (k : Counts). 3 * k.rows) a.accepted.counts)) c.if-out-count.false
    (rw (o.pieces, o.grid, o.sheet, o.term_index, o.term_coefficient, a.accepted.counts, a.accepted.wiring, a.accepted.readings, a.accepted.term_index, a.accepted.term_coefficient, a.lent_sheet) at c.snap_linear_into.ensures.out_after)
