-- `sens_snap::calls::snap` meets its contract: a law for each return. Assumes nothing.
use mathlib.Core.Path.{◌≡◌, refl, sym, ◌∙◌}
use native.Mathlib.Omega.{arith}
use Rattle.std.specs.Prelude.{Err}
use Rattle.sequence.proofs.Answers.{refused}
use Rattle.snapping.proofs.Words.{snap_long}
use Rattle.sens_snap.proofs.Returns.{sheet_refused, sheet_short, sheet_done}
use Rattle.sens_snap.proofs.calls.snap.Goals as goal

pub returns-in_err-solved : goal.returns-in_err-solved
returns-in_err-solved c = let e : c.from_residual.result ≡ Err c.in_err-solved.field-0.0 = grind arith in
    rw e (sheet_refused _ _ _ _ c.in_err-solved.ensures.number (refused c.in_err-solved.field-0.0))

pub returns-then-out-count : goal.returns-then-out-count
returns-then-out-count c = let a = c.in_ok-solved.ensures in
    let d = rw a.accepted.counts at a.solved in
    sheet_short _ _ _ _ a.number refl (snap_long _ _ _ _ _ d.accepted.wired ∙ sym d.laid.long) c.if-out-count.true

pub snap_into-requires : goal.snap_into-requires
snap_into-requires c = let a = c.in_ok-solved.ensures in
    let o = c.point_of.ensures in
    rw (o.pieces, o.grid, ← c.in_ok-solved.solved.sheet_laid.long, a.lent_sheet) c.if-out-count.false

pub returns : goal.returns
returns c = let a = c.in_ok-solved.ensures in
    let o = c.point_of.ensures in
    let d = rw a.accepted.counts at a.solved in
    sheet_done _ _ _ _ a.number refl (snap_long _ _ _ _ _ d.accepted.wired ∙ sym d.laid.long) c.if-out-count.false
    (rw (o.pieces, o.grid, o.sheet, a.accepted.counts, a.accepted.wiring, a.accepted.readings, a.lent_sheet) at c.snap_into.ensures.out_after)
