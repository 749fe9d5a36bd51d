-- `problem::nodal_marginal_values` meets its contract: a law for each return. Assumes nothing.
use mathlib.Core.Path.{◌≡◌, refl, sym, ap, ◌∙◌}
use native.Mathlib.Omega.{arith}
use Rattle.std.specs.Prelude.{Err}
use Rattle.sequence.proofs.Answers.{refused}
use Rattle.network.specs.declared.Counts.{Counts}
use Rattle.opf_readback.specs.Readback.{nodal_sheet}
use Rattle.sens_snap.proofs.Returns.{sheet_refused, sheet_short, sheet_done}
use Rattle.problem.proofs.Nodal.{nodal_long, part_front}
use Rattle.problem.proofs.nodal_marginal_values.Goals as goal

pub returns-in_err-site : goal.returns-in_err-site
returns-in_err-site c = let e : c.from_residual.result ≡ Err c.in_err-site.field-0.0 = grind arith in
    rw e (sheet_refused _ _ _ _ c.in_err-site.ensures.number (refused c.in_err-site.field-0.0))

pub returns-then-out-c : goal.returns-then-out-c
returns-then-out-c c = let s = c.in_ok-site.ensures in
    sheet_short _ _ _ _ s.number refl (nodal_long _ _ _ _) (rw s.accepted.counts at c.if-out-c.true)

pub returns : goal.returns
unfolding nodal_sheet
returns c = let s = c.in_ok-site.ensures in
    sheet_done _ _ _ _ s.number refl (nodal_long _ _ _ _ ∙ sym (ap (λ (k : Counts). k.buses) s.accepted.counts)) c.if-out-c.false
    (part_front _ c.args.out.now _ c.if-out-c.false c.nodal_into.ensures ∙ rw (c.piece_count.ensures.0, s.accepted.counts, s.accepted.wiring, s.accepted.readings))
