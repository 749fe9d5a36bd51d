-- `opf_problem::assemble_opf` meets its contract: a law for each return. Assumes nothing.
use mathlib.Core.Path.{◌≡◌, refl, sym, ◌∙◌}
use native.Mathlib.Omega.{arith}
use Rattle.std.specs.Prelude.{Err}
use Rattle.sequence.proofs.Answers.{refused}
use Rattle.model.proofs.Calls.{numbered}
use Rattle.opf_problem.proofs.Returns.{assemble_refused, assemble_short, assemble_done}
use Rattle.opf_problem.proofs.assemble_opf.Goals as goal

pub returns-in_err-site : goal.returns-in_err-site
returns-in_err-site c = let e : c.from_residual.result ≡ Err c.in_err-site.field-0.0 = grind arith in
    rw e (assemble_refused _ _ (numbered _ c.in_err-site.ensures.number) (refused c.in_err-site.field-0.0))

pub returns-then-is_short : goal.returns-then-is_short
returns-then-is_short c = let s = c.in_ok-site.ensures in
    assemble_short _ _ (numbered _ s.number) refl
    (rw (c.room.ensures, c.room-2.ensures, s.accepted.counts, s.accepted.wiring, s.accepted.readings, s.accepted.term_index, s.accepted.term_coefficient) at (sym c.is_short.ensures ∙ c.if-is_short.true))

pub returns : goal.returns
returns c = let s = c.in_ok-site.ensures in
    rw (s.accepted.counts, s.accepted.wiring, s.accepted.readings, s.accepted.term_index, s.accepted.term_coefficient) at c.lay_program.ensures
    ∙ assemble_done _ _ (numbered _ s.number) refl
    (rw (c.room.ensures, c.room-2.ensures, s.accepted.counts, s.accepted.wiring, s.accepted.readings, s.accepted.term_index, s.accepted.term_coefficient) at (sym c.is_short.ensures ∙ c.if-is_short.false))
