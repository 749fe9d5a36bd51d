-- `problem::read_dc_solution` meets its contract: a law for each return. Assumes nothing.
use mathlib.Core.Path.{◌≡◌, refl}
use native.Mathlib.Omega.{arith}
use Rattle.std.specs.Prelude.{Err}
use Rattle.sequence.proofs.Answers.{refused}
use Rattle.opf_readback.proofs.Entries.{pieces_are}
use Rattle.problem.proofs.Returns.{read_refused, read_short, read_done}
use Rattle.problem.proofs.read_dc_solution.Goals as goal

pub returns-in_err-point : goal.returns-in_err-point
returns-in_err-point c = let e : c.from_residual.result ≡ Err c.in_err-point.field-0.0 = grind arith in
    rw e (read_refused _ _ _ _ _ c.in_err-point.ensures.number (refused c.in_err-point.field-0.0))

pub returns-then-out-count : goal.returns-then-out-count
returns-then-out-count c = let s = c.in_ok-point.ensures in
    read_short _ _ _ _ _ s.number refl (rw (c.sheet_length-count.ensures, pieces_are c.in_ok-point.point.raw_laid, s.accepted.counts, s.accepted.wiring) at c.if-out-count.true)

pub read_into-requires : goal.read_into-requires
read_into-requires c = rw (c.sheet_length-count.ensures, pieces_are c.in_ok-point.point.raw_laid) at c.if-out-count.false

pub returns : goal.returns
returns c = let s = c.in_ok-point.ensures in
    read_done _ _ _ _ _ s.number refl (rw (pieces_are c.in_ok-point.point.raw_laid, s.accepted.counts, s.accepted.wiring) at c.sheet_length-count.ensures) c.if-out-count.false
    (rw (s.kept, s.accepted.counts, s.accepted.wiring, s.accepted.readings, s.accepted.term_index, s.accepted.term_coefficient) at c.read_into.ensures.out_after)
