-- `model::dc::accept_element` meets its contract, test by test. Assumes nothing.
use native.Mathlib.Omega.{arith}
use borrow.Author.Tests.{le-leb, lt-leb, lt-ltb, le-ltb}
use Rattle.sequence.specs.Answers.{first_of}
use Rattle.model.proofs.dc.accept_element.Goals as goal

pub returns-then-count-i-clause-number : goal.returns-then-count-i-clause-number
unfolding first_of
returns-then-count-i-clause-number c = rw (le-leb _ _ c.if-count-i.true)

pub returns-then-room-lt1-clause-number : goal.returns-then-room-lt1-clause-number
unfolding first_of
returns-then-room-lt1-clause-number c = rw (lt-leb _ _ c.if-count-i.false, lt-ltb c.args.room 1 (omega (arith, c.if-room-lt1.true)))

pub returns-else-room-lt1-clause-number : goal.returns-else-room-lt1-clause-number
unfolding first_of
returns-else-room-lt1-clause-number c = rw (lt-leb _ _ c.if-count-i.false, le-ltb c.args.room 1 (omega (arith, c.if-room-lt1.false)))
