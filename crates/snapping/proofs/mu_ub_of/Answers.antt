-- `snapping::mu_ub_of` meets its contract, by the state of the bus. Assumes nothing.
use Rattle.model.specs.Quantities.{shed_cap}
use Rattle.snapping.proofs.mu_ub_of.Goals as goal

pub returns-in-Fixed : goal.returns-in-Fixed
unfolding shed_cap
returns-in-Fixed c = rw (← c.shed_cap_at-cap.ensures, ← c.solved_at-shed.ensures, ← c.solved_at-upper.ensures, ← c.bus_state.ensures, c.in-Fixed.is)

pub returns-in-AtZero : goal.returns-in-AtZero
unfolding shed_cap
returns-in-AtZero c = rw (← c.shed_cap_at-cap.ensures, ← c.solved_at-shed.ensures, ← c.solved_at-upper.ensures, ← c.bus_state.ensures, c.in-AtZero.is)

pub returns-in-AtCap : goal.returns-in-AtCap
unfolding shed_cap
returns-in-AtCap c = rw (← c.shed_cap_at-cap.ensures, ← c.solved_at-shed.ensures, ← c.solved_at-upper.ensures, ← c.bus_state.ensures, c.in-AtCap.is)

pub returns-in-Between : goal.returns-in-Between
unfolding shed_cap
returns-in-Between c = rw (← c.shed_cap_at-cap.ensures, ← c.solved_at-shed.ensures, ← c.solved_at-upper.ensures, ← c.bus_state.ensures, c.in-Between.is)
