-- What a call for a number of every bus asks of the function that fills its sheet, and what that makes of the sheet. Assumes nothing.
use Rattle.std.specs.Prelude.{ℕ, ◌≤◌, ◌≡◌, List, length, Float}
use Rattle.std.specs.Borrow.{Bor, MutBor}
use Rattle.sequence.specs.Lists.{made, front}
use Rattle.network.specs.declared.Counts.{Counts}
use Rattle.network.specs.declared.site.Grid.{Grid}
use Rattle.network.specs.Numbers.{Network}
use Rattle.model.specs.Calls.{counted}

-- a bus's number, of the counts, the wiring and the readings
abbrev pub OfBus : Type 0
OfBus = Counts → List ℕ → List Float → ℕ → Float

abbrev pub of_grid : OfBus → Grid → ℕ → Float
of_grid f g = f g.plan.counts g.plan.wiring.now g.plan.readings.now

abbrev pub of_network : OfBus → Network → ℕ → Float
of_network f N = f (counted N) N.wiring N.readings

-- it may be called on a sheet that has room for a number of every bus
abbrev pub FillsBuses : (Bor Grid → MutBor (List Float) → Type 0) → Type 0
FillsBuses pre = (g : Bor Grid) (s : MutBor (List Float)) → g.now.plan.counts.buses ≤ length s.now → pre g s

-- and leaves number f of each of them in front
abbrev pub BusesAre : (Bor Grid → MutBor (List Float) → Unit {0} → MutBor (List Float) → Type 0) → OfBus → Type 0
BusesAre post f = (g : Bor Grid) (s after : MutBor (List Float)) (r : Unit {0}) → g.now.plan.counts.buses ≤ length s.now → post g s r after → after.now ≡ front (made (of_grid f g.now) g.now.plan.counts.buses) s.now
