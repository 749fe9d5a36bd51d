-- What is asked of a function that puts triplets into a sink, and which list it puts. Assumes nothing.
use Rattle.std.specs.Prelude.{◌≡◌, List}
use Rattle.std.specs.Borrow.{MutBor}
use Rattle.sequence.specs.declared.Triplet.{Triplet}
use Rattle.sequence.specs.declared.Sink.{Sink}
use Rattle.sequence.specs.Sinks.{Gains}

-- it may be called on any empty sink
abbrev pub PutsIntoEmpty : (MutBor Sink → Type 0) → Type 0
PutsIntoEmpty pre = (s : MutBor Sink) → s.now.count ≡ 0 → pre s

-- and puts the list
abbrev pub PutIs : (MutBor Sink → Unit {0} → MutBor Sink → Type 0) → List Triplet → Type 0
PutIs post ts = (s after : MutBor Sink) (r : Unit {0}) → s.now.count ≡ 0 → post s r after → Gains ts s.now after.now
