-- `sens::front` meets its contract: as many words as there are, or none. Assumes nothing.
use mathlib.Core.Path.{◌≡◌, refl, ap, ◌∙◌}
use mathlib.Core.List.{List, []}
use mathlib.Core.Logic.{⊎_elim}
use Prim.Native.Nat.{ℕ, ◌-◌, ◌<◌}
use native.Mathlib.Omega.{arith}
use lib.ListN.{length}
use lib.Ieee.{Float}
use borrow.Author.Tests.{le-leb, lt-leb}
use Rattle.std.specs.Prelude.{Option, Some, None}
use Rattle.std.specs.Borrow.{Bor}
use Rattle.std.specs.Option.{unwrap_or}
use Rattle.std.specs.Slice.{IsGetRangeResult}
use Rattle.sequence.specs.Lists.{when}
use Rattle.sens.specs.Calls.{front_of}
use Rattle.sens.proofs.front.Goals as goal

fronted : (sheet : List Float) (count : ℕ) (part : Option (Bor (List Float))) (none : Bor (List Float)) → none.now ≡ [] → IsGetRangeResult sheet 0 count part → (unwrap_or part none).now ≡ front_of sheet count
unfolding when
fronted sheet count None none e h =
    let l : length sheet < count = ⊎_elim (λ z. absurd (omega (arith, z))) (λ z. z) h.0 in
    rw (lt-leb count (length sheet) l) e
fronted sheet count (Some x) none e h =
    let z : count - 0 ≡ count = omega arith in
    rw (le-leb count (length sheet) h.0.1, ← z) h.0.2

pub returns : goal.returns
returns c = ap (λ (x : Bor (List Float)). x.now) c.unwrap_or.ensures ∙ fronted _ _ _ _ refl c.get.ensures.lookup
