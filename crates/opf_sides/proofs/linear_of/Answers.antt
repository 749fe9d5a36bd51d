-- `opf_sides::linear_of` meets its contract, block by block. Assumes nothing.
use mathlib.Core.Path.{◌≡◌, refl}
use mathlib.Core.Bool.{Bool, true, false}
use mathlib.Core.List.{[], ◌∷◌}
use mathlib.Core.Logic.{⊎_elim}
use lib.Ieee.{Float, binary64, add, of_bits, of_int}
use Rattle.std.specs.Bool.{then_some}
use Rattle.float64.specs.Values.{nought, whole}
use Rattle.sequence.specs.Lists.{when}
use Rattle.opf_sides.specs.Walks.{added_word}
use Rattle.opf_sides.proofs.linear_of.Goals as goal

meant_word : (on : Bool) (v : Float) → added_word (then_some on v) ≡ when on (add binary64 nought v ∷ [])
unfolding when
meant_word true v = refl
meant_word false v = refl

pub returns-in-Va : goal.returns-in-Va
unfolding whole of_int of_bits add
returns-in-Va c = ⊎_elim (λ e. rw e) (λ e. rw e) c.in-Va.is

pub returns-in-Shed : goal.returns-in-Shed
unfolding whole of_int of_bits
returns-in-Shed c = rw (c.in-Shed.is, c.then_some.ensures, c.sheds_at.ensures, c.reading-in-Shed.ensures) (meant_word _ _)

pub returns-in-Cost : goal.returns-in-Cost
unfolding whole of_int of_bits
returns-in-Cost c = rw (c.in-Cost.is, c.then_some-in-Cost.ensures, c.word.ensures.0) (meant_word _ _)
