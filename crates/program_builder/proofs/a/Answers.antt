-- `program_builder::a` meets its contract: a triplet whose value is not zero. Assumes nothing.
use mathlib.Core.Path.{◌≡◌, refl, ◌∙◌}
use mathlib.Core.Bool.{Bool, true, false, cond}
use lib.Ieee.{ne, of_bits, of_int}
use Rattle.std.specs.Prelude.{Some, None}
use Rattle.std.specs.Bool.{then_some}
use Rattle.float64.specs.Values.{whole}
use Rattle.program_builder.proofs.a.Goals as goal

then_some_cond : {A : Type 0} (b : Bool) (x : A) → then_some b x ≡ cond b (Some x) None
then_some_cond true x = refl
then_some_cond false x = refl

pub returns : goal.returns
unfolding ne whole of_int of_bits
returns c = c.then_some.ensures ∙ then_some_cond _ _
