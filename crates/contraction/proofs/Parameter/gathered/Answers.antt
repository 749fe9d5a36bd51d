-- `contraction::Parameter::gathered` meets its contract: the terms in front of the slices. Assumes nothing.
use mathlib.Core.Path.{◌≡◌, refl}
use lib.ListN.{length}
use Rattle.contraction.specs.Contraction.{Gathers}
use Rattle.contraction.specs.declared.Terms.{Terms}
use Rattle.contraction.proofs.Gathers.{of_some, in_front}
use Rattle.contraction.proofs.Parameter.gathered.Goals as goal

pub invariant_of-result-2 : goal.invariant_of-result-2
invariant_of-result-2 c =
    let w = c.args.words.now in
    record {
      gathers = of_some (λ (t : Terms). Gathers t.rows.now t.weights.now (length t.rows.now) (length w) w) (in_front (rw c.in-Some.is at c.requires));
      of_dim = of_some (λ (t : Terms). t.dim ≡ length w) refl;
    }
