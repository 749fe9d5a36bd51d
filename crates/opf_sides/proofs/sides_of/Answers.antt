-- `opf_sides::sides_of` meets its contract, block by block. Assumes nothing.
use mathlib.Core.Path.{◌∙◌}
use Rattle.model.specs.Quantities.{shed_cap}
use Rattle.opf_sides.proofs.sides_of.Goals as goal

pub returns-in-ShedUb : goal.returns-in-ShedUb
unfolding shed_cap
returns-in-ShedUb c = c.shed_side.ensures ∙ rw (c.shed_cap_at.ensures, c.in-ShedUb.is)
