-- `opf_problem::lay_sides` meets its contract: q, b and the cones, each on its own sheet. Assumes nothing.
use mathlib.Core.Path.{ap, ◌∙◌}
use mathlib.Core.List.{List}
use Prim.Native.Nat.{ℕ}
use native.Mathlib.Omega.{arith}
use lib.ListN.{length}
use Rattle.sequence.specs.Lists.{front}
use Rattle.opf_layout.specs.Layout.{active_of}
use Rattle.opf_sides.proofs.Cones.{cones_are, cones_narrow}
use Rattle.opf_problem.proofs.lay_sides.Goals as goal

pub put_cones-requires-clause-narrowed : goal.put_cones-requires-clause-narrowed
put_cones-requires-clause-narrowed c = let a = c.args in let t = active_of a.draft.now.site.grid.plan.counts a.draft.now.site.grid.plan.wiring.now a.draft.now.site.grid.plan.readings.now in cones_narrow a.draft.now.site.grid.plan.counts t a.draft.now.layout c.args.draft.now.placed c.args.draft.now.bounded

pub put_cones-requires-clause-lay_in_bounds : goal.put_cones-requires-clause-lay_in_bounds
put_cones-requires-clause-lay_in_bounds c = let a = c.args in let t = active_of a.draft.now.site.grid.plan.counts a.draft.now.site.grid.plan.wiring.now a.draft.now.site.grid.plan.readings.now in omega (arith, ap (λ (l : List ℕ). length l) (cones_are a.draft.now.site.grid.plan.counts t a.draft.now.layout c.args.draft.now.placed), c.requires.2)

pub returns-clause-sizes_after : goal.returns-clause-sizes_after
returns-clause-sizes_after c = let a = c.args in c.put_cones.ensures ∙ ap (λ (l : List ℕ). front l a.sizes.now) (cones_are a.draft.now.site.grid.plan.counts (active_of a.draft.now.site.grid.plan.counts a.draft.now.site.grid.plan.wiring.now a.draft.now.site.grid.plan.readings.now) a.draft.now.layout c.args.draft.now.placed)
