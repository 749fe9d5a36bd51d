-- `opf_sides::put_cones` meets its contract: two sizes, and the linear ones where they are above 0. Assumes nothing.
use mathlib.Core.Path.{refl}
use mathlib.Core.Bool.{not}
use mathlib.Core.List.{[], ◌∷◌}
use lib.Dec.{eqb}
use lib.ListN.{set}
use Rattle.sequence.specs.Lists.{when}
use Rattle.opf_sides.specs.Walks.{Stores}
use Rattle.opf_sides.proofs.Storing.{one, when_on, when_off}
use Rattle.opf_sides.proofs.Cones.{above, at_zero, cones_put}
use Rattle.opf_sides.proofs.put_cones.Goals as goal
use Rattle.opf_sides.proofs.put_cones.Goals.{then-equalities-ne0, else-equalities-ne0}

pub returns-then-inequalities-ne0 : goal.returns-then-inequalities-ne0
returns-then-inequalities-ne0 c = let x = c.args.lay in
    let e : Stores (when (not (eqb x.active.equalities 0)) (x.active.equalities ∷ [])) 2 (set (set c.args.sizes.now 0 x.n_eq) 1 x.n_ineq) c.if-equalities-ne0.sizes c.if-equalities-ne0.k =
    elim c.if-equalities-ne0.branch [
      | then-equalities-ne0 w ↦ rw (w.sizes-is, w.k-is) (when_on (above w.if-equalities-ne0.true) (one 2 x.active.equalities refl))
      | else-equalities-ne0 w ↦ rw (w.sizes-is, w.k-is) (when_off (x.active.equalities ∷ []) (at_zero w.if-equalities-ne0.false))
    ] in
    cones_put x c.args.sizes.now e (when_on (above c.if-inequalities-ne0.true) (one _ x.active.inequalities refl)) c.requires.lay_in_bounds

pub returns-else-inequalities-ne0 : goal.returns-else-inequalities-ne0
returns-else-inequalities-ne0 c = let x = c.args.lay in
    let e : Stores (when (not (eqb x.active.equalities 0)) (x.active.equalities ∷ [])) 2 (set (set c.args.sizes.now 0 x.n_eq) 1 x.n_ineq) c.if-equalities-ne0.sizes c.if-equalities-ne0.k =
    elim c.if-equalities-ne0.branch [
      | then-equalities-ne0 w ↦ rw (w.sizes-is, w.k-is) (when_on (above w.if-equalities-ne0.true) (one 2 x.active.equalities refl))
      | else-equalities-ne0 w ↦ rw (w.sizes-is, w.k-is) (when_off (x.active.equalities ∷ []) (at_zero w.if-equalities-ne0.false))
    ] in
    cones_put x c.args.sizes.now e (when_off (x.active.inequalities ∷ []) (at_zero c.if-inequalities-ne0.false)) c.requires.lay_in_bounds
