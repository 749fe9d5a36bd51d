-- A solver's raw vectors beside the network whose program they solve. Main definition: `RawLaid`. Assumes nothing.
use Rattle.std.specs.Prelude.{ℕ, ◌≡◌, List, length, Float}
use Rattle.network.specs.declared.Counts.{Counts}
use Rattle.opf_layout.specs.declared.OpfLayout.{OpfLayout}
use Rattle.opf_layout.specs.Layout.{active_of, nvar, ncon, Bounded, Placed}

-- the raw vectors are as long as the program, and the layout is the program's
pub record RawLaid (c : Counts) (w : List ℕ) (r x z : List Float) (lay : OpfLayout) : Type 0 where
  pub placed : Placed c (active_of c w r) lay
  pub bounded : Bounded c (active_of c w r)
  pub columns_long : length x ≡ nvar c (active_of c w r)
  pub rows_long : length z ≡ ncon c (active_of c w r)
