-- How large a program gets: what is active in a network of few elements is few, and so are the program's columns and rows.
-- Main results: `bounded`, `columns_few`, `rows_few`. Assumes nothing.
use mathlib.Core.Path.{◌≡◌}
use mathlib.Core.Bool.{true}
use mathlib.Core.List.{List}
use Prim.Native.Nat.{ℕ, ◌*◌, ◌≤◌}
use native.Mathlib.Omega.{arith}
use lib.ListN.{length}
use lib.Ieee.{Float}
use Rattle.sequence.proofs.Lists.{before_bound}
use Rattle.network.specs.declared.Counts.{Counts}
use Rattle.network.specs.Layout.{Few}
use Rattle.network.specs.Numbers.{Network, sizes_hold}
use Rattle.network.proofs.Tests.{sized_few}
use Rattle.model.specs.Rows.{row_limits}
use Rattle.model.proofs.Calls.{both_equal}
use Rattle.solution_check.specs.Tests.{counted}
use Rattle.solution_check.proofs.Own.{few_pieces}
use Rattle.opf_layout.specs.Layout.{equalities, inequalities, equality_rank, inequality_rank, active_of, Bounded, nvar, ncon}
use Rattle.opf_layout.proofs.Counting.{equalities_few, inequalities_few, nvar_few, ncon_few}
use Rattle.opf_layout.proofs.Ranks.{rank_few}
use Rattle.raw_check.specs.Tests.{active_in, raw_long}

module _ (c : Counts) (w : List ℕ) (r : List Float) where
  equality_few : equality_rank c w r c.rows ≤ c.rows
  unfolding equality_rank
  equality_few = omega (arith, before_bound (λ i. equalities (row_limits c w r i)) 1 c.rows (λ i h. equalities_few (row_limits c w r i)))

  inequality_few : inequality_rank c w r c.rows ≤ 2 * c.rows
  unfolding inequality_rank
  inequality_few = omega (arith, before_bound (λ i. inequalities (row_limits c w r i)) 2 c.rows (λ i h. inequalities_few (row_limits c w r i)))

  pub bounded : Few c → Bounded c (active_of c w r)
  unfolding active_of
  bounded f =
      record {
        few = f;
        few_lines = rank_few _ c.branches;
        few_generators = rank_few _ c.generators;
        few_sheds = rank_few _ c.buses;
        few_phases = rank_few _ c.branches;
        few_pieces = few_pieces c w;
        few_equalities = equality_few;
        few_inequalities = inequality_few;
      }

-- raw vectors as long as the program are no longer than the longest program's
module _ (N : Network) (x z : List Float) (h : sizes_hold N ≡ true) (e : raw_long N x z ≡ true) where
  pub columns_few : length x ≤ 1536
  unfolding raw_long
  columns_few =
      omega (arith, (both_equal (length x) (nvar (counted N) (active_in N)) (length z) (ncon (counted N) (active_in N)) e).0, nvar_few (counted N) (active_in N) (bounded (counted N) N.wiring N.readings (sized_few N h)))

  pub rows_few : length z ≤ 5072
  unfolding raw_long
  rows_few =
      omega (arith, (both_equal (length x) (nvar (counted N) (active_in N)) (length z) (ncon (counted N) (active_in N)) e).1, ncon_few (counted N) (active_in N) (bounded (counted N) N.wiring N.readings (sized_few N h)))
