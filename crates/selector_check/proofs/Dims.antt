-- The system of a network whose sizes hold has at most 6544 rows: 5n + 3k + 6m + p + S + 2q + R at the greatest counts.
-- Main result: `dim_few`. Assumes nothing.
use mathlib.Core.Path.{◌≡◌}
use mathlib.Core.Bool.{true}
use Prim.Native.Nat.{◌≤◌}
use native.Mathlib.Omega.{arith}
use Rattle.network.specs.Numbers.{Network, sizes_hold}
use Rattle.network.proofs.Tests.{sized_few}
use Rattle.kkt_index.specs.Index.{dim}
use Rattle.kkt_index.proofs.Starts.{few_rows}
use Rattle.solution_check.specs.Tests.{counted}
use Rattle.solution_check.proofs.Own.{few_pieces}
use Rattle.selector_check.specs.Tests.{dim_of}

pub dim_few : (N : Network) → sizes_hold N ≡ true → dim_of N ≤ 6544
unfolding dim
dim_few N h = omega (arith, sized_few N h, few_pieces (counted N) N.wiring, few_rows (counted N) N.wiring N.readings)
