-- 01's tests of a solver's raw vectors, beside the network's: their lengths are number 1's, their words and the raw objective number 3's.
-- Main definitions: `raw_long`, `raw_holds`, `raw_tests`, `RawAccepted`. Assumes nothing.
use Rattle.std.specs.Prelude.{◌≡◌, Bool, ◌&&◌, List, length, eqb, Float}
use Rattle.float64.specs.Values.{within, raw_limit}
use Rattle.sequence.specs.Answers.{Test}
use Rattle.network.specs.declared.Counts.{Counts}
use Rattle.network.specs.Numbers.{Network, all_within, network_tests, Accepted}
use Rattle.solution_check.specs.Tests.{counted}
use Rattle.opf_layout.specs.declared.Active.{Active}
use Rattle.opf_layout.specs.Layout.{active_of, nvar, ncon}

-- what is active in a network
abbrev pub active_in : Network → Active
active_in N = active_of (counted N) N.wiring N.readings

-- "an input slice of wrong length": x has a word for each column of the program, z for each row
unfoldable pub raw_long : Network → List Float → List Float → Bool
raw_long N x z = eqb (length x) (nvar (counted N) (active_in N)) && eqb (length z) (ncon (counted N) (active_in N))

-- "raw readings: finite, magnitude at most 10^12"
unfoldable pub raw_holds : List Float → List Float → Float → Bool
raw_holds x z raw = all_within raw_limit x && (all_within raw_limit z && within raw_limit raw)

abbrev pub raw_tests : Network → List Float → List Float → Float → List Test
raw_tests N x z raw = network_tests N (raw_long N x z) (raw_holds x z raw)

-- what 0 says
pub record RawAccepted (N : Network) (x z : List Float) (c : Counts) : Type 0 where
  pub accepted : Accepted N c
  pub columns_long : length x ≡ nvar c (active_of c N.wiring N.readings)
  pub rows_long : length z ≡ ncon c (active_of c N.wiring N.readings)
