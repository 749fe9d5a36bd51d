-- A solver's raw vectors beside the network's tests: their lengths against a placed layout's, and what is said of them where no test holds.
-- Main results: `rows_left`, `columns_off`, `raw_accepted`. Assumes nothing.
use mathlib.Core.Path.{◌≡◌}
use mathlib.Core.Bool.{true, false}
use mathlib.Core.List.{List}
use lib.Dec.{eqb}
use lib.ListN.{length}
use lib.Ieee.{Float}
use borrow.Author.Tests.{eq-eqb, ne_eqb}
use Rattle.network.specs.declared.Counts.{Counts}
use Rattle.network.specs.Numbers.{Network, Accepted}
use Rattle.model.proofs.Calls.{both_equal}
use Rattle.solution_check.specs.Tests.{counted}
use Rattle.opf_layout.specs.declared.Active.{Active}
use Rattle.opf_layout.specs.declared.OpfLayout.{OpfLayout}
use Rattle.opf_layout.specs.Layout.{active_of, nvar, ncon, Placed}
use Rattle.raw_check.specs.Tests.{active_in, raw_long, RawAccepted}

module _ (N : Network) (x z : List Float) {c : Counts} {a : Active} {l : OpfLayout} (k : c ≡ counted N) (q : a ≡ active_of c N.wiring N.readings) (p : Placed c a l) where
  -- x is as long as it should be: z's length is left
  pub rows_left : length x ≡ l.nvar → eqb (length z) l.ncon ≡ raw_long N x z
  unfolding raw_long
  rows_left e = let h = rw (p.nvar_is, q, k) at e in rw (eq-eqb _ _ h, p.ncon_is, q, k)

  -- x is not: z's length says nothing
  pub columns_off : (length x ≡ l.nvar → ⊥) → false ≡ raw_long N x z
  unfolding raw_long
  columns_off f = let h = rw (p.nvar_is, q, k) at f in rw (ne_eqb _ _ h)

-- an accepted network whose raw vectors are as long as the program
pub raw_accepted : (N : Network) (x z : List Float) {c : Counts} → Accepted N c → raw_long N x z ≡ true → RawAccepted N x z c
unfolding raw_long
raw_accepted N x z a e =
    let l = both_equal (length x) (nvar (counted N) (active_in N)) (length z) (ncon (counted N) (active_in N)) e in
    record { accepted = a; columns_long = rw a.counts l.0; rows_long = rw a.counts l.1 }
