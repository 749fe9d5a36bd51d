-- How long the program's parts can be, at the greatest counts; and how long q, b and the cones' sizes are, by the layout.
-- Main results: `parts_few`, `sides_are`. Assumes nothing.
use mathlib.Core.Path.{◌≡◌, sym, ap, ◌∙◌}
use mathlib.Core.Bool.{Bool, true, false, cond}
use mathlib.Core.List.{List, [], ◌∷◌}
use Prim.Native.Nat.{ℕ, ◌+◌, ◌≤◌}
use native.Mathlib.Omega.{arith}
use lib.ListN.{length}
use lib.Dec.{eqb}
use lib.Ieee.{Float}
use Rattle.network.specs.declared.Counts.{Counts}
use Rattle.network.specs.Layout.{counts_of}
use Rattle.network.specs.Numbers.{Network, Accepted}
use Rattle.opf_layout.specs.declared.Active.{Active}
use Rattle.opf_layout.specs.declared.OpfLayout.{OpfLayout}
use Rattle.opf_layout.specs.Layout.{active_of, nvar, ncon, also_if, cones, Placed}
use Rattle.opf_layout.proofs.Counting.{nvar_few, ncon_few}
use Rattle.opf_assembly.specs.Assembly.{q_sheet, b_sheet}
use Rattle.opf_assembly.proofs.Lengths.{q_long, b_long}
use Rattle.opf_sides.specs.Walks.{cones_in}
use Rattle.opf_sides.proofs.Cones.{cones_are}
use Rattle.opf_problem.specs.Calls.{Parts, parts_of}
use Rattle.opf_problem.proofs.Bound.{a_length, p_length}
use Rattle.capi_problem.specs.Assembled.{sides, sides_at}
use Rattle.capi_problem.proofs.Bounds.{bounded}

also_few : (n : ℕ) (rest : List ℕ) → length (also_if n rest) ≤ 1 + length rest
also_few n rest = go (eqb n 0)
  where
    go : (b : Bool) → length (cond b rest (n ∷ rest)) ≤ 1 + length rest
    go true = omega arith
    go false = omega arith

cones_few : (c : Counts) (a : Active) → length (cones c a) ≤ 4
unfolding cones
cones_few c a = omega (arith, also_few a.equalities (also_if a.inequalities []), also_few a.inequalities [])

-- no part is longer than this
pub record Short (x : Parts) : Type 0 where
  pub p : length x.p ≤ 256
  pub a : length x.a ≤ 12304
  pub q : length x.q ≤ 1536
  pub b : length x.b ≤ 5072
  pub cones : length x.cones ≤ 4

pub parts_few : (N : Network) → Accepted N (counts_of N.wiring) → Short (parts_of N)
parts_few N h =
    let c : Counts = counts_of N.wiring in
    let f = h.wired.laid.few in
    let k = bounded c N.wiring N.readings f in
    record {
      p = omega (arith, p_length c N.wiring N.readings, f.generators);
      a = omega (arith, a_length c N.wiring N.readings N.indexes N.coefficients h.wired, f);
      q = omega (arith, q_long c N.wiring N.readings, nvar_few c (active_of c N.wiring N.readings) k);
      b = omega (arith, b_long c N.wiring N.readings, ncon_few c (active_of c N.wiring N.readings) k);
      cones = cones_few c (active_of c N.wiring N.readings);
    }

-- a placed layout's totals are the lengths of q and b, and its cones are the program's
module _ (w : List ℕ) (r : List Float) where
  sides_at_lem : {c : Counts} {a : Active} {lay : OpfLayout} {k : ℕ} → a ≡ active_of c w r → Placed c a lay → k ≡ length (cones_in lay) → sides lay.nvar lay.ncon k ≡ sides_at c w r
  sides_at_lem {c} {a} {lay} {k} e h q =
      let n : lay.nvar ≡ length (q_sheet c w r) = h.nvar_is ∙ ap (nvar c) e ∙ sym (q_long c w r) in
      let m : lay.ncon ≡ length (b_sheet c w r) = h.ncon_is ∙ ap (ncon c) e ∙ sym (b_long c w r) in
      let s : k ≡ length (cones c (active_of c w r)) = q ∙ ap (λ (l : List ℕ). length l) (cones_are c a lay h) ∙ ap (λ (b : Active). length (cones c b)) e in
      rw (n, m, s)

  pub sides_are : {c : Counts} {a : Active} {lay : OpfLayout} {k : ℕ} → c ≡ counts_of w → a ≡ active_of c w r → Placed c a lay → k ≡ length (cones_in lay) → sides lay.nvar lay.ncon k ≡ sides_at (counts_of w) w r
  sides_are z e h q = sides_at_lem e h q ∙ ap (λ (c : Counts). sides_at c w r) z
