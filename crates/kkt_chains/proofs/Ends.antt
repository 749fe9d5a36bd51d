-- The ends of the branches, each where it is at bus j, are the branches at bus j.
-- Main result: `ends_incident`. Assumes nothing.
use mathlib.Core.Path.{◌≡◌, ◌∙◌}
use mathlib.Core.List.{List}
use Prim.Native.Nat.{ℕ, ◌+◌, ◌*◌, ◌/◌, ◌%◌}
use native.Mathlib.Omega.{arith}
use lib.Dec.{eqb}
use Rattle.sequence.specs.Lists.{each, when}
use Rattle.sequence.proofs.Lists.{each_pairs, each_same}
use Rattle.network.specs.declared.Counts.{Counts}
use Rattle.susceptance.specs.Incidence.{end_at}
use Rattle.susceptance.proofs.Incidence.{end_even, end_odd}
use Rattle.kkt.specs.Slots.{Slot, end_slots, incident}
use Rattle.kkt.specs.Walks.{sign_at}

-- the slots of end x, which is at bus j
abbrev pub at_end : Counts → List ℕ → ℕ → ℕ → List Slot
at_end c w j x = end_slots c w j (sign_at x) (x / 2)

pub ends_incident : (c : Counts) (w : List ℕ) (j m : ℕ) → each (2 * m) (λ x. when (eqb (end_at c w x) j) (at_end c w j x)) ≡ each m (incident c w j)
ends_incident c w j m =
    each_pairs (λ x. when (eqb (end_at c w x) j) (at_end c w j x)) m
    ∙ each_same m _ (incident c w j) (λ e h.
    let p : 2 * e % 2 ≡ 0 = omega arith in
    let q : 2 * e / 2 ≡ e = omega arith in
    let r : (2 * e + 1) % 2 ≡ 1 = omega arith in
    let s : (2 * e + 1) / 2 ≡ e = omega arith in
    rw (end_even c w e, end_odd c w e, p, q, r, s))
