-- A call's own tests beside the network's: a size that is only asked where the network's hold, and values that are tested after all else.
-- Main results: `own_size`, `later_stands`, `later_passes`, `before_refused`, `before_accepted`, `solved`, `site_sheet`, `long_few`. Assumes nothing.
use mathlib.Core.Path.{◌≡◌, refl, sym, subst, ◌∙◌}
use mathlib.Core.Bool.{Bool, true, false, cond, not, ◌&&◌}
use mathlib.Core.List.{List, [], ◌∷◌}
use Prim.Native.Nat.{ℕ, ◌≤◌}
use native.Mathlib.Omega.{arith}
use lib.Dec.{T, eqb}
use lib.ListN.{length}
use lib.Ieee.{Float}
use borrow.Author.Tests.{eqb-true}
use Rattle.sequence.specs.declared.Refusal.{Refusal}
use Rattle.sequence.specs.Answers.{test, first_of, refusal_number}
use Rattle.sequence.proofs.Answers.{refused}
use Rattle.sequence.proofs.Lists.{and_right, before_bound}
use Rattle.network.specs.declared.Counts.{Counts}
use Rattle.network.specs.Layout.{segments_at, counts_of}
use Rattle.network.specs.Numbers.{Network, sizes_hold, wiring_holds, readings_hold, network_tests, Accepted}
use Rattle.network.specs.declared.site.Lent.{Lent}
use Rattle.network.specs.declared.site.Site.{Site}
use Rattle.network.specs.Sites.{network_in, SiteOf}
use Rattle.network.proofs.Tests.{sized_few}
use Rattle.solution.specs.Sheet.{piece, piece_rank, pieces, sheet_length, SheetLaid}
use Rattle.solution_check.specs.Tests.{counted, pieces_of, solution_long, Solved}

-- no test both holds and fails
pub apart : (b : Bool) → b ≡ true → b ≡ false → ⊥
apart true e f = subst T f tt
apart false e f = subst T (sym e) tt

-- where the network's sizes do not hold, the call's own say nothing
pub own_size : (N : Network) (b l v : Bool) → (sizes_hold N ≡ true → b ≡ l) → first_of (network_tests N b v) ≡ first_of (network_tests N l v)
unfolding first_of
own_size N b l v f = go (sizes_hold N) f
  where
    go : (h : Bool) → (h ≡ true → b ≡ l)
        → first_of (test 1 (not (h && b)) ∷ test 2 (not (wiring_holds (counts_of N.wiring) N.wiring N.indexes)) ∷ test 3 (not (readings_hold (counts_of N.wiring) N && v)) ∷ [])
        ≡ first_of (test 1 (not (h && l)) ∷ test 2 (not (wiring_holds (counts_of N.wiring) N.wiring N.indexes)) ∷ test 3 (not (readings_hold (counts_of N.wiring) N && v)) ∷ [])
    go true f = rw (f refl)
    go false f = refl

three : (a b r v : Bool) → ℕ
three a b r v = first_of (test 1 (not a) ∷ test 2 (not b) ∷ test 3 (not (r && v)) ∷ [])

stands : (a b r v : Bool) {k : ℕ} → k ≡ three a b r true → (k ≡ 0 → ⊥) → k ≡ three a b r v
unfolding first_of three
stands false b r v e h = e
stands true false r v e h = e
stands true true false v e h = e
stands true true true v e h = absurd (h e)

passes : (a b r v : Bool) {k : ℕ} → k ≡ three a b r true → k ≡ 0 → cond v 0 3 ≡ three a b r v
unfolding first_of three
passes false b r v e h = absurd (omega arith)
passes true false r v e h = absurd (omega arith)
passes true true false v e h = absurd (omega arith)
passes true true true true e h = refl
passes true true true false e h = refl

sized : (a b r v : Bool) → 0 ≡ three a b r v → a ≡ true
unfolding first_of three
sized true b r v e = refl
sized false b r v e = absurd (omega (arith, e))

-- values that are tested last: the other tests' number stands, or only theirs is left
module _ (N : Network) (b v : Bool) {k : ℕ} (e : k ≡ first_of (network_tests N b true)) where
  pub later_stands : (k ≡ 0 → ⊥) → k ≡ first_of (network_tests N b v)
  unfolding three
  later_stands h = stands (sizes_hold N && b) (wiring_holds (counts_of N.wiring) N.wiring N.indexes) (readings_hold (counts_of N.wiring) N) v e h

  pub later_passes : k ≡ 0 → cond v 0 3 ≡ first_of (network_tests N b v)
  unfolding three
  later_passes h = passes (sizes_hold N && b) (wiring_holds (counts_of N.wiring) N.wiring N.indexes) (readings_hold (counts_of N.wiring) N) v e h

-- a network accepted with sizes that are the call's own where the network's hold, before the call's values are tested
module _ (N : Network) (b l v : Bool) (f : sizes_hold N ≡ true → b ≡ l) where
  pub before_refused : (d : Refusal) → refusal_number d ≡ first_of (network_tests N b true) → refusal_number d ≡ first_of (network_tests N l v)
  before_refused d e = later_stands N l v (e ∙ own_size N b l true f) (refused d)

  pub before_accepted : 0 ≡ first_of (network_tests N b true) → (l ≡ true) × (cond v 0 3 ≡ first_of (network_tests N l v))
  unfolding three
  before_accepted e = let h = e ∙ own_size N b l true f in
      (and_right (sizes_hold N) l (sized (sizes_hold N && l) (wiring_holds (counts_of N.wiring) N.wiring N.indexes) (readings_hold (counts_of N.wiring) N) true h), later_passes N l v h refl)

pub few_pieces : (c : Counts) (w : List ℕ) → pieces c w ≤ c.generators
unfolding piece_rank
few_pieces c w = omega (arith, before_bound (piece c w) 1 c.generators (λ j h. go (eqb (segments_at c w j) 0)))
  where
    go : (b : Bool) → cond b 0 1 ≤ 1
    go true = omega arith
    go false = omega arith

-- an accepted network whose sheet is as long as it should be
pub solved : (N : Network) (s : List Float) {c : Counts} → Accepted N c → solution_long N s ≡ true → Solved N s c
unfolding solution_long
solved N s {c} a e = record {
  accepted = a;
  laid = record { few = a.wired.laid.few; few_pieces = few_pieces c N.wiring; long = rw a.counts (eqb-true _ _ e) };
}

-- the sheet of a site that was accepted with it, at the site's own wiring
pub site_sheet : {l : Lent} {site : Site} {s : List Float} {p : ℕ} → SiteOf l site → Solved (network_in l) s site.grid.plan.counts → p ≡ pieces site.grid.plan.counts site.grid.plan.wiring.now → SheetLaid site.grid.plan.counts p s
site_sheet a d e = rw (e, a.wiring) d.laid

-- the longest sheet: 5n + 3k + 5m + p + S + 2q + 1 at the greatest counts
pub long_few : (N : Network) (s : List Float) → sizes_hold N ≡ true → solution_long N s ≡ true → length s ≤ 6017
unfolding solution_long
long_few N s h e =
    let l : length s ≡ sheet_length (counted N) (pieces_of N) = eqb-true _ _ e in
    omega (arith, l, sized_few N h, few_pieces (counted N) N.wiring)
