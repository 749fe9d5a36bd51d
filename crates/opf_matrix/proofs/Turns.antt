-- A turn of a loop by its counts, and the counts of the next: each is as the specification names it.
-- Main results: `shed_turn`, `generator_turn`, `reference_turn`, `capability_turn`, `bounds_turn`, `rank_on`, `rank_off`, `piece_more`, `equality_more`, `inequality_more`. Assumes nothing.
use mathlib.Core.Path.{◌≡◌, refl, sym, ◌∙◌}
use mathlib.Core.Bool.{Bool, true, false, cond}
use mathlib.Core.List.{List, [], ◌∷◌}
use Prim.Native.Nat.{ℕ, ◌+◌, ◌≤◌}
use native.Mathlib.Omega.{arith}
use lib.Dec.{eqb}
use lib.Ieee.{Float, neg}
use Rattle.std.specs.Prelude.{Option}
use Rattle.float64.specs.Values.{one}
use Rattle.sequence.specs.declared.Triplet.{Triplet}
use Rattle.sequence.specs.declared.Sink.{Sink}
use Rattle.sequence.specs.Sheets.{emit}
use Rattle.sequence.specs.Sinks.{Gains}
use Rattle.sequence.proofs.Lists.{before_bound, before_more}
use Rattle.network.specs.declared.Counts.{Counts}
use Rattle.network.specs.declared.Part.TheVariants.{GenBus, References, GeneratorFlags}
use Rattle.network.specs.Layout.{wire, segments_at}
use Rattle.model.specs.declared.RowLimits.{RowLimits}
use Rattle.model.specs.Rows.{row_limits}
use Rattle.solution.specs.Sheet.{piece, piece_rank}
use Rattle.snapping.specs.Expr.{unit}
use Rattle.opf_layout.specs.declared.OpfColumn.TheVariants.{Va, Pg, Shed}
use Rattle.opf_layout.specs.declared.OpfRow.TheVariants.{Balance, Reference, GenUb, GenLb, ShedUb, ShedLb}
use Rattle.opf_layout.specs.declared.OpfLayout.{OpfLayout}
use Rattle.opf_layout.specs.Layout.{active_rank, flagged, sheds, equalities, inequalities, equality_rank, inequality_rank}
use Rattle.opf_layout.proofs.Counting.{rank_more}
use Rattle.kkt.specs.Walks.{emits}
use Rattle.opf_assembly.specs.Assembly.{coefficient, two_sides, shed_entry, generator_entry, reference_entry, capability_entries, shed_bounds}
use Rattle.opf_program.specs.Walks.{written, entry_in}
use Rattle.opf_program.proofs.Triplets.{all_put, meant_put, one_put}

-- ---- the turns

module _ (x : OpfLayout) (c : Counts) (w : List ℕ) (r : List Float) (i : ℕ) {S₀ S₁ : Sink} {n : ℕ} where
  pub shed_turn : {t : Option Triplet} → sheds c w r i ≡ true → n ≡ active_rank (sheds c w r) i → t ≡ entry_in x Balance i Shed n one → Gains (emit t) S₀ S₁
      → Gains (written x c r (shed_entry c w r i)) S₀ S₁
  shed_turn h e f p =
      let k = coefficient Balance i Shed (active_rank (sheds c w r) i) unit in
      meant_put x c r (k ∷ []) h (one_put x c r k (f ∙ rw e refl) p)

  pub generator_turn : {t : Option Triplet} → n ≡ wire c w GenBus i → t ≡ entry_in x Balance n Pg i one → Gains (emit t) S₀ S₁ → Gains (written x c r (generator_entry c w r i)) S₀ S₁
  generator_turn e f p = one_put x c r (coefficient Balance (wire c w GenBus i) Pg i unit) (f ∙ rw e refl) p

  pub reference_turn : {t : Option Triplet} → n ≡ wire c w References i → t ≡ entry_in x Reference i Va n one → Gains (emit t) S₀ S₁ → Gains (written x c r (reference_entry c w r i)) S₀ S₁
  reference_turn e f p = one_put x c r (coefficient Reference i Va (wire c w References i) unit) (f ∙ rw e refl) p

  pub capability_turn : {ts : List (Option Triplet)} → flagged c w GeneratorFlags i ≡ true → n ≡ active_rank (flagged c w GeneratorFlags) i
      → ts ≡ entry_in x GenUb n Pg i one ∷ entry_in x GenLb n Pg i (neg one) ∷ [] → Gains (emits ts) S₀ S₁ → Gains (written x c r (capability_entries c w r i)) S₀ S₁
  capability_turn h e f p =
      let ks = two_sides GenUb GenLb (active_rank (flagged c w GeneratorFlags) i) Pg i in
      meant_put x c r ks h (all_put x c r ks (f ∙ rw e refl) p)

  pub bounds_turn : {ts : List (Option Triplet)} → sheds c w r i ≡ true → n ≡ active_rank (sheds c w r) i
      → ts ≡ entry_in x ShedUb n Shed n one ∷ entry_in x ShedLb n Shed n (neg one) ∷ [] → Gains (emits ts) S₀ S₁ → Gains (written x c r (shed_bounds c w r i)) S₀ S₁
  bounds_turn h e f p =
      let k = active_rank (sheds c w r) i in
      let ks = two_sides ShedUb ShedLb k Shed k in
      meant_put x c r ks h (all_put x c r ks (f ∙ rw e refl) p)

-- the next rank, after one that is active and after one that isn't
pub rank_on : (on : ℕ → Bool) (i : ℕ) {n : ℕ} → n ≡ active_rank on i → on i ≡ true → n + 1 ≡ active_rank on (i + 1)
rank_on on i e h = rank_more on i {b = true} e refl (sym h)

pub rank_off : (on : ℕ → Bool) (i : ℕ) {n : ℕ} → n ≡ active_rank on i → on i ≡ false → n ≡ active_rank on (i + 1)
rank_off on i e h = omega (arith, rank_more on i {b = false} {one = 0} e refl (sym h))

-- ---- the counts

none_few : (b : Bool) → cond b 0 1 ≤ 1
none_few true = omega arith
none_few false = omega arith

pub piece_few : (c : Counts) (w : List ℕ) (i : ℕ) → piece_rank c w i ≤ i
unfolding piece_rank
piece_few c w i = omega (arith, before_bound (piece c w) 1 i (λ j h. none_few (eqb (segments_at c w j) 0)))

-- the next epigraph, equality and inequality
pub piece_more : (c : Counts) (w : List ℕ) (i : ℕ) {a s q : ℕ} → q ≡ a + cond (eqb s 0) 0 1 → a ≡ piece_rank c w i → s ≡ segments_at c w i → q ≡ piece_rank c w (i + 1)
unfolding piece_rank
piece_more c w i e f g = rw (before_more (piece c w) i, e, f, g)

module _ (c : Counts) (w : List ℕ) (r : List Float) (i : ℕ) {k : RowLimits} {a s : ℕ} where
  pub equality_more : a ≡ equality_rank c w r i → s ≡ equalities k → k ≡ row_limits c w r i → a + s ≡ equality_rank c w r (i + 1)
  unfolding equality_rank
  equality_more e f g = rw (before_more (λ j. equalities (row_limits c w r j)) i, e, f, g)

  pub inequality_more : a ≡ inequality_rank c w r i → s ≡ inequalities k → k ≡ row_limits c w r i → a + s ≡ inequality_rank c w r (i + 1)
  unfolding inequality_rank
  inequality_more e f g = rw (before_more (λ j. inequalities (row_limits c w r j)) i, e, f, g)
