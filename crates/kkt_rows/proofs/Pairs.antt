-- A term's pair of entries by the side's dual and the term's coefficient is the specification's pair. Main results: `pair_put`, `pairs_done`. Assumes nothing.
use mathlib.Core.Path.{◌≡◌, refl}
use mathlib.Core.List.{List, [], ◌∷◌}
use Prim.Native.Nat.{ℕ, ◌+◌, ◌≤◌}
use lib.ListN.{get_or}
use lib.Ieee.{Float, nan}
use Rattle.std.specs.Prelude.{Option}
use Rattle.sequence.specs.Lists.{each}
use Rattle.sequence.specs.declared.Triplet.{Triplet}
use Rattle.sequence.specs.declared.Sink.{Sink}
use Rattle.sequence.specs.Sinks.{Gains}
use Rattle.sequence.proofs.Lists.{each_same}
use Rattle.sequence.proofs.Sinks.{done}
use Rattle.network.specs.declared.Counts.{Counts}
use Rattle.network.specs.declared.Field.{Field}
use Rattle.solution.specs.declared.Entry.{Entry}
use Rattle.kkt_index.specs.declared.Block.{Block}
use Rattle.kkt_index.specs.declared.Block.TheVariants.{Linear}
use Rattle.kkt_index.specs.declared.KktIdx.{KktIdx}
use Rattle.kkt_index.specs.Index.{start_in}
use Rattle.kkt.specs.declared.Side.{Side}
use Rattle.kkt.specs.declared.Side.TheVariants.{Above, Below, Level}
use Rattle.kkt.specs.Slots.{term_pair}
use Rattle.kkt.specs.Matrix.{kept, emitted}
use Rattle.kkt.specs.Walks.{emits, dual_on, row_times, column_times}
use Rattle.kkt.proofs.Emitted.{emitted_each}

-- term t's entry in its row, and that in its column
abbrev pub pair : KktIdx → List ℕ → List Float → Side → Float → ℕ → Block → ℕ → List Triplet
pair x ti tc s dual row b t =
    emits
    (kept (start_in x Linear + row) (start_in x b + get_or ti t 0) (row_times s dual (get_or tc t nan))
    ∷ kept (start_in x b + get_or ti t 0) (start_in x Linear + row) (column_times s (get_or tc t nan))
    ∷ [])

-- two entries that were put are the pair
pub pair_put : (x : KktIdx) (ti : List ℕ) (tc : List Float) (s : Side) (row : ℕ) (b : Block) (t : ℕ) (dual : Float) {i : ℕ} {u v : Float} {m n : Option Triplet} {S₀ S₁ : Sink}
    → i ≡ get_or ti t 0 → u ≡ row_times s dual (get_or tc t nan) → v ≡ column_times s (get_or tc t nan)
    → m ≡ kept (start_in x Linear + row) (start_in x b + i) u → n ≡ kept (start_in x b + i) (start_in x Linear + row) v
    → Gains (emits (m ∷ n ∷ [])) S₀ S₁ → Gains (pair x ti tc s dual row b t) S₀ S₁
pair_put x ti tc s row b t dual e f g h k p = rw (h, k, e, f, g) at p

module _ (x : KktIdx) (R : Field → ℕ → Float) (S : Entry → ℕ → Float) (c : Counts) (w ti : List ℕ) (tc : List Float) where
  pair_is : (s : Side) (q row : ℕ) (b : Block) (t : ℕ) → emitted (start_in x) R S (term_pair c w ti tc s q row b t) ≡ pair x ti tc s (dual_on s c w ti tc R S q) row b t
  unfolding emitted emits
  pair_is Above q row b t = refl
  pair_is Below q row b t = refl
  pair_is Level q row b t = refl

  pub pairs_done : {S₀ S₁ : Sink} {dual : Float} (s : Side) (q row : ℕ) (b : Block) (start : ℕ) {t n : ℕ}
      → dual ≡ dual_on s c w ti tc R S q → t ≤ n → n ≤ t → Gains (each t (λ i. pair x ti tc s dual row b (start + i))) S₀ S₁
      → Gains (emitted (start_in x) R S (each n (λ i. term_pair c w ti tc s q row b (start + i)))) S₀ S₁
  pairs_done s q row b start {n = n} e g h p =
      rw (emitted_each (start_in x) R S n (λ i. term_pair c w ti tc s q row b (start + i)), each_same n (λ i. emitted (start_in x) R S (term_pair c w ti tc s q row b (start + i))) (λ i. pair x ti tc s (dual_on s c w ti tc R S q) row b (start + i)) (λ i k. pair_is s q row b (start + i)))
      (done (λ i. pair x ti tc s (dual_on s c w ti tc R S q) row b (start + i)) g h (rw e at p))
