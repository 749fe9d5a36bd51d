-- A column that is touched word by word: none, one word, one list of touches and then another; where a block's rows stand.
-- Main results: `still`, `then`, `inside`, `word`; `shift_room`, `shift_is`. Assumes nothing.
use mathlib.Core.Path.{◌≡◌, refl, ap, ◌∙◌}
use mathlib.Core.List.{List, [], ◌∷◌, ◌++◌}
use Prim.Native.Nat.{ℕ, ◌+◌, ◌≤◌, ◌<◌}
use native.Mathlib.Omega.{arith}
use lib.Ieee.{Float, nan}
use lib.ListN.{length, get_or, set, length-set}
use Rattle.sequence.proofs.Fronts.{changed}
use Rattle.network.specs.declared.Counts.{Counts}
use Rattle.kkt_index.specs.declared.Block.{Block}
use Rattle.kkt_index.specs.declared.KktIdx.{KktIdx}
use Rattle.sequence.proofs.Lists.{before_within}
use Rattle.network.specs.Layout.{reading}
use Rattle.model.specs.declared.RowLimits.{RowLimits}
use Rattle.model.specs.declared.RowLimits.TheVariants.{None, Upper, Lower, Both, Equal}
use Rattle.model.specs.Rows.{row_limits}
use Rattle.solution.specs.Sheet.{solved}
use Rattle.snapping.specs.declared.LinearDuals.{LinearDuals}
use Rattle.snapping.specs.Snap.{duals, linear_duals}
use Rattle.kkt_index.specs.Index.{shape_of, rows_of, rows_at, linear_start, linear_row_count, start_in}
use Rattle.kkt_index.proofs.Starts.{below_dim}
use Rattle.parameter_column.specs.declared.How.{How}
use Rattle.parameter_column.specs.declared.Served.TheVariants.{ConstraintLimit}
use Rattle.parameter_column.specs.Columns.{Touch, touch, touched, touched_at, word_of, valued, limit_marks, touches}
use Rattle.parameter_column.specs.declared.column.Column.{Column}
use Rattle.parameter_column.specs.Moves.{Moves}
use Rattle.parameter_column.specs.Walks.{Touched, Fitted, rows_in, shift_touches}

module _ (start : Block → ℕ) where
  nothing : (old : List Float) → Touched start [] old old
  unfolding word_of
  nothing old = record { at = λ r. refl; kept = refl }

  -- one word
  one : {old new : List Float} {k : ℕ} (b : Block) (i : ℕ) (h : How) (v : Float) → k ≡ start b + i → k < length old → new ≡ set old k (touched h (get_or old k nan) v)
      → Touched start (touch b i h v ∷ []) old new
  unfolding word_of
  one {old} {new} {k} b i h v e l q = record {
    at = λ r. ap (λ (x : List Float). get_or x r nan) q ∙ changed (λ a. touched h a v) old k r nan l ∙ rw e;
    kept = ap (λ (x : List Float). length x) q ∙ simp length-set;
  }

  word_append : (ts us : List Touch) (r : ℕ) (a : Float) → word_of start (ts ++ us) r a ≡ word_of start us r (word_of start ts r a)
  unfolding word_of
  word_append [] us r a = refl
  word_append (t ∷ ts) us r a = word_append ts us r (touched_at start t r a)

  both : {ts us : List Touch} {x y z : List Float} → Touched start ts x y → Touched start us y z → Touched start (ts ++ us) x z
  both {ts} {us} {x} p q = record {
    at = λ r. q.at r ∙ rw (p.at r, word_append ts us r (get_or x r nan));
    kept = q.kept ∙ p.kept;
  }

-- ---- a column that is touched

pub still : {x : Column} → Moves [] x x
still {x} = record { touched = nothing (start_in x.index) x.words.now; counts = refl; index = refl; same_words = refl }

pub then : {ts us : List Touch} {x y z : Column} → Moves ts x y → Moves us y z → Moves (ts ++ us) x z
then {x = x} p q = record {
  touched = both (start_in x.index) p.touched (rw p.index at q.touched);
  counts = q.counts ∙ p.counts;
  index = q.index ∙ p.index;
  same_words = q.same_words ∙ p.same_words;
}

-- ---- where a block's rows stand

pub inside : {c : Counts} {x : KktIdx} {column : List Float} → Fitted c x column → (b : Block) (k : ℕ) → k < rows_in c x b → start_in x b + k < length column
inside {c} {x} h b k g = omega (arith, below_dim h.indexed b k g, h.room)

-- one word of a column that fits
pub word : {c : Counts} {x : KktIdx} {old new : List Float} {k : ℕ} (b : Block) (i : ℕ) (h : How) (v : Float) → Fitted c x old → i < rows_in c x b → k ≡ start_in x b
    → new ≡ set old (k + i) (touched h (get_or old (k + i) nan) v) → Touched (start_in x) (touch b i h v ∷ []) old new
word {c} {x} {old} {new} {k} b i h v f l e q = one (start_in x) {old = old} {new = new} {k = k + i} b i h v (ap (λ (j : ℕ). j + i) e) (omega (arith, e, inside f b i l)) q

-- ---- linear rows

-- the rows of linear row q lie within the block
pub shift_room : (c : Counts) (w : List ℕ) (r : List Float) (q : ℕ) {start n : ℕ} {l : RowLimits} → q < c.rows → start ≡ linear_start c w r q → l ≡ row_limits c w r q → n ≡ linear_row_count c w r → start + rows_of l ≤ n
unfolding linear_start
shift_room c w r q h e g f = rw (e, g, f) (before_within (rows_at c w r) q c.rows h)

-- by its limits they are touched as the definition has it
pub shift_is : (c : Counts) (w ti : List ℕ) (tc : List Float) (p : ℕ) (r s : List Float) (q : ℕ) {start : ℕ} {d : LinearDuals} {l : RowLimits} → start ≡ linear_start c w r q → d ≡ duals c w ti tc p r s q → l ≡ row_limits c w r q
    → shift_touches start d l ≡ touches c w ti tc p r s ConstraintLimit q
unfolding duals valued
shift_is c w ti tc p r s q {start} {d} {l} e f g = rw (e, f, g) (go (row_limits c w r q))
  where
    go : (x : RowLimits) → shift_touches (linear_start c w r q) (linear_duals c w ti tc (reading c r) (solved c p s) (shape_of x) q) x ≡ valued (reading c r) (solved c p s) (limit_marks c w ti tc p r s (shape_of x) q)
    go None = refl
    go (Upper u) = refl
    go (Lower l) = refl
    go (Both u l) = refl
    go (Equal l) = refl
