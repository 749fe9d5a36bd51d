-- Each block lies within its raw vector, and what a walk over it leaves is the definition's entry.
-- Main results: `columns_block`, `rows_block`; `entry_is`, `picked_entry`, `duals_entry`, `costs_are`; `entry_long`, `sheet_is`, `read_long`. Assumes nothing.
use mathlib.Core.Path.{◌≡◌, refl, sym, ap, ◌∙◌}
use mathlib.Core.Bool.{Bool, true, false, cond}
use mathlib.Core.List.{List, [], ◌∷◌}
use Prim.Native.Nat.{ℕ, ◌+◌, ◌≤◌, ◌<◌}
use native.Mathlib.Nat.{add-zero}
use native.Mathlib.Omega.{arith}
use lib.ListN.{length, get_or, set, drop}
use lib.Seq.{ext_get_or}
use lib.Dec.{eqb}
use lib.Ieee.{Float, nan, binary64, neg, add, sub}
use Rattle.float64.specs.Values.{nought}
use Rattle.std.proofs.lemmas.List.{get_or-drop}
use Rattle.sequence.specs.Lists.{made, each}
use Rattle.sequence.proofs.Lists.{made_length, made_at, made_same, turns_same, each_long}
use Rattle.sequence.proofs.Blocks.{before_start}
use Rattle.network.specs.declared.Counts.{Counts}
use Rattle.network.specs.declared.Field.TheVariants.{CShed}
use Rattle.network.specs.Layout.{objective, reading}
use Rattle.model.specs.declared.RowLimits.{RowLimits}
use Rattle.model.specs.declared.RowLimits.TheVariants.{None, Upper, Lower, Both, Equal}
use Rattle.model.specs.Rows.{row_limits}
use Rattle.model.specs.Quantities.{generator_cost, evaluate}
use Rattle.solution.specs.declared.Entry.{Entry}
use Rattle.solution.specs.declared.Entry.TheVariants.{Va}
use Rattle.solution.specs.Sheet.{entries, size, sizes, pieces, sheet_length}
use Rattle.snapping.proofs.Rows.{part, part_length, part_at}
use Rattle.snapping.proofs.Words.{entry_size}
use Rattle.opf_layout.specs.declared.Active.{Active}
use Rattle.opf_layout.specs.declared.OpfColumn.{OpfColumn}
use Rattle.opf_layout.specs.declared.OpfColumn.TheVariants as columns
use Rattle.opf_layout.specs.declared.OpfRow.{OpfRow}
use Rattle.opf_layout.specs.declared.OpfRow.TheVariants as rows
use Rattle.opf_layout.specs.declared.OpfLayout.{OpfLayout}
use Rattle.opf_layout.specs.declared.raw.RawPoint.{RawPoint}
use Rattle.opf_layout.specs.Layout.{active_rank, equalities, inequalities, equality_rank, inequality_rank, active_of, column_in, column_size, row_in, row_size, Bounded}
use Rattle.opf_layout.specs.Raw.{RawLaid}
use Rattle.opf_layout.proofs.Counting.{columns_of, rows_of, nvar_few, ncon_few, columns_few, rows_few}
use Rattle.opf_layout.proofs.Blocks.{column_within, row_within}
use Rattle.opf_layout.proofs.Ranks.{rank_below}
use Rattle.opf_readback.specs.Readback.{read_at, read_sheet, primal, dual, linear_dual, flows, powers, generator_costs, declared}
use Rattle.opf_readback.specs.Walks.{turned_at, picked_at, lower_at, signed_of, cost_sum, objective_of}
use Rattle.opf_readback.specs.Points.{pieces_in, entry_words_at}
use Rattle.opf_readback.proofs.Reading.{equal_room, limit_room}

-- a part of a list is made of its words
part_made : (x : List Float) (a e n : ℕ) → a + n ≡ e → e ≤ length x → part x a e ≡ made (λ i. get_or x (a + i) nan) n
part_made x a e n q h =
    let l = part_length x a e n q h in
    ext_get_or nan (part x a e) (made (λ i. get_or x (a + i) nan) n) (l ∙ sym (made_length (λ i. get_or x (a + i) nan) n))
    (λ i m. part_at x a e i (omega arith) ∙ sym (made_at (λ i. get_or x (a + i) nan) n i nan (omega arith)))

module _ {c : Counts} {w : List ℕ} {r x z : List Float} {lay : OpfLayout} (h : RawLaid c w r x z lay) where
  -- a block lies within its vector
  pub column_room : (b : OpfColumn) → (column_in lay b + column_size c (active_of c w r) b ≤ length x) × (column_in lay b < 0x1_0000)
  column_room b = (
    omega (arith, columns_of c (active_of c w r) lay h.placed b, column_within c (active_of c w r) b, h.columns_long),
    omega (arith, columns_of c (active_of c w r) lay h.placed b, columns_few c (active_of c w r) b, nvar_few c (active_of c w r) h.bounded),
  )

  pub row_room : (b : OpfRow) → (row_in lay b + row_size c (active_of c w r) b ≤ length z) × (row_in lay b < 0x1_0000)
  row_room b = (
    omega (arith, rows_of c (active_of c w r) lay h.placed b, row_within c (active_of c w r) b, h.rows_long),
    omega (arith, rows_of c (active_of c w r) lay h.placed b, rows_few c (active_of c w r) b, ncon_few c (active_of c w r) h.bounded),
  )

  module _ (ti : List ℕ) (tc : List Float) (raw : Float) where
    pub columns_block : (b : OpfColumn) {a e : ℕ} → a ≡ column_in lay b → a + column_size c (active_of c w r) b ≡ e → part x a e ≡ made (primal c w r ti tc x z raw b) (column_size c (active_of c w r) b)
    columns_block b {a} {e} q k =
        part_made x a e (column_size c (active_of c w r) b) k (omega (arith, q, (column_room b).0))
        ∙ ap (λ (s : ℕ). made (λ i. get_or x (s + i) nan) (column_size c (active_of c w r) b)) (q ∙ columns_of c (active_of c w r) lay h.placed b)

    pub rows_block : (b : OpfRow) {a e : ℕ} → a ≡ row_in lay b → a + row_size c (active_of c w r) b ≡ e → part z a e ≡ made (dual c w r ti tc x z raw b) (row_size c (active_of c w r) b)
    rows_block b {a} {e} q k =
        part_made z a e (row_size c (active_of c w r) b) k (omega (arith, q, (row_room b).0))
        ∙ ap (λ (s : ℕ). made (λ i. get_or z (s + i) nan) (row_size c (active_of c w r) b)) (q ∙ rows_of c (active_of c w r) lay h.placed b)

-- ---- what a walk over a block leaves

-- as many are active as the block has words
pub rank_room : (on : ℕ → Bool) (f : ℕ → Float) (n m : ℕ) {k : ℕ} {block : List Float} → k ≡ n → block ≡ made f m → active_rank on n ≤ m → active_rank on k ≤ length block
rank_room on f n m e b h = rw (e, b, made_length) h

-- each active one finds its word
picked_word : (on : ℕ → Bool) (f other : ℕ → Float) (n m i : ℕ) → active_rank on n ≤ m → i < n → (b : Bool) → on i ≡ b
    → cond b (get_or (made f m) (active_rank on i) nan) (other i) ≡ cond b (f (active_rank on i)) (other i)
picked_word on f other n m i h l true e = made_at f m (active_rank on i) nan (omega (arith, rank_below on i n e l, h))
picked_word on f other n m i h l false e = refl

pub picked_entry : (on : ℕ → Bool) (f other : ℕ → Float) (n m : ℕ) {k : ℕ} {new block : List Float}
    → new ≡ made (picked_at on block other) k → k ≡ n → block ≡ made f m → active_rank on n ≤ m → new ≡ made (λ i. cond (on i) (f (active_rank on i)) (other i)) n
picked_entry on f other n m g e b h =
    g ∙ rw (e, b) (made_same _ _ n (λ i l. picked_word on f other n m i h l (on i) refl))

pub block_long : (f : ℕ → Float) (n : ℕ) {block : List Float} → block ≡ made f n → length block ≡ n
block_long f n e = rw e (made_length f n)

pub turned_entry : (f : ℕ → Float) (n : ℕ) {k : ℕ} {new block : List Float} → new ≡ made (turned_at block) k → k ≡ n → block ≡ made f n → new ≡ made (λ i. neg (f i)) n
turned_entry f n g e b = g ∙ rw (e, b) (made_same _ _ n (λ i l. rw (made_at f n i nan l)))

pub lower_entry : (c : Counts) (r : List Float) (on : ℕ → Bool) (f g : ℕ → Float) (m : ℕ) {k : ℕ} {new block balance : List Float}
    → new ≡ made (picked_at on block (lower_at c r balance)) k → k ≡ c.buses → balance ≡ made g c.buses → block ≡ made f m → active_rank on c.buses ≤ m
    → new ≡ made (λ i. cond (on i) (f (active_rank on i)) (sub binary64 (reading c r CShed i) (neg (g i)))) c.buses
lower_entry c r on f g m {k} {new} {block} {balance} d e q b h =
    picked_entry on f (λ i. sub binary64 (reading c r CShed i) (neg (g i))) c.buses m
    (d ∙ rw (e, q) (made_same _ _ c.buses (λ i l. ap (λ (y : Float). cond (on i) (get_or block (active_rank on i) nan) (sub binary64 (reading c r CShed i) (neg y))) (made_at g c.buses i nan l))))
    refl b h

-- the only word of a sheet of one
pub one_word : (v : Float) (l : List Float) → length l ≡ 1 → set l 0 v ≡ v ∷ []
one_word v [] h = absurd (omega arith)
one_word v (x ∷ []) h = refl
one_word v (x ∷ y ∷ l) h = absurd (omega arith)

module _ (p : RawPoint) {e g : Entry} (q : e ≡ g) where
  -- an entry's length and its words, where the entry is known
  pub long_of : {n : ℕ} → n ≡ size p.site.grid.plan.counts (pieces_in p) e → n ≡ size p.site.grid.plan.counts (pieces_in p) g
  long_of h = rw q at h

  pub entry_is : {new : List Float} → new ≡ entry_words_at p g → new ≡ entry_words_at p e
  entry_is h = rw q h

module _ (c : Counts) (w : List ℕ) (r : List Float) (ti : List ℕ) (tc x z : List Float) (raw : Float) where
  -- a row's signed dual, case by case
  abbrev pub equal_block : List Float
  equal_block = made (dual c w r ti tc x z raw rows.LinearEqual) (equality_rank c w r c.rows)

  abbrev pub limit_block : List Float
  limit_block = made (dual c w r ti tc x z raw rows.LinearLimit) (inequality_rank c w r c.rows)

  equal_word : (k : ℕ) → k < equality_rank c w r c.rows → get_or (drop k equal_block) 0 nan ≡ dual c w r ti tc x z raw rows.LinearEqual k
  equal_word k h =
      get_or-drop k equal_block 0 nan
      ∙ ap (λ (j : ℕ). get_or equal_block j nan) (add-zero k)
      ∙ made_at (dual c w r ti tc x z raw rows.LinearEqual) (equality_rank c w r c.rows) k nan h

  limit_word : (k t n : ℕ) → k + t ≡ n → n < inequality_rank c w r c.rows → get_or (drop k limit_block) t nan ≡ dual c w r ti tc x z raw rows.LinearLimit n
  limit_word k t n e h =
      get_or-drop k limit_block t nan
      ∙ ap (λ (j : ℕ). get_or limit_block j nan) e
      ∙ made_at (dual c w r ti tc x z raw rows.LinearLimit) (inequality_rank c w r c.rows) n nan h

  row_word : (l : RowLimits) (q : ℕ) → equality_rank c w r q + equalities l ≤ equality_rank c w r c.rows → inequality_rank c w r q + inequalities l ≤ inequality_rank c w r c.rows
      → signed_of l (drop (equality_rank c w r q) equal_block) (drop (inequality_rank c w r q) limit_block) ≡ linear_dual c w r ti tc x z raw l q
  row_word None q h g = refl
  row_word (Upper u) q h g = rw (limit_word (inequality_rank c w r q) 0 (inequality_rank c w r q) (add-zero _) (omega arith))
  row_word (Lower l) q h g = rw (limit_word (inequality_rank c w r q) 0 (inequality_rank c w r q) (add-zero _) (omega arith))
  row_word (Both u l) q h g = rw (limit_word (inequality_rank c w r q) 0 (inequality_rank c w r q) (add-zero _) (omega arith), limit_word (inequality_rank c w r q) 1 (inequality_rank c w r q + 1) refl (omega arith))
  row_word (Equal l) q h g = rw (equal_word (equality_rank c w r q) (omega arith))

  pub duals_entry : {k : ℕ} {new equal limit : List Float}
      → new ≡ made (λ q. signed_of (row_limits c w r q) (drop (equality_rank c w r q) equal) (drop (inequality_rank c w r q) limit)) k → k ≡ c.rows → equal ≡ equal_block → limit ≡ limit_block
      → new ≡ made (λ q. linear_dual c w r ti tc x z raw (row_limits c w r q) q) c.rows
  duals_entry g e a b =
      g ∙ rw (e, a, b) (made_same _ _ c.rows (λ q l. row_word (row_limits c w r q) q (equal_room c w r q l refl refl) (limit_room c w r q l refl refl)))

  pub values_entry : {k : ℕ} {new f pg : List Float} → new ≡ made (λ q. evaluate c w ti tc q f pg) k → k ≡ c.rows → f ≡ flows c w r ti tc x z raw → pg ≡ powers c w r ti tc x z raw
      → new ≡ made (λ q. evaluate c w ti tc q (flows c w r ti tc x z raw) (powers c w r ti tc x z raw)) c.rows
  values_entry g e a b = rw (e, a, b) at g

  -- the generators' cost at the dispatch
  pub costs_are : {pg : List Float} → pg ≡ made (primal c w r ti tc x z raw columns.Pg) c.generators → cost_sum c w r pg (length pg) ≡ generator_costs c w r ti tc x z raw
  costs_are e =
      rw (e, made_length)
      (turns_same _ _ nought c.generators
      (λ j l a. ap (λ (p : Float). add binary64 a (generator_cost c w r j p)) (made_at (primal c w r ti tc x z raw columns.Pg) c.generators j nan l)))

  pub objective_entry : {new pg : List Float} {v : Float} → new ≡ v ∷ [] → v ≡ objective_of c w r pg raw → pg ≡ made (primal c w r ti tc x z raw columns.Pg) c.generators
      → new ≡ made (λ i. declared c w r ti tc x z raw) 1
  unfolding made
  objective_entry g d e =
      g ∙ ap (λ (v : Float). v ∷ []) (d ∙ ap (λ (s : Float). cond (eqb (objective w) 0) nought (cond (eqb (objective w) 1) s raw)) (costs_are e))

-- the whole sheet, entry by entry
module _ (c : Counts) (w : List ℕ) (r : List Float) (ti : List ℕ) (tc x z : List Float) (raw : Float) (p : ℕ) where
  abbrev pub entry_words : ℕ → List Float
  entry_words k = made (read_at c w r ti tc x z raw (get_or entries k Va)) (size c p (get_or entries k Va))

  pub entry_long : (k : ℕ) → length (entry_words k) ≡ size c p (get_or entries k Va)
  entry_long k = made_length (read_at c w r ti tc x z raw (get_or entries k Va)) (size c p (get_or entries k Va))

  pub sheet_is : p ≡ pieces c w → each 18 entry_words ≡ read_sheet c w r ti tc x z raw
  unfolding read_sheet
  sheet_is q = ap (λ (n : ℕ). each 18 (λ k. made (read_at c w r ti tc x z raw (get_or entries k Va)) (size c n (get_or entries k Va)))) q

-- the layout's pieces are the network's
pub pieces_are : {c : Counts} {w : List ℕ} {r x z : List Float} {lay : OpfLayout} → RawLaid c w r x z lay → lay.active.pieces ≡ pieces c w
unfolding active_of
pieces_are h = ap (λ (a : Active). a.pieces) h.placed.active_is

pub pieces_few : (c : Counts) (w : List ℕ) (r : List Float) (p : ℕ) → Bounded c (active_of c w r) → p ≡ pieces c w → p ≤ c.generators
unfolding active_of
pieces_few c w r p h q = omega (arith, h.few_pieces)

module _ (c : Counts) (w : List ℕ) (r : List Float) (ti : List ℕ) (tc x z : List Float) (raw : Float) where
  -- as many words as the solution sheet has
  pub read_long : length (read_sheet c w r ti tc x z raw) ≡ sheet_length c (pieces c w)
  unfolding read_sheet
  read_long =
      each_long (λ k. made (read_at c w r ti tc x z raw (get_or entries k Va)) (size c (pieces c w) (get_or entries k Va))) (λ k. get_or (sizes c (pieces c w)) k 0) 18
      (λ k l. made_length (read_at c w r ti tc x z raw (get_or entries k Va)) (size c (pieces c w) (get_or entries k Va)) ∙ sym (entry_size c (pieces c w) k l))
      ∙ before_start (sizes c (pieces c w)) 18
