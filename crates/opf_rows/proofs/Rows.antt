-- Entries by value are a generator's segments and a linear row's terms as the specification names them.
-- Main results: `segments_done`, `row_put`, `linear_done`, `terms_more`. Assumes nothing.
use mathlib.Core.Path.{◌≡◌, refl, ◌∙◌}
use mathlib.Core.List.{List, [], ◌∷◌, ◌++◌, append-nil}
use Prim.Native.Nat.{ℕ, ◌+◌, ◌≤◌}
use lib.ListN.{get_or}
use lib.Ieee.{Float, nan, neg, mul, binary64}
use Rattle.std.specs.Prelude.{Option}
use Rattle.float64.specs.Values.{one}
use Rattle.sequence.specs.Lists.{each}
use Rattle.sequence.specs.declared.Triplet.{Triplet}
use Rattle.sequence.specs.declared.Sink.{Sink}
use Rattle.sequence.specs.Sheets.{emit}
use Rattle.sequence.specs.Sinks.{Gains}
use Rattle.sequence.proofs.Lists.{each_same}
use native.Mathlib.Nat.{le_antisymm}
use Rattle.sequence.proofs.Sinks.{then, begin, more}
use Rattle.network.specs.declared.Counts.{Counts}
use Rattle.network.specs.declared.Part.TheVariants.{FlowTerms, GenerationTerms}
use Rattle.network.specs.declared.Field.TheVariants.{Slopes}
use Rattle.network.specs.Layout.{wire, reading, segments_at, segment_start, term_start}
use Rattle.model.specs.declared.RowLimits.{RowLimits}
use Rattle.solution.specs.Sheet.{piece_rank}
use Rattle.snapping.specs.Expr.{Expr, eval, unit, less_unit}
use Rattle.snapping.specs.Expr.Expr.{rd}
use Rattle.kkt.specs.Walks.{emits}
use Rattle.opf_layout.specs.declared.OpfColumn.{OpfColumn}
use Rattle.opf_layout.specs.declared.OpfColumn.TheVariants.{Pg, Flow, Cost}
use Rattle.opf_layout.specs.declared.OpfRow.{OpfRow}
use Rattle.opf_layout.specs.declared.OpfRow.TheVariants.{Segment, LinearEqual, LinearLimit}
use Rattle.opf_layout.specs.declared.OpfLayout.{OpfLayout}
use Rattle.opf_layout.specs.Layout.{equality_rank, inequality_rank, column_in, row_in}
use Rattle.opf_assembly.specs.Assembly.{blank, Coefficient, coefficient, triplets_by, segment_entries, term_entry, written_row, linear_entries}
use Rattle.opf_program.specs.Walks.{written, entry_in}
use Rattle.opf_rows.specs.Terms.{term_items, row_items}
use Rattle.opf_program.proofs.Triplets.{puts_done, written_each, written_append, all_put}

-- segment t of generator j by where its run starts and the rank of its epigraph
abbrev pub segment_of : ℕ → ℕ → ℕ → ℕ → List Coefficient
segment_of j g start t = coefficient Segment (start + t) Pg j (rd Slopes (start + t)) ∷ coefficient Segment (start + t) Cost g less_unit ∷ []

module _ (x : OpfLayout) (c : Counts) (w : List ℕ) (r : List Float) where
  pub segment_put : {S₀ S₁ : Sink} (j g start t : ℕ) {v : Float} {ts : List (Option Triplet)} → v ≡ reading c r Slopes (start + t)
      → ts ≡ entry_in x Segment (start + t) Pg j v ∷ entry_in x Segment (start + t) Cost g (neg one) ∷ [] → Gains (emits ts) S₀ S₁
      → Gains (written x c r (segment_of j g start t)) S₀ S₁
  segment_put j g start t e f p = all_put x c r (segment_of j g start t) (f ∙ rw e refl) p

  pub segments_done : {S₀ S₁ : Sink} (j : ℕ) {g start count t : ℕ} → g ≡ piece_rank c w j → start ≡ segment_start c w j → count ≡ segments_at c w j
      → t ≤ count → count ≤ t → Gains (written x c r (each t (segment_of j g start))) S₀ S₁ → Gains (written x c r (segment_entries c w r j)) S₀ S₁
  segments_done j {g} {start} {count} eg es ec h k p =
      rw (← eg, ← es, ← ec) (puts_done (row_in x) (column_in x) (reading c r) blank (segment_of j g start) h k p)

  -- ---- linear rows

  module _ (ti : List ℕ) (tc : List Float) where
    term_is : (a : OpfRow) (row : ℕ) (sign : Expr) (k : OpfColumn) (start n : ℕ)
        → written x c r (each n (λ t. term_entry c w r ti tc a row sign k (start + t))) ≡ term_items x ti tc a row (eval (reading c r) blank sign) k start n
    unfolding triplets_by term_items
    term_is a row sign k start n =
        written_each (row_in x) (column_in x) (reading c r) blank n (λ t. term_entry c w r ti tc a row sign k (start + t))
        ∙ each_same n _ _ (λ t h. append-nil _)

    row_is : (a : OpfRow) (row : ℕ) (sign : Expr) (q : ℕ) → written x c r (written_row c w r ti tc a row sign q) ≡ row_items x c w ti tc a row (eval (reading c r) blank sign) q
    row_is a row sign q =
        let flows = each (wire c w FlowTerms q) (λ t. term_entry c w r ti tc a row sign Flow (term_start c w q + t)) in
        let generations = each (wire c w GenerationTerms q) (λ t. term_entry c w r ti tc a row sign Pg (term_start c w q + wire c w FlowTerms q + t)) in
        written_append (row_in x) (column_in x) (reading c r) blank flows generations
        ∙ rw (term_is a row sign Flow (term_start c w q) (wire c w FlowTerms q), term_is a row sign Pg (term_start c w q + wire c w FlowTerms q) (wire c w GenerationTerms q))

    pub row_put : {S₀ S₁ : Sink} (a : OpfRow) (row : ℕ) (sign : Expr) (q : ℕ) → Gains (row_items x c w ti tc a row (eval (reading c r) blank sign) q) S₀ S₁
        → Gains (written x c r (written_row c w r ti tc a row sign q)) S₀ S₁
    row_put a row sign q p = rw (row_is a row sign q) p

    -- one row of the inequalities, both, and one of the equalities
    pub limit_put : {S₀ S₁ : Sink} (sign : Expr) (q : ℕ) {row : ℕ} → row ≡ inequality_rank c w r q → Gains (row_items x c w ti tc LinearLimit row (eval (reading c r) blank sign) q) S₀ S₁
        → Gains (written x c r (written_row c w r ti tc LinearLimit (inequality_rank c w r q) sign q)) S₀ S₁
    limit_put sign q e p = row_put LinearLimit (inequality_rank c w r q) sign q (rw e at p)

    pub equal_put : {S₀ S₁ : Sink} (q : ℕ) {row : ℕ} → row ≡ equality_rank c w r q → Gains (row_items x c w ti tc LinearEqual row one q) S₀ S₁
        → Gains (written x c r (written_row c w r ti tc LinearEqual (equality_rank c w r q) unit q)) S₀ S₁
    equal_put q e p = row_put LinearEqual (equality_rank c w r q) unit q (rw e at p)

    pub both_put : {S₀ S₁ : Sink} (q : ℕ) {row : ℕ} → row ≡ inequality_rank c w r q
        → Gains (row_items x c w ti tc LinearLimit row one q ++ row_items x c w ti tc LinearLimit (row + 1) (neg one) q) S₀ S₁
        → Gains (written x c r (written_row c w r ti tc LinearLimit (inequality_rank c w r q) unit q ++ written_row c w r ti tc LinearLimit (inequality_rank c w r q + 1) less_unit q)) S₀ S₁
    both_put q e p =
        rw (written_append (row_in x) (column_in x) (reading c r) blank (written_row c w r ti tc LinearLimit (inequality_rank c w r q) unit q) (written_row c w r ti tc LinearLimit (inequality_rank c w r q + 1) less_unit q), row_is LinearLimit (inequality_rank c w r q) unit q, row_is LinearLimit (inequality_rank c w r q + 1) less_unit q) (rw e at p)

    -- a row by its limits, whatever they are found to be
    pub linear_done : {S₀ S₁ : Sink} {k m v : RowLimits} (q : ℕ) → k ≡ m → k ≡ v
        → Gains (written x c r (linear_entries c w r ti tc v q)) S₀ S₁ → Gains (written x c r (linear_entries c w r ti tc m q)) S₀ S₁
    linear_done q e h p = rw (← e, h) p

-- both runs of a row's terms
pub both_terms : (x : OpfLayout) (c : Counts) (w ti : List ℕ) (tc : List Float) {S₀ S₁ S₂ : Sink} (a : OpfRow) (row : ℕ) (sign : Float) (q : ℕ) {start flows generations : ℕ}
    → start ≡ term_start c w q → flows ≡ wire c w FlowTerms q → generations ≡ wire c w GenerationTerms q
    → Gains (term_items x ti tc a row sign Flow start flows) S₀ S₁ → Gains (term_items x ti tc a row sign Pg (start + flows) generations) S₁ S₂
    → Gains (row_items x c w ti tc a row sign q) S₀ S₂
both_terms x c w ti tc a row sign q e f g p s = then (rw (e, f) at p) (rw (e, f, g) at s)

module _ (x : OpfLayout) (ti : List ℕ) (tc : List Float) (a : OpfRow) (row : ℕ) (sign : Float) (k : OpfColumn) (start : ℕ) where
  pub terms_begin : {S₀ : Sink} → Gains (term_items x ti tc a row sign k start 0) S₀ S₀
  unfolding term_items
  terms_begin = begin _

  pub terms_more : {S₀ S₁ S₂ : Sink} (t : ℕ) {j : ℕ} → j ≡ get_or ti (start + t) 0 → Gains (term_items x ti tc a row sign k start t) S₀ S₁
      → Gains (emit (entry_in x a row k j (mul binary64 sign (get_or tc (start + t) nan)))) S₁ S₂ → Gains (term_items x ti tc a row sign k start (t + 1)) S₀ S₂
  unfolding term_items
  terms_more t e p q = more _ t p (rw e at q)

  pub terms_done : {S₀ S₁ : Sink} {t n : ℕ} → t ≤ n → n ≤ t → Gains (term_items x ti tc a row sign k start t) S₀ S₁ → Gains (term_items x ti tc a row sign k start n) S₀ S₁
  terms_done g h p = rw (le_antisymm g h) at p
