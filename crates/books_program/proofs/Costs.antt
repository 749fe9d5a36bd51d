-- q's words are the linear costs, and P's entries the Hessian's.
-- Main results: `index_below`, `costs_are`, `hessian_is`. Assumes nothing.
use mathlib.Core.Path.{◌≡◌, refl, sym, ap, ◌∙◌, subst}
use mathlib.Core.Bool.{Bool, true, false, cond, not}
use mathlib.Core.List.{List, [], ◌∷◌, ◌++◌, append-nil, append_assoc}
use Prim.Native.Nat.{ℕ, zero, suc, ◌+◌, ◌≤◌, ◌<◌}
use native.Mathlib.Omega.{arith}
use lib.Dec.{T, eqb}
use lib.ListN.{get_or}
use lib.Ieee.{Float, nan, binary64, add, eq}
use borrow.Author.Tests.{eq-eqb, ne_eqb}
use Rattle.float64.specs.Values.{nought, one, whole}
use Rattle.sequence.specs.Lists.{each, when}
use Rattle.sequence.specs.declared.Triplet.{Triplet}
use Rattle.sequence.specs.Sheets.{item, emit}
use Rattle.sequence.proofs.Lists.{map_at}
use Rattle.network.specs.declared.Counts.{Counts}
use Rattle.network.specs.declared.Part.TheVariants.{Segments}
use Rattle.network.specs.declared.Field.TheVariants.{Cq, Cl, CShed}
use Rattle.network.specs.Layout.{reading, segments_at}
use Rattle.solution.specs.Sheet.{piece_rank}
use Rattle.kkt_index.specs.declared.Block.TheVariants as blocks
use Rattle.change_table.specs.Table.{Cell, same_cell, values_at}
use Rattle.opf_layout.specs.declared.OpfColumn.{OpfColumn}
use Rattle.opf_layout.specs.declared.OpfColumn.TheVariants.{Va, Pg, Flow, Shed, Cost}
use Rattle.opf_layout.specs.Layout.{flagged, sheds, active_of, columns, column_rank, column_size, column_sizes, column_start}
use Rattle.opf_layout.proofs.Ranks.{rank_below, rank_apart, piece_rank_lem}
use Rattle.opf_layout.proofs.Blocks.{column_of_rank, column_rank_below}
use Rattle.opf_assembly.specs.Assembly.{column_elements, column_words, q_sheet, quad_triplets, triplet_of, blank}
use Rattle.opf_assembly.proofs.Lengths.{column_long}
use Rattle.books.specs.Forms.{Place, Form}
use Rattle.books.specs.Forms as forms
use Rattle.books.specs.Forms.Form.{num, rd, ◌⊗◌}
use Rattle.books.specs.Convex.{Entry, Gradient, hessian_entries}
use Rattle.books.specs.Manual.{Site, hessian, costs, program}
use Rattle.books.specs.Matrix.{same_place, cell_values}
use Rattle.books.proofs.Zeros.{SameOrZeros, alike_skip_add}
use Rattle.books.proofs.Zeros.SameOrZeros.{same}
use Rattle.books_program.specs.Rows.{site}
use Rattle.books_program.specs.Program.{term_values, summed, constant, has_column, column_index, column_at, variable, HessianIs, CostIs}
use Rattle.books.proofs.Doubles.{alike_back, alike_then, alike_is, plainly, nought_fits}
use Rattle.books_program.proofs.Runs.{block_at, one_at, rank_at}
use Rattle.books_program.proofs.Entries.{only, column_same}
use Rattle.books_program.proofs.Terms.{terms_append, terms_none, terms_point, worth, place_same}

-- +0 plus a value, zeros left out or not
add_only : (x : Float) → SameOrZeros (add binary64 nought x) (summed nought (only x ++ []))
unfolding summed when
add_only x = go (eq x nought) refl
  where
    go : (b : Bool) → eq x nought ≡ b → SameOrZeros (add binary64 nought x) (summed nought (when (not b) (x ∷ []) ++ []))
    go true e = alike_back (alike_skip_add nought nought x nought_fits e same)
    go false e = same

module _ (c : Counts) (w : List ℕ) (r : List Float) (ti : List ℕ) (tc : List Float) where
  abbrev own : Site
  own = site c w r ti tc

  -- an element's column lies in its block
  pub index_below : (k : OpfColumn) (j : ℕ) → j < column_elements c k → has_column c w r ti tc k j ≡ true → column_index c w r ti tc k j < column_size c (active_of c w r) k
  unfolding active_of
  index_below Va j l h = l
  index_below Pg j l h = l
  index_below Flow j l h = l
  index_below Shed j l h = rank_below (sheds c w r) j c.buses h l
  index_below Cost j l h = rw (piece_rank_lem c w j, piece_rank_lem c w c.generators) (rank_below (flagged c w Segments) j c.generators h l)

  -- ---- the words of q

  abbrev cost : OpfColumn → ℕ → Float
  cost k j = get_or (q_sheet c w r) (column_at c w r ti tc k j) nan

  column_word : (k : OpfColumn) (j : ℕ) → j < column_elements c k → has_column c w r ti tc k j ≡ true → cost k j ≡ get_or (column_words c w r k) (column_index c w r ti tc k j) nan
  unfolding q_sheet column_start
  column_word k j l h =
      block_at (λ n. column_words c w r (get_or columns n Va)) (column_sizes c (active_of c w r)) 5
      (λ n m. column_long c w r (get_or columns n Va) ∙ sym (map_at (column_size c (active_of c w r)) columns n Va m))
      (column_rank k) (column_index c w r ti tc k j) nan (column_rank_below k)
      (rw (map_at (column_size c (active_of c w r)) columns (column_rank k) Va (column_rank_below k), column_of_rank k) (index_below k j l h))
      ∙ ap (λ (b : OpfColumn). get_or (column_words c w r b) (column_index c w r ti tc k j) nan) (column_of_rank k)

  cost_word : (j : ℕ) → j < c.generators → flagged c w Segments j ≡ true → cost Cost j ≡ add binary64 nought one
  cost_word j l h =
      column_word Cost j l h ∙ rw (piece_rank_lem c w j) (rank_at (flagged c w Segments) (λ i. add binary64 nought one) c.generators j nan l h)

  -- ---- the manual's costs

  abbrev powers : Gradient
  powers = each c.generators (λ j. ((blocks.Pg, j), rd Cl j) ∷ [])

  abbrev demands : Gradient
  demands = each c.buses (λ i. ((blocks.Psh, i), rd CShed i) ∷ [])

  abbrev epigraph : ℕ → Gradient
  epigraph j = cond (eqb (segments_at c w j) 0) [] (((blocks.Cost, piece_rank c w j), forms.unit) ∷ [])

  module _ (p : Place) where
    abbrev due : Gradient → List Float
    due g = term_values (worth c w r ti tc) g p

    three_terms : due (costs own) ≡ due powers ++ (due demands ++ due (each c.generators epigraph))
    three_terms =
        terms_append (worth c w r ti tc) p powers _ ∙ ap (λ (l : List Float). due powers ++ l) (terms_append (worth c w r ti tc) p demands (each c.generators epigraph))

    no_powers : ((t : ℕ) → same_place (blocks.Pg, t) p ≡ false) → due powers ≡ []
    unfolding term_values when
    no_powers e = terms_none (worth c w r ti tc) p c.generators _ (λ t l. rw (e t))

    no_demands : ((t : ℕ) → same_place (blocks.Psh, t) p ≡ false) → due demands ≡ []
    unfolding term_values when
    no_demands e = terms_none (worth c w r ti tc) p c.buses _ (λ t l. rw (e t))

    off_epigraph : (b : Bool) (x : ℕ) → same_place (blocks.Cost, x) p ≡ false → due (cond b [] (((blocks.Cost, x), forms.unit) ∷ [])) ≡ []
    unfolding term_values when
    off_epigraph true x e = refl
    off_epigraph false x e = rw e

    no_epigraphs : ((t : ℕ) → same_place (blocks.Cost, t) p ≡ false) → due (each c.generators epigraph) ≡ []
    no_epigraphs e = terms_none (worth c w r ti tc) p c.generators epigraph (λ t l. off_epigraph (eqb (segments_at c w t) 0) (piece_rank c w t) (e (piece_rank c w t)))

  power_due : (j : ℕ) → j < c.generators → due (blocks.Pg, j) (costs own) ≡ only (reading c r Cl j) ++ []
  unfolding term_values when
  power_due j l =
      three_terms (blocks.Pg, j)
      ∙ rw (no_demands (blocks.Pg, j) (λ t. refl), no_epigraphs (blocks.Pg, j) (λ t. refl))
      (append-nil _
      ∙ terms_point (worth c w r ti tc) (blocks.Pg, j) c.generators j _ l (λ t m d. rw (ne_eqb t j d))
      ∙ rw (eq-eqb j j refl))

  demand_due : (i : ℕ) → i < c.buses → due (blocks.Psh, i) (costs own) ≡ only (reading c r CShed i) ++ []
  unfolding term_values when
  demand_due i l =
      three_terms (blocks.Psh, i)
      ∙ rw (no_powers (blocks.Psh, i) (λ t. refl), no_epigraphs (blocks.Psh, i) (λ t. refl))
      (append-nil _
      ∙ terms_point (worth c w r ti tc) (blocks.Psh, i) c.buses i _ l (λ t m d. rw (ne_eqb t i d))
      ∙ rw (eq-eqb i i refl))

  epigraph_other : (j : ℕ) → flagged c w Segments j ≡ true → (t : ℕ) → (t ≡ j → ⊥) → (b : Bool) → eqb (segments_at c w t) 0 ≡ b
      → due (blocks.Cost, piece_rank c w j) (cond b [] (((blocks.Cost, piece_rank c w t), forms.unit) ∷ [])) ≡ []
  unfolding term_values when
  epigraph_other j h t d true e = refl
  epigraph_other j h t d false e =
      rw (ne_eqb (piece_rank c w t) (piece_rank c w j)
      (λ q. d (rank_apart (flagged c w Segments) t j (rw e) h (sym (piece_rank_lem c w t) ∙ q ∙ piece_rank_lem c w j))))

  epigraph_own : (j : ℕ) (b : Bool) → not b ≡ true → due (blocks.Cost, piece_rank c w j) (cond b [] (((blocks.Cost, piece_rank c w j), forms.unit) ∷ [])) ≡ only one ++ []
  unfolding term_values when
  epigraph_own j true h = absurd (subst T (sym h) tt)
  epigraph_own j false h = rw (eq-eqb (piece_rank c w j) (piece_rank c w j) refl)

  epigraph_due : (j : ℕ) → j < c.generators → flagged c w Segments j ≡ true → due (blocks.Cost, piece_rank c w j) (costs own) ≡ only one ++ []
  epigraph_due j l h =
      three_terms (blocks.Cost, piece_rank c w j)
      ∙ rw (no_powers (blocks.Cost, piece_rank c w j) (λ t. refl), no_demands (blocks.Cost, piece_rank c w j) (λ t. refl))
      (terms_point (worth c w r ti tc) (blocks.Cost, piece_rank c w j) c.generators j epigraph l (λ t m d. epigraph_other j h t d (eqb (segments_at c w t) 0) refl)
      ∙ epigraph_own j (eqb (segments_at c w j) 0) h)

  no_cost : (p : Place) → ((t : ℕ) → same_place (blocks.Pg, t) p ≡ false) → ((t : ℕ) → same_place (blocks.Psh, t) p ≡ false) → ((t : ℕ) → same_place (blocks.Cost, t) p ≡ false) → due p (costs own) ≡ []
  no_cost p e f g = three_terms p ∙ rw (no_powers p e, no_demands p f, no_epigraphs p g)

  pub costs_are : CostIs c w r ti tc
  unfolding program summed
  costs_are Va j l h =
      plainly (alike_is (column_word Va j l h ∙ one_at _ c.buses j nan l ∙ sym (ap (summed nought) (no_cost (blocks.Va, j) (λ t. refl) (λ t. refl) (λ t. refl)))))
  costs_are Flow j l h =
      plainly (alike_is (column_word Flow j l h ∙ one_at _ c.branches j nan l ∙ sym (ap (summed nought) (no_cost (blocks.Flow, j) (λ t. refl) (λ t. refl) (λ t. refl)))))
  costs_are Pg j l h =
      plainly (alike_then (alike_is (column_word Pg j l h ∙ one_at _ c.generators j nan l)) (alike_then (add_only (reading c r Cl j)) (alike_is (sym (ap (summed nought) (power_due j l))))))
  costs_are Shed i l h =
      plainly (alike_then (alike_is (column_word Shed i l h ∙ rank_at (sheds c w r) _ c.buses i nan l h)) (alike_then (add_only (reading c r CShed i)) (alike_is (sym (ap (summed nought) (demand_due i l))))))
  costs_are Cost j l h =
      plainly (alike_then (alike_is (cost_word j l h)) (alike_then (add_only one) (alike_is (sym (ap (summed nought) (epigraph_due j l h))))))

-- ---- P

values_append : (x : Cell) (l m : List Triplet) → values_at (l ++ m) x ≡ values_at l x ++ values_at m x
unfolding values_at
values_append x [] m = refl
values_append x (t ∷ l) m = rw (values_append x l m) (simp append_assoc)

hessian_append : (l m : List (Place × Place × Form)) → hessian_entries (l ++ m) ≡ hessian_entries l ++ hessian_entries m
unfolding hessian_entries
hessian_append [] m = refl
hessian_append (x ∷ l) m = rw (hessian_append l m)

cells_append : (v : Form → Float) (a b : Place) (l m : List Entry) → cell_values v (l ++ m) a b ≡ cell_values v l a b ++ cell_values v m a b
unfolding cell_values
cells_append v a b [] m = refl
cells_append v a b (x ∷ l) m = rw (cells_append v a b l m) (simp append_assoc)

emit_at : (t : Bool) (i j : ℕ) (v : Float) (x : Cell) → values_at (emit (item t i j v)) x ≡ when (same_cell (i, j) x) (when t (v ∷ [])) ++ []
unfolding values_at emit when
emit_at t i j v x = go t (same_cell (i, j) x) refl
  where
    go : (t b : Bool) → same_cell (i, j) x ≡ b → values_at (emit (item t i j v)) x ≡ when b (when t (v ∷ [])) ++ []
    go true true e = rw e
    go true false e = rw e
    go false true e = refl
    go false false e = refl

module _ (c : Counts) (w : List ℕ) (r : List Float) (ti : List ℕ) (tc : List Float) where
  at_place : (k : OpfColumn) (m i : ℕ) → m < c.generators → i < column_elements c k → has_column c w r ti tc k i ≡ true
      → eqb (column_start c (active_of c w r) Pg + m) (column_at c w r ti tc k i) ≡ same_place (blocks.Pg, m) (variable c w r ti tc k i)
  at_place k m i g l h =
      column_same c (active_of c w r) Pg k m (column_index c w r ti tc k i) g (index_below c w r ti tc k i l h) ∙ place_same c w r ti tc Pg k m i refl h

  module _ (k l : OpfColumn) (i j : ℕ) (hi : i < column_elements c k) (hj : j < column_elements c l) (pi : has_column c w r ti tc k i ≡ true) (pj : has_column c w r ti tc l j ≡ true) where
    abbrev cell : Cell
    cell = (column_at c w r ti tc k i, column_at c w r ti tc l j)

    abbrev curve : ℕ → List Triplet
    curve m =
        triplet_of c (active_of c w r) (reading c r) blank (column_start c (active_of c w r) Pg + m) (column_start c (active_of c w r) Pg + m)
        (constant c w r ti tc (num (whole 2) ⊗ rd Cq m))

    abbrev given : List Entry → List Float
    given l' = cell_values (constant c w r ti tc) l' (variable c w r ti tc k i) (variable c w r ti tc l j)

    curve_at : (m : ℕ) → m < c.generators → values_at (curve m) cell ≡ given (hessian_entries (hessian (site c w r ti tc) m))
    unfolding cell_values hessian_entries
    curve_at m g =
        emit_at _ (column_start c (active_of c w r) Pg + m) (column_start c (active_of c w r) Pg + m) _ cell
        ∙ rw (at_place k m i g hi pi, at_place l m j g hj pj)

    curves_at : (n : ℕ) → n ≤ c.generators → values_at (each n curve) cell ≡ given (hessian_entries (each n (hessian (site c w r ti tc))))
    unfolding each values_at cell_values hessian_entries
    curves_at zero h = refl
    curves_at (suc n) h =
        values_append cell (each n curve) (curve n)
        ∙ rw (curves_at n (omega arith), curve_at n (omega arith))
        (sym (ap given (hessian_append (each n (hessian (site c w r ti tc))) (hessian (site c w r ti tc) n))
        ∙ cells_append (constant c w r ti tc) (variable c w r ti tc k i) (variable c w r ti tc l j) (hessian_entries (each n (hessian (site c w r ti tc)))) (hessian_entries (hessian (site c w r ti tc) n))))

  pub hessian_is : HessianIs c w r ti tc
  unfolding program quad_triplets
  hessian_is k l i j hi hj pi pj = curves_at k l i j hi hj pi pj c.generators (omega arith)
