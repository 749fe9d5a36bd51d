-- The port's list agrees with the books' at the blocks of the linear rows.
-- Main results: one for each pair of blocks, named by them. Assumes nothing.
use mathlib.Core.Path.{◌≡◌, refl, sym, ap, ap₂, ◌∙◌}
use mathlib.Core.List.{List, [], ◌∷◌, ◌++◌, append-nil}
use Prim.Native.Nat.{ℕ, zero, suc, ◌+◌, ◌<◌}
use native.Mathlib.Omega.{arith}
use lib.ListN.{get_or}
use lib.Ieee.{Float, nan}
use Rattle.sequence.specs.Lists.{each}
use Rattle.network.specs.declared.Part.TheVariants.{FlowTerms, GenerationTerms}
use Rattle.network.specs.Layout.{wire, term_start}
use Rattle.model.specs.Rows.{row_limits}
use Rattle.solution.specs.declared.Entry as solution
use Rattle.solution.specs.declared.Entry.TheVariants as entries
use Rattle.kkt_index.specs.declared.Block.{Block}
use Rattle.kkt_index.specs.declared.Block.TheVariants.{Pg, Flow, Linear}
use Rattle.kkt_index.specs.Index.{Shape, shape_of, width}
use Rattle.kkt_index.specs.Index.Shape.{free, upper_only, lower_only, two_sided, equality}
use Rattle.snapping.specs.Expr.{eval}
use Rattle.snapping.specs.Snap.{dot, upper_slack, lower_slack, upper_dual, lower_dual, linear_duals, duals}
use Rattle.kkt.specs.declared.Side.{Side}
use Rattle.kkt.specs.declared.Side.TheVariants.{Above, Below, Level}
use Rattle.kkt.specs.Slots.{columns, row_part, column_part, term_pair, term_slots, side_slots, row_slots}
use Rattle.books.specs.Forms.{Place, Form}
use Rattle.books.specs.Forms.Form.{num, ◌⊖◌}
use Rattle.books.specs.Convex.{Kind, Entry, entry_in_row, entry_in_column, against, entries_of, constraint_entries}
use Rattle.books.specs.Convex.Kind.{at_most, equal}
use Rattle.books.specs.Convex.Convention.{straight}
use Rattle.books.specs.Manual as manual
use Rattle.books.specs.Matrix.{sides_of, unknown}
use Rattle.books.proofs.Cells.{values, values_append, values_each}
use Rattle.books.proofs.Words.{linear_word}
use Rattle.books.proofs.Setting.{Setting, R, S, port_site, book_site, port_point, book_point, worth}
use Rattle.books.proofs.Book.{against_append, against_each}
use Rattle.books.proofs.Pairs.{Agree, turns, word, less_less}

module _ (z : Setting) where
  abbrev start : ℕ → ℕ
  start q = manual.row_start (book_site z) q

  abbrev unknown_at : Block → ℕ → Float
  unknown_at b i = unknown z.counts z.wiring z.readings z.indexes z.coefficients z.sheet z.eta b i

  -- ---- a row's value

  sum_is : (b : Block) (e : solution.Entry) (at n : ℕ) → ((t : ℕ) → t < n → unknown_at b (get_or z.indexes (at + t) 0) ≡ S z e (get_or z.indexes (at + t) 0))
      → worth z (manual.row_sum (book_site z) b at n) ≡ eval (R z) (S z) (dot z.indexes z.coefficients e at n)
  unfolding manual.row_sum dot
  sum_is b e at zero h = refl
  sum_is b e at (suc n) h = rw (sum_is b e at n (λ t l. h t (omega arith)), h n (omega arith))

  module _ (q : ℕ) (l : q < z.counts.rows) where
    flow_sum : worth z (manual.row_sum (book_site z) Flow (manual.flow_term (book_site z) q) (wire z.counts z.wiring FlowTerms q))
        ≡ eval (R z) (S z) (dot z.indexes z.coefficients entries.Flow (term_start z.counts z.wiring q) (wire z.counts z.wiring FlowTerms q))
    flow_sum =
        sum_is Flow entries.Flow (term_start z.counts z.wiring q) (wire z.counts z.wiring FlowTerms q)
        (λ t k. word z entries.Flow refl (get_or z.indexes (term_start z.counts z.wiring q + t) 0) (z.termed.flow_terms q t l k))

    generation_sum : worth z (manual.row_sum (book_site z) Pg (manual.generation_term (book_site z) q) (wire z.counts z.wiring GenerationTerms q))
        ≡ eval (R z) (S z) (dot z.indexes z.coefficients entries.Pg (term_start z.counts z.wiring q + wire z.counts z.wiring FlowTerms q) (wire z.counts z.wiring GenerationTerms q))
    generation_sum =
        sum_is Pg entries.Pg (term_start z.counts z.wiring q + wire z.counts z.wiring FlowTerms q) (wire z.counts z.wiring GenerationTerms q)
        (λ t k. word z entries.Pg refl (get_or z.indexes (term_start z.counts z.wiring q + wire z.counts z.wiring FlowTerms q + t) 0) (z.termed.generation_terms q t l k))

    upper_slack_lem : worth z (manual.upper (book_site z) q ⊖ manual.row_value (book_site z) q) ≡ eval (R z) (S z) (upper_slack z.counts z.wiring z.indexes z.coefficients q)
    upper_slack_lem = rw (flow_sum, generation_sum)

    lower_slack_lem : worth z (manual.row_value (book_site z) q ⊖ manual.lower (book_site z) q) ≡ eval (R z) (S z) (lower_slack z.counts z.wiring z.indexes z.coefficients q)
    lower_slack_lem = rw (flow_sum, generation_sum)

    -- ---- a row's multipliers

    side_word : (f : Shape) → shape_of (row_limits z.counts z.wiring z.readings q) ≡ f → (t : ℕ) → t < width f
        → unknown_at Linear (start q + t) ≡ get_or (sides_of f (linear_duals z.counts z.wiring z.indexes z.coefficients (R z) (S z) f q)) t nan
    unfolding duals
    side_word f e t k =
        linear_word z.counts z.wiring z.readings z.indexes z.coefficients z.sheet q t l (rw e k)
        ∙ ap (λ (f : Shape). get_or (sides_of f (linear_duals z.counts z.wiring z.indexes z.coefficients (R z) (S z) f q)) t nan) e

    first_word : (f : Shape) → shape_of (row_limits z.counts z.wiring z.readings q) ≡ f → 0 < width f
        → unknown_at Linear (start q) ≡ get_or (sides_of f (linear_duals z.counts z.wiring z.indexes z.coefficients (R z) (S z) f q)) 0 nan
    first_word f e k = let o : start q + 0 ≡ start q = omega arith in rw o at (side_word f e 0 k)

  -- ---- a row's terms, on a side

  module _ (a b : Place) (q x : ℕ) (d : Side) (k : Kind) (sign : Float → Form)
      (in_row : (t : ℕ) → eval (R z) (S z) (row_part z.counts z.wiring z.indexes z.coefficients d q t) ≡ worth z (entry_in_row k (Linear, x) (sign (manual.term_coefficient (book_site z) t))))
      (in-column : (t : ℕ) → eval (R z) (S z) (column_part z.counts z.wiring z.indexes z.coefficients d t) ≡ worth z (entry_in_column k (sign (manual.term_coefficient (book_site z) t)))) where
    pair_agrees : (g : Block) (t : ℕ) → values (port_point z) a b (term_pair z.counts z.wiring z.indexes z.coefficients d q x g t)
        ≡ values (book_point z) a b (against k (Linear, x) (((g, manual.term_index (book_site z) t), sign (manual.term_coefficient (book_site z) t)) ∷ []))
    unfolding values against
    pair_agrees g t = rw (in_row t, in-column t)

    terms_agree : values (port_point z) a b (term_slots z.counts z.wiring z.indexes z.coefficients d q x) ≡ values (book_point z) a b (against k (Linear, x) (manual.row_terms (book_site z) sign q))
    terms_agree =
        values_append (port_point z) a b (each (wire z.counts z.wiring FlowTerms q) (λ t. term_pair z.counts z.wiring z.indexes z.coefficients d q x Flow (term_start z.counts z.wiring q + t))) _
        ∙ ap₂ ◌++◌
        (values_each (port_point z) (book_point z) a b (wire z.counts z.wiring FlowTerms q) _ _ (λ t l. pair_agrees Flow (term_start z.counts z.wiring q + t)))
        (values_each (port_point z) (book_point z) a b (wire z.counts z.wiring GenerationTerms q) _ _ (λ t l. pair_agrees Pg (term_start z.counts z.wiring q + wire z.counts z.wiring FlowTerms q + t)))
        ∙ sym (values_append (book_point z) a b (each (wire z.counts z.wiring FlowTerms q) _) (each (wire z.counts z.wiring GenerationTerms q) _))
        ∙ sym (ap (values (book_point z) a b)
        (against_append k (Linear, x) (each (wire z.counts z.wiring FlowTerms q) _) (each (wire z.counts z.wiring GenerationTerms q) _)
        ∙ ap₂ ◌++◌ (against_each k (Linear, x) (wire z.counts z.wiring FlowTerms q) _) (against_each k (Linear, x) (wire z.counts z.wiring GenerationTerms q) _)))

  -- ---- a row, by its shape

  module _ (a b : Place) (q : ℕ) (l : q < z.counts.rows) where
    above_agrees : (x : ℕ) → unknown_at Linear x ≡ eval (R z) (S z) (upper_dual z.counts z.wiring z.indexes z.coefficients q)
        → values (port_point z) a b (side_slots z.counts z.wiring z.indexes z.coefficients Above q x) ≡ values (book_point z) a b (entries_of (manual.row_ceiling (book_site z) q x))
    unfolding values
    above_agrees x e =
        let k = at_most (manual.upper (book_site z) q ⊖ manual.row_value (book_site z) q) in
        values_append (port_point z) a b (term_slots z.counts z.wiring z.indexes z.coefficients Above q x) _
        ∙ rw (terms_agree a b q x Above k num (λ t. rw e) (λ t. refl), ← upper_slack_lem q l)
        (sym (values_append (book_point z) a b (against k (Linear, x) (manual.row_terms (book_site z) num q)) _))

    below_agrees : (x : ℕ) → unknown_at Linear x ≡ eval (R z) (S z) (lower_dual z.counts z.wiring z.indexes z.coefficients q)
        → values (port_point z) a b (side_slots z.counts z.wiring z.indexes z.coefficients Below q x) ≡ values (book_point z) a b (entries_of (manual.row_floor (book_site z) q x))
    unfolding values
    below_agrees x e =
        let k = at_most (manual.row_value (book_site z) q ⊖ manual.lower (book_site z) q) in
        values_append (port_point z) a b (term_slots z.counts z.wiring z.indexes z.coefficients Below q x) _
        ∙ rw (terms_agree a b q x Below k (manual.turned_num (book_site z)) (λ t. rw e (sym (less_less _ _))) (λ t. refl), ← lower_slack_lem q l)
        (sym (values_append (book_point z) a b (against k (Linear, x) (manual.row_terms (book_site z) (manual.turned_num (book_site z)) q)) _))

    level_agrees : (x : ℕ) → values (port_point z) a b (side_slots z.counts z.wiring z.indexes z.coefficients Level q x) ≡ values (book_point z) a b (entries_of (manual.row_level (book_site z) q x))
    unfolding values
    level_agrees x =
        values_append (port_point z) a b (term_slots z.counts z.wiring z.indexes z.coefficients Level q x) []
        ∙ rw (terms_agree a b q x Level (equal straight) num (λ t. refl) (λ t. refl))
        (sym (values_append (book_point z) a b (against (equal straight) (Linear, x) (manual.row_terms (book_site z) num q)) []))

    row_agrees : (f : Shape) → shape_of (row_limits z.counts z.wiring z.readings q) ≡ f
        → values (port_point z) a b (row_slots z.counts z.wiring z.indexes z.coefficients f q (start q)) ≡ values (book_point z) a b (constraint_entries (manual.row_constraints (book_site z) f q (start q)))
    unfolding values constraint_entries
    row_agrees free e = refl
    row_agrees upper_only e = above_agrees (start q) (first_word q l upper_only e (omega arith)) ∙ ap (values (book_point z) a b) (sym (append-nil (entries_of (manual.row_ceiling (book_site z) q (start q)))))
    row_agrees lower_only e = below_agrees (start q) (first_word q l lower_only e (omega arith)) ∙ ap (values (book_point z) a b) (sym (append-nil (entries_of (manual.row_floor (book_site z) q (start q)))))
    row_agrees two_sided e =
        values_append (port_point z) a b (side_slots z.counts z.wiring z.indexes z.coefficients Above q (start q)) _
        ∙ rw (above_agrees (start q) (first_word q l two_sided e (omega arith)), below_agrees (start q + 1) (side_word q l two_sided e 1 (omega arith)))
        (sym (values_append (book_point z) a b (entries_of (manual.row_ceiling (book_site z) q (start q))) _
        ∙ ap (λ (m : List Entry). values (book_point z) a b (entries_of (manual.row_ceiling (book_site z) q (start q))) ++ values (book_point z) a b m) (append-nil (entries_of (manual.row_floor (book_site z) q (start q + 1))))))
    row_agrees equality e = level_agrees (start q) ∙ ap (values (book_point z) a b) (sym (append-nil (entries_of (manual.row_level (book_site z) q (start q)))))

  abbrev laws : ℕ → List Entry
  laws q = constraint_entries (manual.row_constraints (book_site z) ((book_site z).shapes q) q (start q))

  -- every pair of blocks of the linear rows
  rows_agree : (a b : Place) (q : ℕ) → q < z.counts.rows → values (port_point z) a b (columns (port_site z) Linear q) ≡ values (book_point z) a b (laws q)
  unfolding columns
  rows_agree a b q l = row_agrees a b q l ((book_site z).shapes q) refl

  pub linear_flow : (i j : ℕ) → Agree z (Linear, i) (Flow, j)
  linear_flow i j = turns z (Linear, i) (Flow, j) z.counts.rows (columns (port_site z) Linear) laws _ _ refl refl (rows_agree (Linear, i) (Flow, j))

  pub linear_pg : (i j : ℕ) → Agree z (Linear, i) (Pg, j)
  linear_pg i j = turns z (Linear, i) (Pg, j) z.counts.rows (columns (port_site z) Linear) laws _ _ refl refl (rows_agree (Linear, i) (Pg, j))

  pub flow_linear : (i j : ℕ) → Agree z (Flow, i) (Linear, j)
  flow_linear i j = turns z (Flow, i) (Linear, j) z.counts.rows (columns (port_site z) Linear) laws _ _ refl refl (rows_agree (Flow, i) (Linear, j))

  pub pg_linear : (i j : ℕ) → Agree z (Pg, i) (Linear, j)
  pg_linear i j = turns z (Pg, i) (Linear, j) z.counts.rows (columns (port_site z) Linear) laws _ _ refl refl (rows_agree (Pg, i) (Linear, j))

  pub linear_linear : (i j : ℕ) → Agree z (Linear, i) (Linear, j)
  linear_linear i j = turns z (Linear, i) (Linear, j) z.counts.rows (columns (port_site z) Linear) laws _ _ refl refl (rows_agree (Linear, i) (Linear, j))
