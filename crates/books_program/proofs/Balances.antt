-- A balance row: its entries at a generator and at shed demand are the gradient's, and those at an angle, branch by branch, sum to −B_bus.
-- Main results: `balance_entries`. Assumes nothing.
use mathlib.Core.Path.{◌≡◌, refl, sym, ap, ap₂, ◌∙◌}
use mathlib.Core.Bool.{Bool, true, false, cond, not}
use mathlib.Core.List.{List, [], ◌∷◌, ◌++◌, append-nil}
use Prim.Native.Nat.{ℕ, zero, suc, ◌<◌}
use lib.Dec.{T, eqb}
use lib.Ieee.{Float, binary64, add, sub, mul, neg, eq, fits}
use lib.Ieee.Fits.{add-fits, sub-fits, mul-fits, neg-fits}
use borrow.Author.Tests.{eq-eqb, ne_eqb}
use Rattle.float64.specs.Values.{nought}
use Rattle.float64.proofs.Signs.{neg_neg}
use Rattle.float64.proofs.Zeros.{nought_add}
use Rattle.sequence.specs.Lists.{each, when}
use Rattle.sequence.proofs.Lists.{each_same}
use Rattle.network.specs.declared.Counts.{Counts}
use Rattle.network.specs.declared.Part.TheVariants.{GenBus}
use Rattle.network.specs.declared.Field.TheVariants.{Susceptance, Sw}
use Rattle.network.specs.Layout.{wire, reading}
use Rattle.solution_check.proofs.Own.{apart}
use Rattle.snapping.specs.Expr.{Expr, unit}
use Rattle.snapping.specs.Expr.Expr.{minus}
use Rattle.kkt.specs.Slots.{weight_of}
use Rattle.kkt_index.specs.declared.Block.TheVariants as blocks
use Rattle.opf_layout.specs.declared.OpfColumn.{OpfColumn}
use Rattle.opf_layout.specs.declared.OpfColumn.TheVariants.{Va, Pg, Flow, Shed, Cost}
use Rattle.opf_layout.specs.declared.OpfRow.TheVariants.{Balance}
use Rattle.opf_layout.specs.Layout.{active_rank, sheds, column_rank}
use Rattle.opf_assembly.specs.Assembly.{column_elements, from, to, shed, shed_entry, generator_entry, branch_entries, a_entries}
use Rattle.books.specs.Forms.{Place, Form}
use Rattle.books.specs.Forms as forms
use Rattle.books.specs.Forms.{Form as form}
use Rattle.books.specs.Convex.{Gradient}
use Rattle.books.specs.Manual.{Site, balance, bbus, bbus_to, product, meets, generator_at}
use Rattle.books.specs.Matrix.{same_place}
use Rattle.books.proofs.Zeros.{SameOrZeros, alike_add, alike_skip_add, alike_neg}
use Rattle.books.proofs.Zeros.SameOrZeros.{same, zeros}
use Rattle.books_program.specs.Rows.{site}
use Rattle.books_program.specs.Program.{term_values, summed, together, Holds, has_column, column_index, variable}
use Rattle.books.proofs.Doubles.{alike_back, alike_then, alike_is, plainly, neg_none, less_zero, none_zero, nought_fits, add_neg}
use Rattle.books_program.proofs.Entries.{only, Term, entry_in_row, row_when, at_column, column_append, column_each}
use Rattle.books_program.proofs.Terms.{each_none, each_point, terms_append, terms_none, terms_point, written, worth, Agrees, agree_none, agree_one, agree_each}
use Rattle.books_program.proofs.Lines.{itself, other, nothing, one_when, no_limits}
use Rattle.books_program.proofs.Groups.{in_balance}

-- ---- sums of values, zeros left out

sum_append : (a : Float) (l m : List Float) → summed a (l ++ m) ≡ summed (summed a l) m
unfolding summed
sum_append a [] m = refl
sum_append a (x ∷ l) m = sum_append (add binary64 a x) l m

sum_only : (x : Float) → T (fits binary64 x) → SameOrZeros (summed nought (only x ++ [])) x
unfolding summed when
sum_only x h = go (eq x nought) refl
  where
    go : (b : Bool) → eq x nought ≡ b → SameOrZeros (summed nought (when (not b) (x ∷ []) ++ [])) x
    go true e = zeros none_zero e
    go false e = alike_is (nought_add x h e)

-- one more, of the other sign
sum_step : (a y z : Float) → T (fits binary64 y) → T (fits binary64 z) → SameOrZeros a (neg y) → SameOrZeros (summed a (only (neg z) ++ [])) (neg (add binary64 y z))
unfolding summed when
sum_step a y z h k q = go (eq (neg z) nought) refl
  where
    zero_z : eq (neg z) nought ≡ true → eq z nought ≡ true
    zero_z e = rw neg_neg at (neg_none (neg z) e)

    go : (b : Bool) → eq (neg z) nought ≡ b → SameOrZeros (summed a (when (not b) (neg z ∷ []) ++ [])) (neg (add binary64 y z))
    go true e = alike_then q (alike_neg y (add binary64 y z) (alike_skip_add y y z h (zero_z e) same))
    go false e = alike_then (alike_add a (neg y) (neg z) (neg-fits binary64 z k) q) (add_neg y z)

-- ---- terms and gradients of another block

module _ (v : Expr → Float) (k : OpfColumn) (j : ℕ) where
  off_column : (t : Bool) (b : OpfColumn) (s : ℕ) (x : Expr) → eqb (column_rank b) (column_rank k) ≡ false → at_column v k j (when t ((b, s, x) ∷ [])) ≡ []
  unfolding at_column when
  off_column true b s x e = rw e
  off_column false b s x e = refl

module _ (v : Form → Float) (p : Place) where
  off_place : (t : Bool) (q : Place) (x : Form) → same_place q p ≡ false → term_values v (when t ((q, x) ∷ [])) p ≡ []
  unfolding term_values when
  off_place true q x e = rw e
  off_place false q x e = refl

module _ (c : Counts) (w : List ℕ) (r : List Float) (ti : List ℕ) (tc : List Float) (i : ℕ) where
  abbrev own : Site
  own = site c w r ti tc

  -- ---- the row's entries, by column

  abbrev shed_terms : List Term
  shed_terms = when (sheds c w r i) ((Shed, shed c w r i, unit) ∷ [])

  abbrev power_term : ℕ → List Term
  power_term t = when (eqb (wire c w GenBus t) i) ((Pg, t, unit) ∷ [])

  -- a branch's four: f with f, t with t, f with t, t with f
  abbrev from_from : ℕ → List Term
  from_from e = when (eqb (from c w r e) i) ((Va, from c w r e, minus (weight_of e)) ∷ [])

  abbrev to_to : ℕ → List Term
  to_to e = when (eqb (to c w r e) i) ((Va, to c w r e, minus (weight_of e)) ∷ [])

  abbrev from_to : ℕ → List Term
  from_to e = when (eqb (from c w r e) i) ((Va, to c w r e, weight_of e) ∷ [])

  abbrev to_from : ℕ → List Term
  to_from e = when (eqb (to c w r e) i) ((Va, from c w r e, weight_of e) ∷ [])

  abbrev angle_terms : ℕ → List Term
  angle_terms e = from_from e ++ (to_to e ++ (from_to e ++ to_from e))

  shed_turn : (t : ℕ) → entry_in_row Balance i (shed_entry c w r t) ≡ when (sheds c w r t) (when (eqb t i) ((Shed, shed c w r t, unit) ∷ []))
  unfolding entry_in_row
  shed_turn t = row_when Balance i (sheds c w r t) _ ∙ ap (when (sheds c w r t)) (one_when (eqb t i) _)

  shed_part_lem : i < c.buses → each c.buses (λ t. entry_in_row Balance i (shed_entry c w r t)) ≡ shed_terms
  shed_part_lem l =
      each_same c.buses _ _ (λ t m. shed_turn t)
      ∙ each_point c.buses i _ l (λ t m d. ap (when (sheds c w r t)) (other t i _ d) ∙ nothing (sheds c w r t))
      ∙ ap (when (sheds c w r i)) (itself i _)

  power_turn : (t : ℕ) → entry_in_row Balance i (generator_entry c w r t) ≡ power_term t
  unfolding entry_in_row
  power_turn t = one_when (eqb (wire c w GenBus t) i) _

  angle_turn : (e : ℕ) → entry_in_row Balance i (branch_entries c w r e) ≡ angle_terms e
  unfolding entry_in_row when
  angle_turn e = rw (no_limits c w r ti tc Balance i e refl refl) (simp append-nil)

  balance_row_lem : i < c.buses → entry_in_row Balance i (a_entries c w r ti tc) ≡ shed_terms ++ (each c.generators power_term ++ each c.branches angle_terms)
  balance_row_lem l =
      in_balance c w r ti tc i
      ∙ ap₂ ◌++◌ (shed_part_lem l)
      (ap₂ ◌++◌ (each_same c.generators _ _ (λ t m. power_turn t)) (each_same c.branches _ _ (λ e m. angle_turn e)))

  -- ---- B_bus

  module _ (j : ℕ) where
    abbrev at : List Term → List Float
    at l = at_column (written c w r ti tc) Va j l

    abbrev weight : ℕ → Float
    weight e = mul binary64 (neg (reading c r Susceptance e)) (reading c r Sw e)

    product_fits : (b up : Bool) (e : ℕ) (y : Form) → T (fits binary64 (worth c w r ti tc y)) → T (fits binary64 (worth c w r ti tc (product own b up e y)))
    product_fits false up e y k = k
    product_fits true true e y k = add-fits binary64 _ _
    product_fits true false e y k = sub-fits binary64 _ _

    -- a branch's entry where its ends meet the cell
    up_step : (b d : Bool) (e v : ℕ) (a : Float) (y : Form) → eqb v j ≡ d → T (fits binary64 (worth c w r ti tc y)) → SameOrZeros a (neg (worth c w r ti tc y))
        → SameOrZeros (summed a (at (when b ((Va, v, minus (weight_of e)) ∷ [])))) (neg (worth c w r ti tc (product own (cond b d false) true e y)))
    unfolding at_column when summed
    up_step true true e v a y p h q = rw p (sum_step a (worth c w r ti tc y) (weight e) h (mul-fits binary64 _ _) q)
    up_step true false e v a y p h q = rw p q
    up_step false d e v a y p h q = q

    down_step : (b d : Bool) (e v : ℕ) (a : Float) (y : Form) → eqb v j ≡ d → T (fits binary64 (worth c w r ti tc y)) → SameOrZeros a (neg (worth c w r ti tc y))
        → SameOrZeros (summed a (at (when b ((Va, v, weight_of e) ∷ [])))) (neg (worth c w r ti tc (product own (cond b d false) false e y)))
    unfolding at_column when summed sub
    down_step true true e v a y p h q =
        rw p (rw neg_neg at (sum_step a (worth c w r ti tc y) (neg (weight e)) h (neg-fits binary64 (weight e) (mul-fits binary64 _ _)) q))
    down_step true false e v a y p h q = rw p q
    down_step false d e v a y p h q = q

    abbrev first : ℕ → Form → Form
    first e y = product own (meets own i j (from c w r e) (from c w r e)) true e y

    abbrev second : ℕ → Form → Form
    second e y = product own (meets own i j (to c w r e) (to c w r e)) true e y

    abbrev third : ℕ → Form → Form
    third e y = product own (meets own i j (from c w r e) (to c w r e)) false e y

    abbrev fourth : ℕ → Form → Form
    fourth e y = product own (meets own i j (to c w r e) (from c w r e)) false e y

    abbrev Fits : Form → Type 0
    Fits y = T (fits binary64 (worth c w r ti tc y))

    first_fits : (e : ℕ) (y : Form) → Fits y → Fits (first e y)
    first_fits e y k = product_fits (meets own i j (from c w r e) (from c w r e)) true e y k

    second_fits : (e : ℕ) (y : Form) → Fits y → Fits (second e (first e y))
    second_fits e y k = product_fits (meets own i j (to c w r e) (to c w r e)) true e (first e y) (first_fits e y k)

    third_fits : (e : ℕ) (y : Form) → Fits y → Fits (third e (second e (first e y)))
    third_fits e y k = product_fits (meets own i j (from c w r e) (to c w r e)) false e (second e (first e y)) (second_fits e y k)

    sum_fits : (n : ℕ) → Fits (bbus_to own i j n)
    unfolding bbus_to
    sum_fits zero = nought_fits
    sum_fits (suc e) =
        product_fits (meets own i j (to c w r e) (from c w r e)) false e (third e (second e (first e (bbus_to own i j e)))) (third_fits e (bbus_to own i j e) (sum_fits e))

    at_four : (a : Float) (k l m n : List Term) → summed a (at (k ++ (l ++ (m ++ n)))) ≡ summed (summed (summed (summed a (at k)) (at l)) (at m)) (at n)
    at_four a k l m n =
        rw (
          column_append (written c w r ti tc) Va j k (l ++ (m ++ n)),
          column_append (written c w r ti tc) Va j l (m ++ n),
          column_append (written c w r ti tc) Va j m n,
          sum_append a (at k) (at l ++ (at m ++ at n)),
          sum_append (summed a (at k)) (at l) (at m ++ at n),
          sum_append (summed (summed a (at k)) (at l)) (at m) (at n),
        )

    branch_step : (e : ℕ) (a : Float) (y : Form) → T (fits binary64 (worth c w r ti tc y)) → SameOrZeros a (neg (worth c w r ti tc y))
        → SameOrZeros (summed a (at (angle_terms e))) (neg (worth c w r ti tc (fourth e (third e (second e (first e y))))))
    branch_step e a y h q =
        alike_then (alike_is (at_four a (from_from e) (to_to e) (from_to e) (to_from e)))
        (down_step (eqb (to c w r e) i) (eqb (from c w r e) j) e (from c w r e) _ (third e (second e (first e y))) refl (third_fits e y h)
        (down_step (eqb (from c w r e) i) (eqb (to c w r e) j) e (to c w r e) _ (second e (first e y)) refl (second_fits e y h)
        (up_step (eqb (to c w r e) i) (eqb (to c w r e) j) e (to c w r e) _ (first e y) refl (first_fits e y h)
        (up_step (eqb (from c w r e) i) (eqb (from c w r e) j) e (from c w r e) a y refl h q))))

    sums_alike : (n : ℕ) → SameOrZeros (summed nought (at (each n angle_terms))) (neg (worth c w r ti tc (bbus_to own i j n)))
    unfolding each summed at_column bbus_to
    sums_alike zero = zeros none_zero less_zero
    sums_alike (suc e) =
        alike_then (alike_is (ap (summed nought) (column_append (written c w r ti tc) Va j (each e angle_terms) (angle_terms e)) ∙ sum_append nought (at (each e angle_terms)) (at (angle_terms e))))
        (branch_step e (summed nought (at (each e angle_terms))) (bbus_to own i j e) (sum_fits e) (sums_alike e))

  -- ---- the row's three parts, and the gradient's

  abbrev angles : Gradient
  angles = each c.buses (λ t. ((blocks.Va, t), form.minus (bbus own i t)) ∷ [])

  abbrev powers : Gradient
  powers = each c.generators (generator_at own i)

  abbrev demand : Gradient
  demand = ((blocks.Psh, i), forms.unit) ∷ []

  module _ (k : OpfColumn) (x : ℕ) where
    abbrev here : List Term → List Float
    here l = at_column (written c w r ti tc) k x l

    three_parts : here (shed_terms ++ (each c.generators power_term ++ each c.branches angle_terms)) ≡ here shed_terms ++ (here (each c.generators power_term) ++ here (each c.branches angle_terms))
    three_parts =
        column_append (written c w r ti tc) k x shed_terms _ ∙ ap (λ (l : List Float). here shed_terms ++ l) (column_append (written c w r ti tc) k x (each c.generators power_term) _)

    no_shed : eqb (column_rank Shed) (column_rank k) ≡ false → here shed_terms ≡ []
    no_shed e = off_column (written c w r ti tc) k x (sheds c w r i) Shed (shed c w r i) unit e

    no_power : eqb (column_rank Pg) (column_rank k) ≡ false → here (each c.generators power_term) ≡ []
    no_power e =
        column_each (written c w r ti tc) k x c.generators power_term
        ∙ each_none c.generators _ (λ t l. off_column (written c w r ti tc) k x (eqb (wire c w GenBus t) i) Pg t unit e)

    no_angle : eqb (column_rank Va) (column_rank k) ≡ false → here (each c.branches angle_terms) ≡ []
    no_angle e = column_each (written c w r ti tc) k x c.branches angle_terms ∙ each_none c.branches _ (λ t l. turn t)
      where
        off : (b : Bool) (s : ℕ) (f : Expr) → here (when b ((Va, s, f) ∷ [])) ≡ []
        off b s f = off_column (written c w r ti tc) k x b Va s f e

        four : (l m n o : List Term) → here l ≡ [] → here m ≡ [] → here n ≡ [] → here o ≡ [] → here (l ++ (m ++ (n ++ o))) ≡ []
        four l m n o p q s u =
            rw (column_append (written c w r ti tc) k x l (m ++ (n ++ o)), column_append (written c w r ti tc) k x m (n ++ o), column_append (written c w r ti tc) k x n o, p, q, s, u)

        turn : (t : ℕ) → here (angle_terms t) ≡ []
        turn t = four _ _ _ _ (off (eqb (from c w r t) i) _ _) (off (eqb (to c w r t) i) _ _) (off (eqb (from c w r t) i) _ _) (off (eqb (to c w r t) i) _ _)

  module _ (p : Place) where
    abbrev due : Gradient → List Float
    due g = term_values (worth c w r ti tc) g p

    three_terms : due (angles ++ (powers ++ demand)) ≡ due angles ++ (due powers ++ due demand)
    three_terms =
        terms_append (worth c w r ti tc) p angles (powers ++ demand) ∙ ap (λ (l : List Float). due angles ++ l) (terms_append (worth c w r ti tc) p powers demand)

    no_angles : ((t : ℕ) → same_place (blocks.Va, t) p ≡ false) → due angles ≡ []
    unfolding term_values when
    no_angles e = terms_none (worth c w r ti tc) p c.buses _ (λ t l. rw (e t))

    no_powers : ((t : ℕ) → same_place (blocks.Pg, t) p ≡ false) → due powers ≡ []
    no_powers e =
        terms_none (worth c w r ti tc) p c.generators _ (λ t l. off_place (worth c w r ti tc) p (eqb (wire c w GenBus t) i) (blocks.Pg, t) forms.unit (e t))

  -- ---- column by column

  abbrev gradient : Gradient
  gradient = (balance own i).gradient

  abbrev entries : OpfColumn → ℕ → List Float
  entries k x = at_column (written c w r ti tc) k x (shed_terms ++ (each c.generators power_term ++ each c.branches angle_terms))

  at_flow : (j : ℕ) → entries Flow j ≡ due (blocks.Flow, j) gradient
  unfolding term_values when
  at_flow j =
      three_parts Flow j
      ∙ rw (no_shed Flow j refl, no_power Flow j refl, no_angle Flow j refl)
      (sym (three_terms (blocks.Flow, j) ∙ rw (no_angles (blocks.Flow, j) (λ t. refl), no_powers (blocks.Flow, j) (λ t. refl))))

  at_cost : (j x : ℕ) → entries Cost x ≡ due (blocks.Cost, j) gradient
  unfolding term_values when
  at_cost j x =
      three_parts Cost x
      ∙ rw (no_shed Cost x refl, no_power Cost x refl, no_angle Cost x refl)
      (sym (three_terms (blocks.Cost, j) ∙ rw (no_angles (blocks.Cost, j) (λ t. refl), no_powers (blocks.Cost, j) (λ t. refl))))

  power_agrees : (j : ℕ) (b : Bool) (t : ℕ) → Agrees c w r ti tc Pg j refl (when b ((Pg, t, unit) ∷ [])) (when b (((blocks.Pg, t), forms.unit) ∷ []))
  unfolding when
  power_agrees j true t = agree_one c w r ti tc Pg j refl Pg t unit forms.unit refl refl
  power_agrees j false t = agree_none c w r ti tc Pg j refl

  at_power : (j : ℕ) → entries Pg j ≡ due (blocks.Pg, j) gradient
  unfolding term_values when
  at_power j =
      three_parts Pg j
      ∙ rw (no_shed Pg j refl, no_angle Pg j refl, agree_each c w r ti tc Pg j refl c.generators power_term (generator_at own i) (λ t l. power_agrees j (eqb (wire c w GenBus t) i) t))
      (sym (three_terms (blocks.Pg, j) ∙ rw (no_angles (blocks.Pg, j) (λ t. refl))))

  shed_agrees : (j : ℕ) (has : sheds c w r j ≡ true) (b : Bool) → sheds c w r i ≡ b → Agrees c w r ti tc Shed j has (when b ((Shed, shed c w r i, unit) ∷ [])) demand
  unfolding when term_values at_column
  shed_agrees j has true e = agree_one c w r ti tc Shed j has Shed i unit forms.unit e refl
  shed_agrees j has false e = rw (ne_eqb i j (λ q. apart (sheds c w r j) has (ap (sheds c w r) (sym q) ∙ e)))

  shed_due : (j : ℕ) → due (blocks.Psh, j) gradient ≡ due (blocks.Psh, j) demand
  shed_due j = three_terms (blocks.Psh, j) ∙ rw (no_angles (blocks.Psh, j) (λ t. refl), no_powers (blocks.Psh, j) (λ t. refl))

  at_shed : (j : ℕ) → sheds c w r j ≡ true → entries Shed (active_rank (sheds c w r) j) ≡ due (blocks.Psh, j) gradient
  at_shed j has =
      three_parts Shed (active_rank (sheds c w r) j)
      ∙ rw (no_power Shed (active_rank (sheds c w r) j) refl, no_angle Shed (active_rank (sheds c w r) j) refl, shed_agrees j has (sheds c w r i) refl)
      (append-nil (due (blocks.Psh, j) demand) ∙ sym (shed_due j))

  angle_due : (j : ℕ) → j < c.buses → due (blocks.Va, j) gradient ≡ only (neg (worth c w r ti tc (bbus own i j))) ++ []
  unfolding term_values when
  angle_due j l =
      three_terms (blocks.Va, j)
      ∙ rw (no_powers (blocks.Va, j) (λ t. refl))
      (append-nil _
      ∙ terms_point (worth c w r ti tc) (blocks.Va, j) c.buses j _ l (λ t m d. rw (ne_eqb t j d))
      ∙ rw (eq-eqb j j refl))

  at_angle : (j : ℕ) → j < c.buses → SameOrZeros (summed nought (entries Va j)) (summed nought (due (blocks.Va, j) gradient))
  at_angle j l =
      alike_then (alike_is (ap (summed nought) (three_parts Va j ∙ rw (no_shed Va j refl, no_power Va j refl))))
      (alike_then (sums_alike j c.branches)
      (alike_back (alike_then (alike_is (ap (summed nought) (angle_due j l))) (sum_only _ (neg-fits binary64 _ (sum_fits j c.branches))))))

  pub balance_entries : i < c.buses → (k : OpfColumn) (j : ℕ) → j < column_elements c k → has_column c w r ti tc k j ≡ true
      → Holds (together Balance k) (at_column (written c w r ti tc) k (column_index c w r ti tc k j) (entry_in_row Balance i (a_entries c w r ti tc))) (term_values (worth c w r ti tc) (balance own i).gradient (variable c w r ti tc k j))
  balance_entries l Va j m has = rw (balance_row_lem l) (plainly (at_angle j m))
  balance_entries l Pg j m has = rw (balance_row_lem l) (at_power j)
  balance_entries l Flow j m has = rw (balance_row_lem l) (at_flow j)
  balance_entries l Shed j m has = rw (balance_row_lem l) (at_shed j has)
  balance_entries l Cost j m has = rw (balance_row_lem l) (at_cost _ _)
