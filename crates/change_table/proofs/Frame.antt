-- A change of one reading leaves every cell that the table does not name as it was; and it moves no row's shape, so no cell's place.
-- Main results: `shapes_same`, `named_same`, `frame`. Assumes nothing.
use Prim.Native.Nat.{ℕ, zero, suc, ◌≤◌, ◌<◌}
use mathlib.Core.Path.{◌≡◌, refl, sym, ap, ap₂, subst, ◌∙◌}
use mathlib.Core.Logic.{inl, inr}
use mathlib.Core.Bool.{Bool, true, false, not}
use mathlib.Core.List.{List, [], ◌∷◌, ◌++◌}
use mathlib.Mathlib.Data.Bool.Basic.{or_inl, or_inr}
use native.Mathlib.Omega.{arith}
use lib.ListN.{length, set}
use lib.Seq.{get_or-set_other}
use lib.Dec.{T, eqb, leb}
use lib.Ieee.{Float, nan, eq}
use lib.Ieee.Bits.{is_true}
use borrow.Author.Tests.{eqb-true, eq-eqb, leb-true}
use Rattle.float64.specs.Values.{nought}
use Rattle.sequence.specs.Lists.{every, when}
use Rattle.sequence.specs.declared.Triplet.{Triplet}
use Rattle.sequence.specs.Sheets.{item, emit}
use Rattle.sequence.proofs.Lists.{and_left, and_right, every_at, before_same, each_same}
use Rattle.sequence.specs.Facts.{All}
use Rattle.sequence.specs.Facts.All.{done, ◌&◌}
use Rattle.network.specs.declared.Counts.{Counts}
use Rattle.network.specs.declared.Field.{Field}
use Rattle.network.specs.declared.Field.TheVariants.{UpperMw, LowerMw}
use Rattle.network.specs.Layout.{size, place, reading}
use Rattle.network.specs.Numbers.{Wired}
use Rattle.network.proofs.Places.{places_apart}
use Rattle.model.specs.Rows.{row_limits}
use Rattle.solution.specs.declared.Entry.{Entry}
use Rattle.solution.specs.Sheet.{pieces, solved}
use Rattle.kkt_index.specs.declared.Block.{Block}
use Rattle.kkt_index.specs.declared.Block.TheVariants.{Va, Pg, Flow, Psh, Cost, LamLb, LamUb, GammaLb, GammaUb, RhoLb, RhoUb, MuLb, MuUb, Segments, Linear, NuBal, NuFlow, Eta}
use Rattle.kkt_index.specs.Index.{Shape, shape_of, linear_start, linear_row_count, block_start}
use Rattle.snapping.specs.Expr.{eval}
use Rattle.kkt.specs.Slots.{Slot, Rule, row_slots, site_of, start_of, columns, turns_of, emission, emission_at, slots}
use Rattle.kkt.specs.Matrix.{emitted, kkt_matrix_list}
use Rattle.change_table.specs.Table.{is_kind, field_of, Pair, cells_of, Cell, cell_at, cells_at, named_cells, same_cell, among, values_at}
use Rattle.change_table.proofs.Agree.{agree, weaken}
use Rattle.change_table.proofs.Cover.{In, is_set, Fair, Good, slots_good}

-- ---- cells

same_is : (x y : Cell) → same_cell x y ≡ true → x ≡ y
same_is x y e =
    let p : x.0 ≡ y.0 = eqb-true x.0 y.0 (and_left (eqb x.0 y.0) (eqb x.1 y.1) e) in
    let q : x.1 ≡ y.1 = eqb-true x.1 y.1 (and_right (eqb x.0 y.0) (eqb x.1 y.1) e) in
    λ i. (p i, q i)

same_self : (x : Cell) → same_cell x x ≡ true
same_self x = rw (eq-eqb x.0 x.0 refl, eq-eqb x.1 x.1 refl)

among_at : (start : Block → ℕ) (p : Pair) (ps : List Pair) → In p ps → among (cell_at start p) (cells_at start ps) ≡ true
unfolding among
among_at start p [] h = absurd h
among_at start p (q ∷ ps) (inl e) =
    or_inl (same_cell (cell_at start p) (cell_at start q)) _ (subst (λ (q : Pair). same_cell (cell_at start p) (cell_at start q) ≡ true) e (same_self (cell_at start p)))
among_at start p (q ∷ ps) (inr h) =
    or_inr (same_cell (cell_at start p) (cell_at start q)) _ (among_at start p ps h)

-- ---- a cell's values, for any slots and any two sets of readings

-- those of a list that begins with a triplet or none
pub at_head : (t : Bool) (r k : ℕ) (z : Float) (ts : List Triplet) (x : Cell)
    → values_at (emit (item t r k z) ++ ts) x ≡ when t (when (same_cell (r, k) x) (z ∷ [])) ++ values_at ts x
unfolding values_at emit when
at_head true r k z ts x = refl
at_head false r k z ts x = refl

same_turn : (a : Bool) (y z : Float) → (a ≡ true → y ≡ z)
    → when (not (eq y nought)) (when a (y ∷ [])) ≡ when (not (eq z nought)) (when a (z ∷ []))
unfolding when
same_turn true y z h = rw (h refl)
same_turn false y z h = nothing (not (eq y nought)) ∙ sym (nothing (not (eq z nought)))
  where
    nothing : (t : Bool) → when {A = Float} t [] ≡ []
    nothing true = refl
    nothing false = refl

module _ (start : Block → ℕ) (R Q : Field → ℕ → Float) (S : Entry → ℕ → Float) (x : Cell) where
  abbrev cell_of : Slot → Cell
  cell_of s = cell_at start (s.row, s.col)

  values_same : {ss : List Slot} → All (λ s. same_cell (cell_of s) x ≡ true → eval R S s.what ≡ eval Q S s.what) ss
      → values_at (emitted start R S ss) x ≡ values_at (emitted start Q S ss) x
  unfolding emitted
  values_same done = refl
  values_same (◌&◌ {x = s} {xs = ss} h hs) =
      at_head _ _ _ (eval R S s.what) (emitted start R S ss) x
      ∙ ap₂ (λ (a b : List Float). a ++ b) (same_turn (same_cell (cell_of s) x) (eval R S s.what) (eval Q S s.what) h) (values_same hs)
      ∙ sym (at_head _ _ _ (eval Q S s.what) (emitted start Q S ss) x)

-- ---- the kinds

kinds_set : every (λ k. is_set (field_of (suc k))) 9 ≡ true
unfolding every
kinds_set = refl

kind_set : (k : ℕ) → T (is_kind k) → T (is_set (field_of k))
kind_set k t = go k (leb-true 1 k (and_left (leb 1 k) (leb k 9) e)) (leb-true k 9 (and_right (leb 1 k) (leb k 9) e))
  where
    e : is_kind k ≡ true
    e = is_true (is_kind k) t

    go : (k : ℕ) → 1 ≤ k → k ≤ 9 → T (is_set (field_of k))
    go zero l m = absurd (omega arith)
    go (suc k) l m = subst T (sym (every_at (λ k. is_set (field_of (suc k))) 9 kinds_set k (omega arith))) tt

-- ---- readings apart

module _ (c : Counts) (w : List ℕ) (r : List Float) (g : Field) (j : ℕ) (v : Float) (hj : j < size c g) (hg : T (is_set g)) where
  abbrev new : List Float
  new = set r (place c g j) v

  -- a reading that may stand in an unnamed cell is not the one that changes
  stays : (p : Pair) → (In p (cells_of c w g j) → ⊥) → (f : Field) (i : ℕ) → Fair c w p f i → reading c new f i ≡ reading c r f i
  unfolding reading
  stays p none f i h = get_or-set_other r (place c g j) (place c f i) v nan (λ e.
      let q = places_apart c f g i j h.0 hj e in
      none (subst (λ (i : ℕ). In p (cells_of c w g i)) q.1
      (subst (λ (f : Field). T (is_set f) → In p (cells_of c w f i)) q.0 h.1 hg)))

  -- one that no kind sets
  unset_stays : (f : Field) (i : ℕ) → i < size c f → (T (is_set f) → ⊥) → reading c new f i ≡ reading c r f i
  unfolding reading
  unset_stays f i hi free = get_or-set_other r (place c g j) (place c f i) v nan (λ e.
      free (subst (λ (f : Field). T (is_set f)) (sym (places_apart c f g i j hi hj e).0) hg))

  limits_stay : (q : ℕ) → q < c.rows → row_limits c w new q ≡ row_limits c w r q
  unfolding row_limits
  limits_stay q l = rw (unset_stays UpperMw q l (λ z. z), unset_stays LowerMw q l (λ z. z))

  rows_stay : linear_row_count c w new ≡ linear_row_count c w r
  unfolding linear_start
  rows_stay = before_same _ _ c.rows (λ q l. rw (limits_stay q l))

  module _ (rule : Rule) (ti : List ℕ) (tc : List Float) where
    start_stays : (q : ℕ) → q < c.rows → start_of (site_of rule c w new ti tc) q ≡ start_of (site_of rule c w r ti tc) q
    start_stays q l = before_same _ _ q (λ i m. rw (limits_stay i (omega arith)))

    column_stays : (b : Block) (i : ℕ) → i < turns_of c b → columns (site_of rule c w new ti tc) b i ≡ columns (site_of rule c w r ti tc) b i
    unfolding columns
    column_stays Va i l = refl
    column_stays Pg i l = refl
    column_stays Flow i l = refl
    column_stays Psh i l = refl
    column_stays Cost i l = refl
    column_stays LamLb i l = refl
    column_stays LamUb i l = refl
    column_stays GammaLb i l = refl
    column_stays GammaUb i l = refl
    column_stays RhoLb i l = refl
    column_stays RhoUb i l = refl
    column_stays MuLb i l = refl
    column_stays MuUb i l = refl
    column_stays Segments i l = refl
    column_stays Linear i l =
        ap₂ (λ (f : Shape) (x : ℕ). row_slots c w ti tc f i x) (ap shape_of (limits_stay i l)) (start_stays i l)
    column_stays NuBal i l = refl
    column_stays NuFlow i l = refl
    column_stays Eta i l = refl

    slots_stay : slots (site_of rule c w new ti tc) ≡ slots (site_of rule c w r ti tc)
    unfolding slots
    slots_stay = each_same (length emission) _ _ (λ k l. each_same (turns_of c (emission_at k)) _ _ (column_stays (emission_at k)))

    -- ---- the change

    module _ (s : List Float) (x : Cell) (h : Wired c w) where
      abbrev at : Block → ℕ
      at = block_start c (pieces c w) (linear_row_count c w r)

      value_stays : among x (cells_at at (cells_of c w g j)) ≡ false → (o : Slot) → Good c w o → same_cell (cell_at at (o.row, o.col)) x ≡ true
          → eval (reading c new) (solved c (pieces c w) s) o.what ≡ eval (reading c r) (solved c (pieces c w) s) o.what
      value_stays e o k t =
          agree (reading c new) (reading c r) (solved c (pieces c w) s) o.what
          (weaken (Fair c w (o.row, o.col)) (λ f i. reading c new f i ≡ reading c r f i)
          (stays (o.row, o.col) (λ m. subst T (sym (named m) ∙ e) tt)) o.what k)
        where
          named : In (o.row, o.col) (cells_of c w g j) → among x (cells_at at (cells_of c w g j)) ≡ true
          named m = subst (λ (y : Cell). among y (cells_at at (cells_of c w g j)) ≡ true) (same_is _ x t) (among_at at (o.row, o.col) (cells_of c w g j) m)

      all_stay : among x (cells_at at (cells_of c w g j)) ≡ false → {ss : List Slot} → All (Good c w) ss
          → All (λ o. same_cell (cell_at at (o.row, o.col)) x ≡ true → eval (reading c new) (solved c (pieces c w) s) o.what ≡ eval (reading c r) (solved c (pieces c w) s) o.what) ss
      all_stay e done = done
      all_stay e (◌&◌ {x = o} k ks) = value_stays e o k & all_stay e ks

      cell_stays : among x (cells_at at (cells_of c w g j)) ≡ false → values_at (kkt_matrix_list rule c w new ti tc s) x ≡ values_at (kkt_matrix_list rule c w r ti tc s) x
      unfolding kkt_matrix_list
      cell_stays e =
          ap₂ (λ (l : ℕ) (ss : List Slot). values_at (emitted (block_start c (pieces c w) l) (reading c new) (solved c (pieces c w) s) ss) x) rows_stay slots_stay
          ∙ values_same at (reading c new) (reading c r) (solved c (pieces c w) s) x (all_stay e (slots_good (site_of rule c w r ti tc) h))

-- ---- by kind

pub shapes_same : (c : Counts) (w : List ℕ) (r : List Float) (k i : ℕ) (v : Float) → T (is_kind k) → i < size c (field_of k)
    → (q : ℕ) → q < c.rows → shape_of (row_limits c w (set r (place c (field_of k) i) v) q) ≡ shape_of (row_limits c w r q)
shapes_same c w r k i v t l q m = ap shape_of (limits_stay c w r (field_of k) i v l (kind_set k t) q m)

pub named_same : (c : Counts) (w : List ℕ) (r : List Float) (k i : ℕ) (v : Float) → T (is_kind k) → i < size c (field_of k)
    → (k₂ i₂ : ℕ) → named_cells c w (set r (place c (field_of k) i) v) k₂ i₂ ≡ named_cells c w r k₂ i₂
unfolding named_cells
named_same c w r k i v t l k₂ i₂ =
    ap (λ (n : ℕ). cells_at (block_start c (pieces c w) n) (cells_of c w (field_of k₂) i₂)) (rows_stay c w r (field_of k) i v l (kind_set k t))

-- a change of one reading leaves every cell that the table does not name as it was
pub frame : (rule : Rule) (c : Counts) (w : List ℕ) (r : List Float) (ti : List ℕ) (tc s : List Float) (k i : ℕ) (v : Float) (x : Cell)
    → Wired c w → T (is_kind k) → i < size c (field_of k) → among x (named_cells c w r k i) ≡ false
    → values_at (kkt_matrix_list rule c w (set r (place c (field_of k) i) v) ti tc s) x ≡ values_at (kkt_matrix_list rule c w r ti tc s) x
unfolding named_cells
frame rule c w r ti tc s k i v x h t l e = cell_stays c w r (field_of k) i v l (kind_set k t) rule ti tc s x h e
