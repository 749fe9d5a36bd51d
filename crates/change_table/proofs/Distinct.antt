-- "On a branch with two ends exactly 4, 2, 22, 12, 3, 3, 1, 1, 1 distinct cells for kinds 1 to 9". Main result: `named_count`.
-- The cells are written as codes, whose indexes are the change's own or a branch's end; codes are told apart by computation. Assumes nothing.
use mathlib.Core.Path.{◌≡◌, refl, sym, ap, subst, ◌∙◌}
use mathlib.Core.Bool.{Bool, true, false, not, ◌&&◌, ◌||◌, and-false}
use mathlib.Core.List.{List, [], ◌∷◌, ◌++◌, map}
use mathlib.Core.Logic.{⊎_elim}
use Prim.Native.Nat.{ℕ, ◌+◌, ◌-◌, ◌≤◌, ◌<◌}
use native.Mathlib.Omega.{arith}
use lib.Dec.{eqb, leb, leb→le, T}
use lib.ListN.{length, get_or, length-map}
use lib.Ieee.{Float}
use lib.Ieee.Fits.{and_l, and_r}
use borrow.Author.Tests.{eqb-true, eq-eqb, ne_eqb}
use Rattle.sequence.specs.Lists.{every}
use Rattle.sequence.proofs.Lists.{and_left, and_right, every_at}
use Rattle.network.specs.declared.Counts.{Counts}
use Rattle.network.specs.declared.Field.{Field}
use Rattle.network.specs.declared.Field.TheVariants.{BaseMva, Susceptance, Sw, Shift, FlowOffset, Fmax, Angmin, Angmax, Gmin, Gmax, Cq, Cl, Cc, CShed, Demand, ShuntConductance, HvdcInjection, Slopes, Intercepts, UpperMw, LowerMw}
use Rattle.network.specs.declared.Part.TheVariants.{BrFrom, BrTo}
use Rattle.network.specs.Layout.{size, wire}
use Rattle.network.specs.Numbers.{Wired}
use Rattle.solution.specs.Sheet.{pieces}
use Rattle.kkt_index.specs.declared.Block.{Block}
use Rattle.kkt_index.specs.declared.Block.TheVariants.{Va, Pg, Flow, Psh, Cost, LamLb, LamUb, GammaLb, GammaUb, RhoLb, RhoUb, MuLb, MuUb, Segments, Linear, NuBal, NuFlow, Eta}
use Rattle.kkt_index.specs.Index as index
use Rattle.kkt_index.proofs.Blocks.{blocks_apart}
use Rattle.change_table.proofs.Among.{either_true}
use Rattle.change_table.specs.Table.{Cell, Pair, is_kind, field_of, cells_of, cell_at, cells_at, named_cells, same_cell, among, distinct}

-- ---- cells as codes

data Ix : Type 0 where
  own from to : Ix

abbrev Spot : Type 0
Spot = Block × Ix

abbrev Code : Type 0
Code = Spot × Spot

abbrev diagonal : Block → List Code
diagonal b = ((b, own), (b, own)) ∷ []

abbrev against : Block → List Code
against b = ((b, own), (Va, from)) ∷ ((b, own), (Va, to)) ∷ []

abbrev both_ways : Block → List Code
both_ways b = against b ++ ((Va, from), (b, own)) ∷ ((Va, to), (b, own)) ∷ []

abbrev crossing : Block → Block → List Code
crossing a b = ((a, from), (b, from)) ∷ ((a, from), (b, to)) ∷ ((a, to), (b, from)) ∷ ((a, to), (b, to)) ∷ []

abbrev balances : List Code
balances = crossing NuBal Va ++ crossing Va NuBal

abbrev codes : Field → List Code
codes Demand = ((MuLb, own), (Psh, own)) ∷ ((MuUb, own), (Psh, own)) ∷ (diagonal MuLb ++ diagonal MuUb)
codes Fmax = diagonal LamLb ++ diagonal LamUb
codes Sw =
    both_ways GammaLb ++ (both_ways GammaUb ++ (both_ways NuFlow ++ (diagonal GammaLb ++ (diagonal GammaUb ++ balances))))
codes Susceptance = both_ways NuFlow ++ balances
codes Angmin = against GammaLb ++ diagonal GammaLb
codes Angmax = against GammaUb ++ diagonal GammaUb
codes Cq = diagonal Pg
codes Gmin = diagonal RhoLb
codes Gmax = diagonal RhoUb
codes BaseMva = []
codes Shift = []
codes FlowOffset = []
codes Cl = []
codes Cc = []
codes CShed = []
codes ShuntConductance = []
codes HvdcInjection = []
codes Slopes = []
codes Intercepts = []
codes UpperMw = []
codes LowerMw = []

-- ---- which codes lie within their blocks: a block and a field each have one of these counts

abbrev count : Counts → ℕ → ℕ
count c s = get_or (c.buses ∷ c.branches ∷ c.generators ∷ 1 ∷ c.segments ∷ c.rows ∷ []) s 0

abbrev span_of : Block → ℕ
span_of Va = 0
span_of Pg = 2
span_of Flow = 1
span_of Psh = 0
span_of Cost = 6
span_of LamLb = 1
span_of LamUb = 1
span_of GammaLb = 1
span_of GammaUb = 1
span_of RhoLb = 2
span_of RhoUb = 2
span_of MuLb = 0
span_of MuUb = 0
span_of Segments = 4
span_of Linear = 6
span_of NuBal = 0
span_of NuFlow = 1
span_of Eta = 6

abbrev field_span : Field → ℕ
field_span BaseMva = 3
field_span Susceptance = 1
field_span Sw = 1
field_span Shift = 1
field_span FlowOffset = 1
field_span Fmax = 1
field_span Angmin = 1
field_span Angmax = 1
field_span Gmin = 2
field_span Gmax = 2
field_span Cq = 2
field_span Cl = 2
field_span Cc = 2
field_span CShed = 0
field_span Demand = 0
field_span ShuntConductance = 0
field_span HvdcInjection = 0
field_span Slopes = 4
field_span Intercepts = 4
field_span UpperMw = 5
field_span LowerMw = 5

-- a reading of the branches
abbrev pub of_branch : Field → Bool
of_branch f = eqb (field_span f) 1

-- an index of a reading of count s: its own, or an end if it is a branch's
abbrev fits : ℕ → Spot → Bool
fits s (b, own) = eqb (span_of b) s
fits s (b, from) = eqb (span_of b) 0 && eqb s 1
fits s (b, to) = eqb (span_of b) 0 && eqb s 1

abbrev all_fit : ℕ → List Code → Bool
all_fit s [] = true
all_fit s (q ∷ qs) = (fits s q.0 && fits s q.1) && all_fit s qs

-- ---- which codes are told apart

abbrev other_end : Ix → Ix → Bool
other_end from to = true
other_end to from = true
other_end from from = false
other_end to to = false
other_end own y = false
other_end from own = false
other_end to own = false

abbrev apart : Spot → Spot → Bool
apart x y = not (eqb (index.rank x.0) (index.rank y.0)) || other_end x.1 y.1

abbrev apart_from : Code → List Code → Bool
apart_from q [] = true
apart_from q (p ∷ ps) = (apart q.0 p.0 || apart q.1 p.1) && apart_from q ps

abbrev all_apart : List Code → Bool
all_apart [] = true
all_apart (q ∷ qs) = apart_from q qs && all_apart qs

fields_fit : (f : Field) → all_fit (field_span f) (codes f) ≡ true
fields_fit BaseMva = refl
fields_fit Susceptance = refl
fields_fit Sw = refl
fields_fit Shift = refl
fields_fit FlowOffset = refl
fields_fit Fmax = refl
fields_fit Angmin = refl
fields_fit Angmax = refl
fields_fit Gmin = refl
fields_fit Gmax = refl
fields_fit Cq = refl
fields_fit Cl = refl
fields_fit Cc = refl
fields_fit CShed = refl
fields_fit Demand = refl
fields_fit ShuntConductance = refl
fields_fit HvdcInjection = refl
fields_fit Slopes = refl
fields_fit Intercepts = refl
fields_fit UpperMw = refl
fields_fit LowerMw = refl

fields_apart : (f : Field) → all_apart (codes f) ≡ true
fields_apart BaseMva = refl
fields_apart Susceptance = refl
fields_apart Sw = refl
fields_apart Shift = refl
fields_apart FlowOffset = refl
fields_apart Fmax = refl
fields_apart Angmin = refl
fields_apart Angmax = refl
fields_apart Gmin = refl
fields_apart Gmax = refl
fields_apart Cq = refl
fields_apart Cl = refl
fields_apart Cc = refl
fields_apart CShed = refl
fields_apart Demand = refl
fields_apart ShuntConductance = refl
fields_apart HvdcInjection = refl
fields_apart Slopes = refl
fields_apart Intercepts = refl
fields_apart UpperMw = refl
fields_apart LowerMw = refl

field_size : (c : Counts) (f : Field) → size c f ≡ count c (field_span f)
field_size c BaseMva = refl
field_size c Susceptance = refl
field_size c Sw = refl
field_size c Shift = refl
field_size c FlowOffset = refl
field_size c Fmax = refl
field_size c Angmin = refl
field_size c Angmax = refl
field_size c Gmin = refl
field_size c Gmax = refl
field_size c Cq = refl
field_size c Cl = refl
field_size c Cc = refl
field_size c CShed = refl
field_size c Demand = refl
field_size c ShuntConductance = refl
field_size c HvdcInjection = refl
field_size c Slopes = refl
field_size c Intercepts = refl
field_size c UpperMw = refl
field_size c LowerMw = refl

block_size : (c : Counts) (p l : ℕ) (b : Block) → count c (span_of b) ≤ index.size c p l b
block_size c p l Va = omega arith
block_size c p l Pg = omega arith
block_size c p l Flow = omega arith
block_size c p l Psh = omega arith
block_size c p l Cost = omega arith
block_size c p l LamLb = omega arith
block_size c p l LamUb = omega arith
block_size c p l GammaLb = omega arith
block_size c p l GammaUb = omega arith
block_size c p l RhoLb = omega arith
block_size c p l RhoUb = omega arith
block_size c p l MuLb = omega arith
block_size c p l MuUb = omega arith
block_size c p l Segments = omega arith
block_size c p l Linear = omega arith
block_size c p l NuBal = omega arith
block_size c p l NuFlow = omega arith
block_size c p l Eta = omega arith

-- ---- codes that are apart are different cells

module _ (c : Counts) (w : List ℕ) (i : ℕ) where
  abbrev place : Ix → ℕ
  place own = i
  place from = wire c w BrFrom i
  place to = wire c w BrTo i

  abbrev pair_of : Code → Pair
  pair_of q = ((q.0.0, place q.0.1), (q.1.0, place q.1.1))

  codes_are : (f : Field) → cells_of c w f i ≡ map pair_of (codes f)
  codes_are BaseMva = refl
  codes_are Susceptance = refl
  codes_are Sw = refl
  codes_are Shift = refl
  codes_are FlowOffset = refl
  codes_are Fmax = refl
  codes_are Angmin = refl
  codes_are Angmax = refl
  codes_are Gmin = refl
  codes_are Gmax = refl
  codes_are Cq = refl
  codes_are Cl = refl
  codes_are Cc = refl
  codes_are CShed = refl
  codes_are Demand = refl
  codes_are ShuntConductance = refl
  codes_are HvdcInjection = refl
  codes_are Slopes = refl
  codes_are Intercepts = refl
  codes_are UpperMw = refl
  codes_are LowerMw = refl

  module _ (W : Wired c w) (s : ℕ) (inside : i < count c s) (two : eqb s 1 ≡ true → wire c w BrFrom i ≡ wire c w BrTo i → ⊥) where
    on_branch : eqb s 1 ≡ true → i < c.branches
    on_branch e = subst (λ (t : ℕ). i < count c t) (eqb-true s 1 e) inside

    below : (x : Spot) → fits s x ≡ true → place x.1 < count c (span_of x.0)
    below (b, own) h = subst (λ (t : ℕ). i < count c t) (sym (eqb-true (span_of b) s h)) inside
    below (b, from) h =
        subst (λ (t : ℕ). wire c w BrFrom i < count c t) (sym (eqb-true (span_of b) 0 (and_left _ (eqb s 1) h))) (W.froms i (on_branch (and_right (eqb (span_of b) 0) _ h)))
    below (b, to) h =
        subst (λ (t : ℕ). wire c w BrTo i < count c t) (sym (eqb-true (span_of b) 0 (and_left _ (eqb s 1) h))) (W.tos i (on_branch (and_right (eqb (span_of b) 0) _ h)))

    ends_differ : (x y : Spot) → fits s x ≡ true → other_end x.1 y.1 ≡ true → place x.1 ≡ place y.1 → ⊥
    ends_differ (a, from) (b, to) h o e = two (and_right (eqb (span_of a) 0) _ h) e
    ends_differ (a, to) (b, from) h o e = two (and_right (eqb (span_of a) 0) _ h) (sym e)
    ends_differ (a, own) (b, y) h o e = subst T (sym o) tt
    ends_differ (a, from) (b, own) h o e = subst T (sym o) tt
    ends_differ (a, from) (b, from) h o e = subst T (sym o) tt
    ends_differ (a, to) (b, own) h o e = subst T (sym o) tt
    ends_differ (a, to) (b, to) h o e = subst T (sym o) tt

    module _ (p l : ℕ) where
      abbrev start : Block → ℕ
      start b = index.block_start c p l b

      spots_differ : (x y : Spot) → fits s x ≡ true → fits s y ≡ true → apart x y ≡ true → start x.0 + place x.1 ≡ start y.0 + place y.1 → ⊥
      spots_differ x y hx hy h e =
          let q = blocks_apart c p l x.0 y.0 (place x.1) (place y.1) (omega (arith, below x hx, block_size c p l x.0)) (omega (arith, below y hy, block_size c p l y.0)) e in
          ⊎_elim (λ d. subst T (sym (sym (ap not (eq-eqb _ _ (ap index.rank q.0))) ∙ d)) tt)
          (λ d. ends_differ x y hx d q.1)
          (either_true (not (eqb (index.rank x.0) (index.rank y.0))) (other_end x.1 y.1) h)

      abbrev cell : Code → Cell
      cell q = cell_at start (pair_of q)

      abbrev fitting : Code → Bool
      fitting q = fits s q.0 && fits s q.1

      cells_differ : (x y : Code) → fitting x ≡ true → fitting y ≡ true → (apart x.0 y.0 || apart x.1 y.1) ≡ true → same_cell (cell x) (cell y) ≡ false
      cells_differ x y hx hy h =
          ⊎_elim
          (λ d. rw (ne_eqb (cell x).0 (cell y).0 (spots_differ x.0 y.0 (and_left (fits s x.0) (fits s x.1) hx) (and_left (fits s y.0) (fits s y.1) hy) d)))
          (λ d. rw (ne_eqb (cell x).1 (cell y).1 (spots_differ x.1 y.1 (and_right (fits s x.0) (fits s x.1) hx) (and_right (fits s y.0) (fits s y.1) hy) d)) (and-false (eqb (cell x).0 (cell y).0)))
          (either_true (apart x.0 y.0) (apart x.1 y.1) h)

      not_among : (x : Code) (ys : List Code) → fitting x ≡ true → all_fit s ys ≡ true → apart_from x ys ≡ true → among (cell x) (cells_at start (map pair_of ys)) ≡ false
      unfolding among
      not_among x [] hx hy h = refl
      not_among x (y ∷ ys) hx hy h =
          rw (cells_differ x y hx (and_left (fitting y) (all_fit s ys) hy) (and_left _ (apart_from x ys) h))
          (not_among x ys hx (and_right (fitting y) (all_fit s ys) hy) (and_right (apart x.0 y.0 || apart x.1 y.1) _ h))

      all_distinct : (xs : List Code) → all_fit s xs ≡ true → all_apart xs ≡ true → distinct (cells_at start (map pair_of xs)) ≡ true
      unfolding distinct
      all_distinct [] hx h = refl
      all_distinct (x ∷ xs) hx h =
          rw (not_among x xs (and_left (fitting x) (all_fit s xs) hx) (and_right (fitting x) (all_fit s xs) hx) (and_left _ (all_apart xs) h))
          (all_distinct xs (and_right (fitting x) (all_fit s xs) hx) (and_right (apart_from x xs) _ h))

-- ---- the kinds' cells

abbrev pub cell_counts : List ℕ
cell_counts = 4 ∷ 2 ∷ 22 ∷ 12 ∷ 3 ∷ 3 ∷ 1 ∷ 1 ∷ 1 ∷ []

counts_are : every (λ n. eqb (length (codes (field_of (1 + n)))) (get_or cell_counts n 0)) 9 ≡ true
unfolding every
counts_are = refl

pub named_count : (c : Counts) (w : List ℕ) (r : List Float) (k i : ℕ) → Wired c w → T (is_kind k) → i < size c (field_of k)
    → (of_branch (field_of k) ≡ true → wire c w BrFrom i ≡ wire c w BrTo i → ⊥)
    → (distinct (named_cells c w r k i) ≡ true) × (length (named_cells c w r k i) ≡ get_or cell_counts (k - 1) 0)
unfolding named_cells
named_count c w r k i W h inside two =
    let f : Field = field_of k in
    let l : 1 ≤ k = leb→le 1 k (and_l (leb 1 k) (leb k 9) h) in
    let m : k ≤ 9 = leb→le k 9 (and_r (leb 1 k) (leb k 9) h) in
    let e : 1 + (k - 1) ≡ k = omega arith in
    let n : length (codes (field_of (1 + (k - 1)))) ≡ get_or cell_counts (k - 1) 0 = eqb-true (length (codes (field_of (1 + (k - 1))))) (get_or cell_counts (k - 1) 0) (every_at (λ n. eqb (length (codes (field_of (1 + n)))) (get_or cell_counts n 0)) 9 counts_are (k - 1) (omega arith)) in
    rw (codes_are c w i f) (
      all_distinct c w i W (field_span f) (rw (field_size c f) at inside) two (pieces c w) (index.linear_row_count c w r) (codes f) (fields_fit f) (fields_apart f),
      length-map (map (pair_of c w i) (codes f)) _ ∙ length-map (codes f) _ ∙ (rw e at n),
    )
