-- Each kind's change moves every cell that it names: one network, and one change of each kind, by computation.
-- Main results: `kinds_occur`, `network_accepted`, `every_named_cell_moves`, and `moved`, which says the same of each kind by itself. Assumes nothing.
use mathlib.Core.Path.{◌≡◌, refl, sym, ap, subst, ◌∙◌}
use mathlib.Core.Bool.{Bool, true, false, not, ◌&&◌}
use mathlib.Core.Logic.{⊎_elim}
use mathlib.Core.List.{List, [], ◌∷◌, map}
use Prim.Native.Nat.{ℕ, zero, suc, ◌+◌, ◌-◌, ◌≤◌, ◌<◌}
use native.Mathlib.Nat.{not-suc-le-zero}
use native.Mathlib.Omega.{arith}
use lib.Dec.{eqb, ltb, leb, leb→le, T}
use borrow.Author.Tests.{eqb-true, eq-eqb}
use lib.ListN.{length, set, get_or}
use lib.Ieee.Fits.{and_l, and_r}
use lib.Ieee.{Float, binary64, of_int, of_bits, to_bits, add, sub, mul, div, neg, lt, le, eq}
use Rattle.float64.specs.Values.{nought, one, tolerance, whole, max_zero, finite, magnitude, within, in_range, raw_limit, sheet_limit, base_low, base_high}
use Rattle.sequence.specs.Lists.{when, each, before, some, every}
use Rattle.sequence.proofs.Lists.{and_left, and_right, every_at}
use Rattle.sequence.specs.Answers.{first_of}
use Rattle.sequence.specs.declared.Triplet.{Triplet}
use Rattle.sequence.specs.Sheets.{emit}
use Rattle.network.specs.declared.Counts.{Counts}
use Rattle.network.specs.Layout.{counts_of, size, place, field_start, wire, part_start, reading, segment_start, term_start}
use Rattle.network.specs.Numbers.{Network, network_number, sizes_hold, few, lengths_hold, sums_hold, wiring_holds, part_holds, terms_hold, flow_terms_hold, generation_terms_hold, readings_hold, field_holds, in_rank, all_within}
use Rattle.solution.specs.NetworkB.{wiring_b, readings_b, sheet_b}
use Rattle.solution.specs.Sheet.{pieces, piece_rank, sheet_length, solved, entry_start}
use Rattle.kkt_index.specs.Index.{block_start, linear_start}
use Rattle.kkt.specs.Slots.{slots, columns, branch_parts, reference_slot}
use Rattle.kkt.specs.Slots.Rule.{first_place}
use Rattle.kkt.specs.Matrix.{emitted, kkt_matrix_list}
use Rattle.change_table.proofs.Among.{either_true}
use Rattle.change_table.specs.Table.{Cell, same_cell, is_kind, field_of, named_cells, among, values_at}

-- ---- the network: 01's network B with shedding on and bus 1's demand 0, whose angle limits are nearer than the tolerance

abbrev pub wiring : List ℕ
wiring = set wiring_b 7 1

abbrev pub counts : Counts
counts = counts_of wiring

-- angmin, angmax, and bus 1's demand
abbrev pub readings : List Float
readings = set (set (set readings_b 6 (of_bits binary64 0x3fcf_fffc_0000_0000)) 7 (of_bits binary64 0x3fd0_0002_0000_0000)) 16 nought

-- psh and mu_ub of bus 1 and both gammas, each 1
abbrev pub sheet : List Float
sheet = set (set (set (set sheet_b 5 one) 13 one) 16 one) 17 one

abbrev pub list_of : List Float → List Triplet
list_of r = kkt_matrix_list first_place counts wiring r [] [] sheet

-- ---- the changes

pub record Case : Type 0 where
  pub kind : ℕ
  pub index : ℕ
  pub value : Float

abbrev pub changed : Case → List Float
changed q = set readings (place counts (field_of q.kind) q.index) q.value

abbrev pub named : Case → List Cell
named q = named_cells counts wiring readings q.kind q.index

abbrev case : ℕ → ℕ → ℕ → Case
case k i v = record { kind = k; index = i; value = of_bits binary64 v }

-- demand from 0, fixed, to 1, at the cap; fmax to 6; sw to 2; b to -3; angmin to -0.5 and angmax to 0.5, where the dual is zeroed; cq to 2, gmin to 0.5, gmax to 3
abbrev pub cases : List Case
cases =
    case 1 1 0x3ff0_0000_0000_0000
    ∷ case 2 0 0x4018_0000_0000_0000
    ∷ case 3 0 0x4000_0000_0000_0000
    ∷ case 4 0 0xc008_0000_0000_0000
    ∷ case 5 0 0xbfe0_0000_0000_0000
    ∷ case 6 0 0x3fe0_0000_0000_0000
    ∷ case 7 0 0x4000_0000_0000_0000
    ∷ case 8 0 0x3fe0_0000_0000_0000
    ∷ case 9 0 0x4008_0000_0000_0000
    ∷ []

-- ---- what moves

unfoldable pub same_words : List Float → List Float → Bool
same_words [] [] = true
same_words [] (y ∷ ys) = false
same_words (x ∷ xs) [] = false
same_words (x ∷ xs) (y ∷ ys) = eqb (to_bits binary64 x) (to_bits binary64 y) && same_words xs ys

unfoldable pub cells_move : List Triplet → List Triplet → List Cell → Bool
cells_move old new [] = true
cells_move old new (x ∷ xs) = not (same_words (values_at old x) (values_at new x)) && cells_move old new xs

unfoldable pub all_move : List Case → Bool
all_move [] = true
all_move (q ∷ qs) = cells_move (list_of readings) (list_of (changed q)) (named q) && all_move qs

pub kinds_occur : map (λ (q : Case). q.kind) cases ≡ 1 ∷ 2 ∷ 3 ∷ 4 ∷ 5 ∷ 6 ∷ 7 ∷ 8 ∷ 9 ∷ []
kinds_occur = refl

-- the network and its sheet are accepted
abbrev pub network : Network
network = record { wiring = wiring; readings = readings; indexes = []; coefficients = [] }

-- a change of a kind, at an index below its length, to a value within its limit
abbrev pub allowed : Case → Bool
allowed q = is_kind q.kind && (ltb q.index (size counts (field_of q.kind)) && within raw_limit q.value)

pub network_accepted : (network_number network ≡ 0) × (length sheet ≡ sheet_length counts (pieces counts wiring)) × (all_within sheet_limit sheet ≡ true)
unfolding network_number sizes_hold few lengths_hold sums_hold wiring_holds part_holds terms_hold flow_terms_hold generation_terms_hold readings_hold field_holds in_rank all_within every before segment_start term_start piece_rank wire part_start reading place field_start within in_range finite magnitude raw_limit sheet_limit base_low base_high whole of_int of_bits neg div lt le eq first_of
network_accepted = (refl, refl, refl)

pub every_named_cell_moves : all_move cases ≡ true
unfolding all_move cells_move same_words values_at named_cells kkt_matrix_list emitted slots columns each when before some branch_parts reference_slot block_start linear_start piece_rank solved entry_start reading place field_start wire part_start segment_start emit tolerance whole max_zero of_int of_bits to_bits add sub mul div neg lt le eq
every_named_cell_moves = refl

-- ---- the same in words: no values in a named cell are those of before

same_refl : (xs : List Float) → same_words xs xs ≡ true
unfolding same_words
same_refl [] = refl
same_refl (x ∷ xs) = rw (eq-eqb (to_bits binary64 x) (to_bits binary64 x) refl) (same_refl xs)

one_moved : (old new : List Triplet) (x y : Cell) → not (same_words (values_at old y) (values_at new y)) ≡ true → same_cell x y ≡ true → values_at old x ≡ values_at new x → ⊥
one_moved old new x y h a e =
    let p : x.0 ≡ y.0 = eqb-true x.0 y.0 (and_left (eqb x.0 y.0) (eqb x.1 y.1) a) in
    let q : x.1 ≡ y.1 = eqb-true x.1 y.1 (and_right (eqb x.0 y.0) (eqb x.1 y.1) a) in
    let z : x ≡ y = ap (λ (r : ℕ). (r, x.1)) p ∙ ap (λ (t : ℕ). (y.0, t)) q in
    let d : values_at old y ≡ values_at new y = subst (λ (u : Cell). values_at old u ≡ values_at new u) z e in
    let t : same_words (values_at old y) (values_at new y) ≡ true = subst (λ (l : List Float). same_words (values_at old y) l ≡ true) d (same_refl (values_at old y)) in
    subst T (sym (sym (ap not t) ∙ h)) tt

cells_moved : (old new : List Triplet) (xs : List Cell) → cells_move old new xs ≡ true → (x : Cell) → among x xs ≡ true → values_at old x ≡ values_at new x → ⊥
unfolding cells_move among
cells_moved old new [] h x a e = subst T (sym a) tt
cells_moved old new (y ∷ ys) h x a e =
    ⊎_elim (λ p. one_moved old new x y (and_left _ (cells_move old new ys) h) p e)
    (λ p. cells_moved old new ys (and_right (not (same_words (values_at old y) (values_at new y))) _ h) x p e)
    (either_true (same_cell x y) (among x ys) a)

abbrev pub case_at : List Case → ℕ → Case
case_at qs n = get_or qs n (case 0 0 0)

-- a change after which no named cell has its values of before
abbrev pub Moves : Case → Type 0
Moves q = (x : Cell) → among x (named q) ≡ true → values_at (list_of readings) x ≡ values_at (list_of (changed q)) x → ⊥

cases_move : (qs : List Case) → all_move qs ≡ true → (n : ℕ) → n < length qs → Moves (case_at qs n)
unfolding all_move
cases_move [] h n l = absurd (not-suc-le-zero l)
cases_move (q ∷ qs) h zero l =
    cells_moved (list_of readings) (list_of (changed q)) (named q) (and_left _ (all_move qs) h)
cases_move (q ∷ qs) h (suc n) l =
    cases_move qs (and_right (cells_move (list_of readings) (list_of (changed q)) (named q)) _ h) n (omega arith)

pub record Moving (k : ℕ) : Type 0 where
  pub change : Case
  pub of_kind : change.kind ≡ k
  pub may : allowed change ≡ true
  pub moves : Moves change

kind_of_lem : every (λ n. eqb (case_at cases n).kind (1 + n)) 9 ≡ true
unfolding every
kind_of_lem = refl

all_allowed : every (λ n. allowed (case_at cases n)) 9 ≡ true
unfolding every within finite magnitude raw_limit whole of_bits div lt le eq
all_allowed = refl

-- each kind has a change that moves every cell it names
pub moved : (k : ℕ) → T (is_kind k) → Moving k
moved k h =
    let l : 1 ≤ k = leb→le 1 k (and_l (leb 1 k) (leb k 9) h) in
    let m : k ≤ 9 = leb→le k 9 (and_r (leb 1 k) (leb k 9) h) in
    record {
      change = case_at cases (k - 1);
      of_kind = omega (arith, eqb-true (case_at cases (k - 1)).kind (1 + (k - 1)) (every_at (λ n. eqb (case_at cases n).kind (1 + n)) 9 kind_of_lem (k - 1) (omega arith)));
      may = every_at (λ n. allowed (case_at cases n)) 9 all_allowed (k - 1) (omega arith);
      moves = cases_move cases every_named_cell_moves (k - 1) (omega arith);
    }
