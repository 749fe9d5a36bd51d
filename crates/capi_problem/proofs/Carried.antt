-- `assemble_opf` on bytes: it goes by way of cells, on whose words its answer does not depend, or is refused at once.
-- Main results: `backs`; `assembly_accepted`, `assembly_fits`, `assembly_refused`, `assembly_done`; `assembly_one`. Assumes nothing.
use mathlib.Core.Path.{◌≡◌, refl, sym, ap, ◌∙◌}
use mathlib.Core.Bool.{Bool, true, false, cond, ◌&&◌, ◌||◌}
use mathlib.Core.List.{List}
use Prim.Native.Nat.{ℕ, ◌/◌, ◌<◌, ◌≤◌, min}
use native.Mathlib.Omega.{arith}
use lib.Dec.{eqb, ltb}
use lib.ListN.{length, take, length-map}
use lib.Ieee.{Float}
use borrow.Author.Tests.{ne_eqb, ltb-false}
use Rattle.sequence.specs.Lists.{front}
use Rattle.sequence.specs.Answers.{Test, first_of, marked, short}
use Rattle.sequence.specs.declared.Triplet.{Triplet}
use Rattle.sequence.specs.Sheets.{rows_of, cols_of, values_of, room, short_list}
use Rattle.sequence.proofs.Lists.{made_length, front_length, or_none}
use Rattle.sequence.proofs.Fronts.{take_front}
use Rattle.words.specs.Words.{word_at, double_at, words_of, doubles_of, word_bytes, double_bytes}
use Rattle.network.specs.Layout.{counts_of}
use Rattle.network.specs.Numbers.{Network, network_tests, sizes_hold, Accepted}
use Rattle.decoding.specs.Decoding.{ListCells}
use Rattle.decoding.proofs.Answered.{short_same, last_same, passed_network, size_fails}
use Rattle.decoding.proofs.Listed.{rooms}
use Rattle.opf_problem.specs.Calls.{Parts, parts_of, Program, short_program, fronts, Assembled, assembled, assembles, assemble_number, assemble_call}
use Rattle.capi_problem.specs.declared.Sides.{Sides}
use Rattle.capi_problem.specs.Assembled.{packed_both, Bytes, bytes, words_in, sides_of, back, Out, out, assembled_out}
use Rattle.capi_problem.specs.Cells.{ProgramCells, ListFits, SidesFit}
use Rattle.capi_problem.proofs.Assembling.{number_of, passed, roomy, few}

-- ---- a program's bytes, sheet by sheet

pub backs : (a p : ℕ) (k : Sides) (s : Program) (B : Bytes) {w : ℕ} {pr pc pv ar ac av q b c : List ℕ} → w ≡ packed_both 0 a p
    → (pr ≡ front (word_bytes (take p s.p_rows)) B.p_rows) × (pc ≡ front (word_bytes (take p s.p_cols)) B.p_cols) × (pv ≡ front (double_bytes (take p s.p_values)) B.p_values)
    → (ar ≡ front (word_bytes (take a s.a_rows)) B.a_rows) × (ac ≡ front (word_bytes (take a s.a_cols)) B.a_cols) × (av ≡ front (double_bytes (take a s.a_values)) B.a_values)
    → (q ≡ front (double_bytes (take k.q s.q)) B.q) × (b ≡ front (double_bytes (take k.b s.b)) B.b) × (c ≡ front (word_bytes (take k.cones s.cones)) B.cones)
    → out w (bytes pr pc pv ar ac av q b c) ≡ out (packed_both 0 a p) (back a p k s B)
backs a p k s B e f g h = rw (e, f.0, f.1, f.2, g.0, g.1, g.2, h.0, h.1, h.2)

-- ---- the answer does not depend on the sheets that the parts are cut from

-- the answer, and the parts' bytes, by the number
abbrev told : ℕ → Parts → Bytes → Out
told m x B =
    cond (eqb m 0)
    (out (packed_both 0 (length x.a) (length x.p)) (bytes (front (word_bytes (rows_of x.p)) B.p_rows) (front (word_bytes (cols_of x.p)) B.p_cols) (front (double_bytes (values_of x.p)) B.p_values) (front (word_bytes (rows_of x.a)) B.a_rows) (front (word_bytes (cols_of x.a)) B.a_cols) (front (double_bytes (values_of x.a)) B.a_values) (front (double_bytes x.q) B.q) (front (double_bytes x.b) B.b) (front (word_bytes x.cones) B.cones)))
    (out (packed_both m 0 0) B)

module _ (m : ℕ) (x : Parts) (s : Program) where
  told_by : (B : Bytes) (b : Bool) → eqb m 0 ≡ b → assembled_out true x (assembles m x s) B ≡ told m x B
  unfolding assembled_out assembles
  told_by B true e =
      rw (e, take_front (rows_of x.p) s.p_rows (length x.p) (length-map x.p _), take_front (cols_of x.p) s.p_cols (length x.p) (length-map x.p _), take_front (values_of x.p) s.p_values (length x.p) (length-map x.p _), take_front (rows_of x.a) s.a_rows (length x.a) (length-map x.a _), take_front (cols_of x.a) s.a_cols (length x.a) (length-map x.a _), take_front (values_of x.a) s.a_values (length x.a) (length-map x.a _), take_front x.q s.q (length x.q) refl, take_front x.b s.b (length x.b) refl, take_front x.cones s.cones (length x.cones) refl)
  told_by B false e = rw (e, e)

  told_is : (B : Bytes) → assembled_out true x (assembles m x s) B ≡ told m x B
  told_is B = told_by B (eqb m 0) refl

  -- accepted: every part is in front
  all_counted : m ≡ 0 → assembles m x s ≡ assembled 0 (length x.a) (length x.p) (fronts x s)
  unfolding assembles
  all_counted z = rw z

-- ---- parts that have room lie in their cells, and their bytes in the slices

list_fits : (most : ℕ) (xs : List Triplet) (r c : List ℕ) (v : List Float) (R C X : List ℕ) → most < 0x100_0000 → ListCells most (length R) (length C) (length X) (length r) (length c) (length v) → short_list xs r c v ≡ false
    → ListFits (length xs) (front (rows_of xs) r) (front (cols_of xs) c) (front (values_of xs) v) R C X
list_fits most xs r c v R C X m h e =
    let l : length xs ≤ room r c v = ltb-false _ _ e in
    let lr : length (rows_of xs) ≡ length xs = length-map xs _ in
    let lc : length (cols_of xs) ≡ length xs = length-map xs _ in
    let lv : length (values_of xs) ≡ length xs = length-map xs _ in
    record {
      rows = omega (arith, front_length (rows_of xs) r (omega arith));
      cols = omega (arith, front_length (cols_of xs) c (omega arith));
      values = omega (arith, front_length (values_of xs) v (omega arith));
      row_bytes = omega (arith, h.in_rows);
      col_bytes = omega (arith, h.in_rows);
      value_bytes = omega (arith, h.in_rows);
      small = omega (arith, h.in_rows);
    }

sides_fit : (x : Parts) (s : Program) (B : Bytes) → ProgramCells B s → short x.q s.q ≡ false → short x.b s.b ≡ false → short x.cones s.cones ≡ false
    → SidesFit (sides_of x) (front x.q s.q) (front x.b s.b) (front x.cones s.cones) B.q B.b B.cones
sides_fit x s B h e f g =
    let q : length x.q ≤ length s.q = ltb-false _ _ e in
    let b : length x.b ≤ length s.b = ltb-false _ _ f in
    let c : length x.cones ≤ length s.cones = ltb-false _ _ g in
    record {
      in_q = omega (arith, front_length x.q s.q q);
      in_b = omega (arith, front_length x.b s.b b);
      in_cones = omega (arith, front_length x.cones s.cones c);
      q_bytes = omega (arith, h.of_q);
      b_bytes = omega (arith, h.of_b);
      cone_bytes = omega (arith, h.of_cones);
    }

parts_fit : (x : Parts) (s : Program) (B : Bytes) → ProgramCells B s → short_program x s ≡ false
    → ListFits (length x.p) (fronts x s).p_rows (fronts x s).p_cols (fronts x s).p_values B.p_rows B.p_cols B.p_values
    × (ListFits (length x.a) (fronts x s).a_rows (fronts x s).a_cols (fronts x s).a_values B.a_rows B.a_cols B.a_values
    × SidesFit (sides_of x) (fronts x s).q (fronts x s).b (fronts x s).cones B.q B.b B.cones)
parts_fit x s B h e =
    let p = or_none (short_list x.p s.p_rows s.p_cols s.p_values) _ e in
    let a = or_none (short_list x.a s.a_rows s.a_cols s.a_values) _ p.1 in
    let q = or_none (short x.q s.q) _ a.1 in
    let b = or_none (short x.b s.b) _ q.1 in (
      list_fits 256 x.p s.p_rows s.p_cols s.p_values B.p_rows B.p_cols B.p_values (omega arith) h.of_p p.0,
      (list_fits 12304 x.a s.a_rows s.a_cols s.a_values B.a_rows B.a_cols B.a_values (omega arith) h.of_a a.0, sides_fit x s B h q.0 b.0 b.1),
    )

-- ---- cells and the slices' own words have the same room for a part that is short

held_same : {A : Type 0} (most room n m : ℕ) (own : List A) → length own ≡ room → n ≤ most → m ≡ min most room → ltb m n ≡ ltb (length own) n
held_same most room n m own e h q = short_same m (length own) n (λ l. omega arith) (λ l. omega arith)

any_same : {a b c d e a' b' c' d' e' : Bool} → a ≡ a' → b ≡ b' → c ≡ c' → d ≡ d' → e ≡ e' → a || (b || (c || (d || e))) ≡ a' || (b' || (c' || (d' || e')))
any_same p q r s t = rw (p, q, r, s, t)

module _ (N : Network) (B : Bytes) (s : Program) (h : ProgramCells B s) where
  abbrev x : Parts
  x = parts_of N

  abbrev tests : List Test
  tests = network_tests N true true

  short_program_lem : first_of tests ≡ 0 → short_program x s ≡ short_program x (words_in B)
  unfolding marked
  short_program_lem z =
      let f = few N z in
      any_same
      (rooms tests tt x.p 256 (λ y. f.p) B.p_rows B.p_cols B.p_values s.p_rows s.p_cols s.p_values h.of_p z)
      (rooms tests tt x.a 12304 (λ y. f.a) B.a_rows B.a_cols B.a_values s.a_rows s.a_cols s.a_values h.of_a z)
      (held_same 1536 (length B.q / 8) (length x.q) (length s.q) (doubles_of B.q) (made_length (double_at B.q) (length B.q / 8)) f.q h.of_q)
      (held_same 5072 (length B.b / 8) (length x.b) (length s.b) (doubles_of B.b) (made_length (double_at B.b) (length B.b / 8)) f.b h.of_b)
      (held_same 4 (length B.cones / 4) (length x.cones) (length s.cones) (words_of B.cones) (made_length (word_at B.cones) (length B.cones / 4)) f.cones h.of_cones)

  number_same : assemble_number N x s ≡ assemble_number N x (words_in B)
  unfolding assemble_number marked
  number_same = last_same tests tt (short_program x s) (short_program x (words_in B)) short_program_lem

  -- ---- the returns of the call by way of cells

  module _ {n k l : ℕ} {t : Program} (e : assembled n k l t ≡ assemble_call N s) where
    number_is : n ≡ assemble_number N x s
    number_is = ap (λ (a : Assembled). a.number) e ∙ number_of (assemble_number N x s) x s

    over : assembled_out true x (assembled n k l t) B ≡ assembled_out true x (assemble_call N (words_in B)) B
    over =
        ap (λ (a : Assembled). assembled_out true x a B) e
        ∙ told_is (assemble_number N x s) x s B
        ∙ ap (λ (j : ℕ). told j x B) number_same
        ∙ sym (told_is (assemble_number N x (words_in B)) x (words_in B) B)

    -- refused: no byte moves
    refused_bytes : (n ≡ 0 → ⊥) → out (packed_both n k l) B ≡ assembled_out true x (assembled n k l t) B
    unfolding assembled_out
    refused_bytes z = rw (ne_eqb n 0 z)

    pub assembly_refused : (n ≡ 0 → ⊥) → {w : ℕ} → w ≡ packed_both n k l → out w B ≡ assembled_out true x (assemble_call N (words_in B)) B
    assembly_refused z q = ap (λ (w : ℕ). out w B) q ∙ refused_bytes z ∙ over

    module _ (z : n ≡ 0) where
      zero_is : assemble_number N x s ≡ 0
      zero_is = sym number_is ∙ z

      pub assembly_accepted : Accepted N (counts_of N.wiring)
      assembly_accepted = passed_network N true true (passed N s zero_is)

      written : assembled n k l t ≡ assembled 0 (length x.a) (length x.p) (fronts x s)
      written = e ∙ all_counted (assemble_number N x s) x s zero_is

      pub assembly_fits : {K : Sides} → K ≡ sides_of x
          → ListFits l t.p_rows t.p_cols t.p_values B.p_rows B.p_cols B.p_values
          × (ListFits k t.a_rows t.a_cols t.a_values B.a_rows B.a_cols B.a_values
          × SidesFit K t.q t.b t.cones B.q B.b B.cones)
      assembly_fits q =
          rw (q, ap (λ (b : Assembled). b.a_count) written, ap (λ (b : Assembled). b.p_count) written, ap (λ (b : Assembled). b.left) written) (parts_fit x s B h (roomy N s zero_is))

      -- done: each part's bytes in front
      pub assembly_done : {K : Sides} → K ≡ sides_of x → {w : ℕ} {C : Bytes} → out w C ≡ out (packed_both 0 k l) (back k l K t B) → out w C ≡ assembled_out true x (assemble_call N (words_in B)) B
      unfolding assembled_out
      assembly_done q r =
          r
          ∙ ap (λ (K : Sides). out (packed_both 0 k l) (back k l K t B)) q
          ∙ ap (λ (j : ℕ). assembled_out true x (assembled j k l t) B) (sym z)
          ∙ over

-- ---- sizes that do not hold are refused at once

one_by : (ok : Bool) (m : ℕ) (x : Parts) (s : Program) (B : Bytes) → (ok ≡ true → m ≡ 1) → out 1 B ≡ assembled_out ok x (assembles m x s) B
unfolding assembled_out assembles
one_by false m x s B h = refl
one_by true m x s B h = rw (h refl)

pub assembly_one : (N : Network) (s : Program) (ok : Bool) (B : Bytes) → ok && (sizes_hold N && true) ≡ false → out 1 B ≡ assembled_out ok (parts_of N) (assemble_call N s) B
unfolding assemble_number
assembly_one N s ok B e = one_by ok _ (parts_of N) s B (size_fails N true true _ ok e)
