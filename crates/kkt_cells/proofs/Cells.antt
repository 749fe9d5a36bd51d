-- The laws of the susceptance sums kept by bus: a row's sums, how many there are, where they stand, and the entries that they give again.
-- Main results: `cells_are`, `counted`, `kept_all`, `to_fits`, `bus_low`, `replayed_less`, `replayed_as_is`. Assumes nothing.
use mathlib.Core.Path.{◌≡◌, refl, sym, ap, ◌∙◌}
use mathlib.Core.Bool.{Bool, true, false, cond, not, ◌&&◌, ◌||◌, or-true, beq}
use mathlib.Core.List.{List, ◌++◌, append-nil}
use mathlib.Core.Logic.{⊎_elim}
use Prim.Native.Nat.{ℕ, zero, suc, ◌+◌, ◌-◌, ◌*◌, ◌≤◌, ◌<◌}
use native.Mathlib.Nat.{eq-or-lt_of_le, not-suc-le-zero, le_of_suc-le-suc, zero-add, zero-mul}
use native.Mathlib.Omega.{arith}
use native.Mathlib.Decide.{dec_lt}
use lib.ListN.{length, get_or, set, length-append, length-map, get_or-append, get_or-map}
use lib.Seq.{get_or-append-add, get_or-set_same}
use lib.Dec.{eqb}
use lib.IntN.{pos}
use lib.Ieee.{Float, nan, inf, fin, up, down, neg, eq, of_bits}
use Rattle.std.specs.Prelude.{Some, None}
use Rattle.float64.specs.Values.{nought}
use Rattle.sequence.specs.Lists.{before, each, front}
use Rattle.sequence.specs.declared.Triplet.{Triplet}
use Rattle.sequence.specs.declared.Sink.{Sink}
use Rattle.sequence.specs.Sheets.{triplet, item, emit, rows_of, cols_of, values_of, Sheets, sheets}
use Rattle.sequence.specs.Sinks.{sheets_in, Gains}
use Rattle.sequence.proofs.Lists.{each_same, each_add, each_more, stored_at}
use Rattle.sequence.proofs.Sheets.{full}
use Rattle.sequence.proofs.Sinks.{begin, more}
use Rattle.network.specs.declared.Counts.{Counts}
use Rattle.network.specs.Layout.{reading, Few}
use Rattle.solution.specs.declared.Entry.{Entry}
use Rattle.susceptance.specs.Susceptance.{susceptance}
use Rattle.susceptance.specs.Incidence.{RowHeld}
use Rattle.kkt_index.specs.declared.Block.{Block}
use Rattle.kkt_index.specs.declared.Block.TheVariants.{Va, NuBal}
use Rattle.snapping.specs.Expr.{eval}
use Rattle.kkt.specs.Slots.{balance}
use Rattle.kkt.specs.Matrix.{kept, emitted}
use Rattle.kkt.specs.Walks.{taken, span_of, balance_slots}
use Rattle.kkt.proofs.Emitted.{emitted_each}
use Rattle.kkt_laws.proofs.Sums.{bit}
use Rattle.kkt_laws.proofs.Counted.{listed}
use Rattle.kkt_laws.proofs.Balances.{balance_le}
use Rattle.kkt_sums.proofs.Sums.{balance_is, symmetric}
use Rattle.kkt_cells.specs.Cells.{cells_of, cell_start, Kept}

-- ---- lists that turns append

module _ {A : Type 0} where
  -- as long as the turns' parts together
  lengths : (n : ℕ) (f : ℕ → List A) (g : ℕ → ℕ) → ((i : ℕ) → length (f i) ≡ g i) → length (each n f) ≡ before g n
  unfolding each before
  lengths zero f g h = refl
  lengths (suc n) f g h = omega (arith, length-append (each n f) (f n), lengths n f g h, h n)

  -- a turn's part lies within the whole
  within : (f : ℕ → List A) (j n : ℕ) → j < n → length (each j f) + length (f j) ≤ length (each n f)
  unfolding each
  within f j zero h = absurd (not-suc-le-zero h)
  within f j (suc n) h =
      ⊎_elim (λ e. rw e (omega (arith, length-append (each n f) (f n))))
      (λ l. omega (arith, length-append (each n f) (f n), within f j n l))
      (eq-or-lt_of_le (le_of_suc-le-suc h))

  -- and begins where those before it end
  part_at : (f : ℕ → List A) (d : A) (j t n : ℕ) → j < n → t < length (f j) → get_or (each n f) (length (each j f) + t) d ≡ get_or (f j) t d
  unfolding each
  part_at f d j t zero h l = absurd (not-suc-le-zero h)
  part_at f d j t (suc n) h l =
      ⊎_elim (λ e. rw e (get_or-append-add (each n f) (f n) t d))
      (λ k. get_or-append (each n f) (f n) d (length (each j f) + t) (omega (arith, within f j n k)) ∙ part_at f d j t n k l)
      (eq-or-lt_of_le (le_of_suc-le-suc h))

-- ---- a row's sums

module _ (c : Counts) (w : List ℕ) (r : List Float) where
  pub cells_are : (j : ℕ) {acc : List Float} {hit : List ℕ} → RowHeld c w r j acc hit → span_of false acc 0 j 0 c.buses ≡ cells_of c w r j
  unfolding span_of cells_of
  cells_are j h = each_same c.buses _ _ (λ i l. rw (zero-add, zero-add, h.sums i l))

  -- a sum is the entry of its column, at whatever sheet
  pub entry_is : (S : Entry → ℕ → Float) (j i : ℕ) → susceptance c w r j i ≡ eval (reading c r) S (balance c w i j)
  entry_is S j i = symmetric c w r j i ∙ sym (balance_is c r S w i j)

  -- ---- how many there are: one for each bus and two for each branch at most

  zeros : Entry → ℕ → Float
  zeros e i = nought

  none_dead : eq nought nought ≡ true
  unfolding eq of_bits
  none_dead = refl

  cell_length : (j i : ℕ) → length (emit (kept i j (susceptance c w r j i))) ≡ listed (eval (reading c r) zeros (balance c w i j))
  unfolding emit
  cell_length j i = rw (entry_is zeros j i) (go (not (eq (eval (reading c r) zeros (balance c w i j)) nought)) (triplet i j (eval (reading c r) zeros (balance c w i j))))
    where
      go : (b : Bool) (t : Triplet) → length (emit (cond b (Some t) None)) ≡ bit b
      go true t = refl
      go false t = refl

  start_all : cell_start c w r c.buses ≤ c.buses + 2 * c.branches
  unfolding cell_start cells_of
  start_all =
      omega (
        arith,
        lengths c.buses (cells_of c w r) (λ j. before (λ i. listed (eval (reading c r) zeros (balance c w i j))) c.buses)
            (λ j. lengths c.buses _ (λ i. listed (eval (reading c r) zeros (balance c w i j))) (λ i. cell_length j i)),
        balance_le c w (λ x. eval (reading c r) zeros x) none_dead,
      )

  start_more : (j : ℕ) → cell_start c w r (j + 1) ≡ cell_start c w r j + length (cells_of c w r j)
  unfolding cell_start
  start_more j = rw (each_more (cells_of c w r) j) (length-append (each j (cells_of c w r)) (cells_of c w r j))

  start_within : (j : ℕ) → j < c.buses → cell_start c w r j + length (cells_of c w r j) ≤ cell_start c w r c.buses
  unfolding cell_start
  start_within j h = within (cells_of c w r) j c.buses h

  -- those before a bus's are not more than all
  start_most : (j : ℕ) → j ≤ c.buses → cell_start c w r j ≤ cell_start c w r c.buses
  start_most j h = ⊎_elim (λ e. rw e (omega arith)) (λ l. omega (arith, start_within j l)) (eq-or-lt_of_le h)

-- ---- where they stand: each of three sheets begins with all of them

abbrev nothing_there : Triplet
nothing_there = triplet 0 0 nan

front_at : {A : Type 0} (new old : List A) (i : ℕ) (d : A) → i < length new → get_or (front new old) i d ≡ get_or new i d
unfolding front
front_at new old i d h = get_or-append new _ d i h

module _ (c : Counts) (w : List ℕ) (r : List Float) where
  module _ {s₀ s₁ : Sink} (few : c.buses + 2 * c.branches ≤ s₀.limit) (empty : s₀.count ≡ 0) where
    -- the first j buses' are put
    filled : (j : ℕ) → j ≤ c.buses → Gains (each j (cells_of c w r)) s₀ s₁
        → sheets_in s₁ ≡ sheets (front (rows_of (each j (cells_of c w r))) s₀.rows.now) (front (cols_of (each j (cells_of c w r))) s₀.cols.now) (front (values_of (each j (cells_of c w r))) s₀.values.now) (length (each j (cells_of c w r)))
    unfolding cell_start
    filled j h g =
        let l : length (each j (cells_of c w r)) ≤ s₀.limit = omega (arith, start_most c w r j h, start_all c w r) in
        full (rw empty at g.puts) l (omega (arith, l, s₀.room.in_rows)) (omega (arith, l, s₀.room.in_cols)) (omega (arith, l, s₀.room.in_values))

    pub counted : (j : ℕ) → j ≤ c.buses → Gains (each j (cells_of c w r)) s₀ s₁ → s₁.count ≡ cell_start c w r j
    unfolding cell_start
    counted j h g = ap (λ (S : Sheets). S.at) (filled j h g)

    module _ (g : Gains (each c.buses (cells_of c w r)) s₀ s₁) where
      bus_there : (j t : ℕ) → j < c.buses → t < length (cells_of c w r j) → get_or s₁.rows.now (cell_start c w r j + t) 0 ≡ get_or (rows_of (cells_of c w r j)) t 0
      unfolding cell_start
      bus_there j t h l =
          let ts : List Triplet = each c.buses (cells_of c w r) in
          let i : ℕ = length (each j (cells_of c w r)) + t in
          let b : i < length ts = omega (arith, within (cells_of c w r) j c.buses h) in
          ap (λ (S : Sheets). get_or S.rows i 0) (filled c.buses (omega arith) g)
          ∙ front_at (rows_of ts) s₀.rows.now i 0 (rw length-map b)
          ∙ get_or-map (λ (x : Triplet). x.row) ts i nothing_there
          ∙ ap (λ (x : Triplet). x.row) (part_at (cells_of c w r) nothing_there j t c.buses h l)
          ∙ sym (get_or-map (λ (x : Triplet). x.row) (cells_of c w r j) t nothing_there)

      sum_there : (j t : ℕ) → j < c.buses → t < length (cells_of c w r j) → get_or s₁.values.now (cell_start c w r j + t) nan ≡ get_or (values_of (cells_of c w r j)) t nan
      unfolding cell_start
      sum_there j t h l =
          let ts : List Triplet = each c.buses (cells_of c w r) in
          let i : ℕ = length (each j (cells_of c w r)) + t in
          let b : i < length ts = omega (arith, within (cells_of c w r) j c.buses h) in
          ap (λ (S : Sheets). get_or S.values i nan) (filled c.buses (omega arith) g)
          ∙ front_at (values_of ts) s₀.values.now i nan (rw length-map b)
          ∙ get_or-map (λ (x : Triplet). x.value) ts i nothing_there
          ∙ ap (λ (x : Triplet). x.value) (part_at (cells_of c w r) nothing_there j t c.buses h l)
          ∙ sym (get_or-map (λ (x : Triplet). x.value) (cells_of c w r j) t nothing_there)

      pub kept_all : {starts : List ℕ} → Few c → ((j : ℕ) → j ≤ c.buses → get_or starts j 0 ≡ cell_start c w r j) → c.buses < length starts → Kept c w r starts s₁.rows.now s₁.values.now
      kept_all m s f = record {
        starts_at = s;
        starts_fit = f;
        bus_at = bus_there;
        sum_at = sum_there;
        few = omega (arith, start_all c w r, m.buses, m.branches);
        buses_fit = omega (arith, start_all c w r, g.puts.rows_kept, s₀.room.in_rows);
        sums_fit = omega (arith, start_all c w r, g.puts.values_kept, s₀.room.in_values);
      }

-- ---- where each bus's start

module _ (c : Counts) (w : List ℕ) (r : List Float) where
  pub starts_begin : (s : List ℕ) → 0 < length s → (i : ℕ) → i ≤ 0 → get_or (set s 0 0) i 0 ≡ cell_start c w r i
  unfolding cell_start each
  starts_begin s h i l =
      let z : i ≡ 0 = omega arith in
      rw z (get_or-set_same s 0 0 0 h)

  pub starts_more : (s : List ℕ) (j k : ℕ) → j + 1 < length s → k ≡ cell_start c w r (j + 1) → ((i : ℕ) → i ≤ j → get_or s i 0 ≡ cell_start c w r i)
      → (i : ℕ) → i ≤ j + 1 → get_or (set s (j + 1) k) i 0 ≡ cell_start c w r i
  starts_more s j k h e f i l = stored_at (λ (x : ℕ). x ≡ cell_start c w r i) s (j + 1) k i 0 h (λ q. rw q e) (λ n. f i (omega (arith, n)))

-- ---- the entries that they give again

-- a sum taken negatively is zero where it is
alike : (s : Bool) (a b : ℕ) → b ≡ 0 → eqb a b && (beq (not s) false || eqb a 0) ≡ eqb a b && (beq s false || eqb a 0)
alike s a b e = rw e (go (eqb a 0) (beq (not s) false) (beq s false))
  where
    go : (z x y : Bool) → z && (x || z) ≡ z && (y || z)
    go true x y = or-true x ∙ sym (or-true y)
    go false x y = refl

neg_zero : (v : Float) → eq (neg v) nought ≡ eq v nought
unfolding eq neg of_bits
neg_zero nan = refl
neg_zero (inf s) = refl
neg_zero (fin s m e) = alike s (m * up e * down (pos 0)) (0 * up (pos 0) * down e) (rw zero-mul)

taken_zero : (less : Bool) (v : Float) → eq (taken less v) nought ≡ eq v nought
taken_zero true v = neg_zero v
taken_zero false v = refl

module _ (less : Bool) (from col : ℕ) where
  -- a triplet again, in its column
  abbrev again : Triplet → List Triplet
  again t = emit (kept (from + t.row) col (taken less t.value))

  -- each triplet of a list
  over : List Triplet → List Triplet
  over l = each (length l) (λ t. again (get_or l t nothing_there))

  over_append : (a b : List Triplet) → over (a ++ b) ≡ over a ++ over b
  unfolding over
  over_append a b =
      rw (
        length-append a b,
        each_add (λ t. again (get_or (a ++ b) t nothing_there)) (length a) (length b),
        each_same (length a) (λ t. again (get_or (a ++ b) t nothing_there)) (λ t. again (get_or a t nothing_there)) (λ t h. ap again (get_or-append a b nothing_there t h)),
        each_same (length b) (λ t. again (get_or (a ++ b) (length a + t) nothing_there)) (λ t. again (get_or b t nothing_there)) (λ t h. ap again (get_or-append-add a b t nothing_there)),
      )

  over_each : (n : ℕ) (f : ℕ → List Triplet) → over (each n f) ≡ each n (λ i. over (f i))
  unfolding each over
  over_each zero f = refl
  over_each (suc n) f = over_append (each n f) (f n) ∙ rw (over_each n f)

  over_one : (i j : ℕ) (v : Float) → over (emit (kept i j v)) ≡ emit (kept (from + i) col (taken less v))
  unfolding over emit each
  over_one i j v = go (eq v nought) refl
    where
      go : (b : Bool) → eq v nought ≡ b → over (emit (kept i j v)) ≡ emit (kept (from + i) col (taken less v))
      go true e = rw (taken_zero less v, e)
      go false e = rw e

module _ (start : Block → ℕ) (c : Counts) (w : List ℕ) (r : List Float) (S : Entry → ℕ → Float) (j : ℕ) where
  -- a bus's kept sums are the entries of its column
  cells_again : (less : Bool) (from col : ℕ) → over less from col (cells_of c w r j) ≡ each c.buses (λ i. emit (kept (from + i) col (taken less (susceptance c w r j i))))
  unfolding cells_of
  cells_again less from col = over_each less from col c.buses _ ∙ each_same c.buses _ _ (λ i l. over_one less from col i j (susceptance c w r j i))

  entries : (less : Bool) (from col : ℕ) → from ≡ cond less (start NuBal) (start Va) → col ≡ cond less (start Va) (start NuBal) + j
      → each c.buses (λ i. emit (kept (from + i) col (taken less (susceptance c w r j i)))) ≡ emitted start (reading c r) S (balance_slots less c w j)
  unfolding emitted
  entries true from col ef ec = each_same c.buses _ _ (λ i l. rw (append-nil, entry_is c w r S j i, ef, ec)) ∙ sym (emitted_each start (reading c r) S c.buses _)
  entries false from col ef ec = each_same c.buses _ _ (λ i l. rw (append-nil, entry_is c w r S j i, ef, ec)) ∙ sym (emitted_each start (reading c r) S c.buses _)

-- ---- the walk over a bus's kept sums

-- kept sum d from a place on, as an entry
abbrev pub replay : Bool → ℕ → ℕ → List ℕ → List Float → ℕ → ℕ → List Triplet
replay less from col B X first d = emit (kept (from + get_or B (first + d) 0) col (taken less (get_or X (first + d) nan)))

pub replay_begin : {S₀ : Sink} (less : Bool) (from col : ℕ) (B : List ℕ) (X : List Float) (first : ℕ) → Gains (each (first - first) (replay less from col B X first)) S₀ S₀
replay_begin less from col B X first =
    let z : first - first ≡ 0 = omega arith in
    rw z (begin (replay less from col B X first))

pub replay_more : {S₀ S₁ S₂ : Sink} (less : Bool) (from col : ℕ) (B : List ℕ) (X : List Float) (first t : ℕ) → first ≤ t
    → Gains (each (t - first) (replay less from col B X first)) S₀ S₁ → Gains (emit (kept (from + get_or B t 0) col (taken less (get_or X t nan)))) S₁ S₂
    → Gains (each (t + 1 - first) (replay less from col B X first)) S₀ S₂
replay_more less from col B X first t h p q =
    let z : t + 1 - first ≡ t - first + 1 = omega arith in
    let y : first + (t - first) ≡ t = omega arith in
    rw z (more (replay less from col B X first) (t - first) p (rw y q))

-- every bus that is kept is one of the network's
low_append : (m : ℕ) (a b : List Triplet) → ((t : ℕ) → (get_or a t nothing_there).row ≤ m) → ((t : ℕ) → (get_or b t nothing_there).row ≤ m) → (t : ℕ) → (get_or (a ++ b) t nothing_there).row ≤ m
low_append m a b ha hb t = go (dec_lt t (length a))
  where
    go : Dec (t < length a) → (get_or (a ++ b) t nothing_there).row ≤ m
    go (yes l) = rw (get_or-append a b nothing_there t l) (ha t)
    go (no l) =
        let z : t ≡ length a + (t - length a) = omega (arith, l) in
        rw (z, get_or-append-add a b (t - length a) nothing_there) (hb (t - length a))

low_item : (b : Bool) (i j m : ℕ) (v : Float) → i ≤ m → (t : ℕ) → (get_or (emit (item b i j v)) t nothing_there).row ≤ m
unfolding emit
low_item true i j m v h zero = h
low_item true i j m v h (suc t) = omega arith
low_item false i j m v h t = omega arith

low_each : (m n : ℕ) (f : ℕ → List Triplet) → ((i t : ℕ) → i < n → (get_or (f i) t nothing_there).row ≤ m) → (t : ℕ) → (get_or (each n f) t nothing_there).row ≤ m
unfolding each
low_each m zero f h t = omega arith
low_each m (suc n) f h t = low_append m (each n f) (f n) (low_each m n f (λ i u l. h i u (omega arith))) (λ u. h n u (omega arith)) t

module _ {c : Counts} {w : List ℕ} {r : List Float} {starts B : List ℕ} {X : List Float} (k : Kept c w r starts B X) (j : ℕ) (h : j < c.buses) {first to : ℕ} (ef : first ≡ get_or starts j 0) (et : to ≡ get_or starts (j + 1) 0) where
  cells_low : (t : ℕ) → (get_or (cells_of c w r j) t nothing_there).row ≤ c.buses
  unfolding cells_of
  cells_low = low_each c.buses c.buses _ (λ i t l. low_item (not (eq (susceptance c w r j i) nought)) i j c.buses (susceptance c w r j i) (omega arith) t)

  first_is : first ≡ cell_start c w r j
  first_is = ef ∙ k.starts_at j (omega arith)

  to_is : to ≡ first + length (cells_of c w r j)
  to_is = et ∙ k.starts_at (j + 1) (omega arith) ∙ start_more c w r j ∙ ap (λ (n : ℕ). n + length (cells_of c w r j)) (sym first_is)

  pub to_fits : (first ≤ to) × (to ≤ 1280) × (to ≤ length B) × (to ≤ length X)
  to_fits =
      let e = to_is in
      let f = first_is in
      let m = start_within c w r j h in
      (omega (arith, e), omega (arith, e, f, m, k.few), omega (arith, e, f, m, k.buses_fit), omega (arith, e, f, m, k.sums_fit))

  row_there : (t : ℕ) → t < length (cells_of c w r j) → get_or B (first + t) 0 ≡ (get_or (cells_of c w r j) t nothing_there).row
  row_there t l = rw first_is (k.bus_at j t h l ∙ get_or-map (λ (x : Triplet). x.row) (cells_of c w r j) t nothing_there)

  value_there : (t : ℕ) → t < length (cells_of c w r j) → get_or X (first + t) nan ≡ (get_or (cells_of c w r j) t nothing_there).value
  value_there t l = rw first_is (k.sum_at j t h l ∙ get_or-map (λ (x : Triplet). x.value) (cells_of c w r j) t nothing_there)

  pub bus_low : (t : ℕ) → first ≤ t → t < to → get_or B t 0 ≤ c.buses
  bus_low t p q =
      let z : t ≡ first + (t - first) = omega arith in
      let l : t - first < length (cells_of c w r j) = omega (arith, to_is) in
      rw (z, row_there (t - first) l) (cells_low (t - first))

  replays : (less : Bool) (from col : ℕ) → each (to - first) (replay less from col B X first) ≡ over less from col (cells_of c w r j)
  unfolding over
  replays less from col =
      let z : to - first ≡ length (cells_of c w r j) = omega (arith, to_is) in
      rw z (each_same (length (cells_of c w r j)) _ _ (λ t l. rw (row_there t l, value_there t l)))

  -- all of them are the entries of the bus's column
  replayed : {S₀ S₁ : Sink} (start : Block → ℕ) (S : Entry → ℕ → Float) (less : Bool) (from col t : ℕ)
      → from ≡ cond less (start NuBal) (start Va) → col ≡ cond less (start Va) (start NuBal) + j → t ≤ to → to ≤ t
      → Gains (each (t - first) (replay less from col B X first)) S₀ S₁ → Gains (emitted start (reading c r) S (balance_slots less c w j)) S₀ S₁
  replayed start S less from col t efrom ecol p q s =
      let z : t ≡ to = omega arith in
      rw (replays less from col ∙ cells_again start c w r S j less from col ∙ entries start c w r S j less from col efrom ecol) at (rw z at s)

  -- negatively or as they are, from blocks that start at a and b
  module _ {S₀ S₁ : Sink} (start : Block → ℕ) (S : Entry → ℕ → Float) (less : Bool) (from col t : ℕ) {a b : ℕ} (ea : a ≡ start Va) (eb : b ≡ start NuBal) (p : t ≤ to) (q : to ≤ t)
      (s : Gains (each (t - first) (replay less from col B X first)) S₀ S₁) where
    pub replayed_less : less ≡ true → from ≡ b → col ≡ a + j → Gains (emitted start (reading c r) S (balance_slots less c w j)) S₀ S₁
    replayed_less e f g = replayed start S less from col t (rw e (f ∙ eb)) (rw (e, ← ea) g) p q s

    pub replayed_as_is : less ≡ false → from ≡ a → col ≡ b + j → Gains (emitted start (reading c r) S (balance_slots less c w j)) S₀ S₁
    replayed_as_is e f g = replayed start S less from col t (rw e (f ∙ ea)) (rw (e, ← eb) g) p q s
