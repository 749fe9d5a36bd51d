-- The laws of `Puts`, which every loop that puts triplets cites, and what a counting and a writing pass leave.
-- Main results: `then`, `more`, `once`, `counted`, `lays_once`, `lays_short`, `lays_twice`. Assumes nothing.
use mathlib.Core.Path.{◌≡◌, refl, sym, ap, ◌∙◌}
use Prim.Native.Nat.{ℕ, ◌+◌, ◌≤◌, ◌<◌, zero-le}
use native.Mathlib.Numerals.{add-one}
use native.Mathlib.Nat.{le_antisymm, le_of_eq, add-suc, suc-add, zero-add}
use native.Mathlib.Omega.{arith}
use mathlib.Core.List.{List, [], ◌∷◌, ◌++◌}
use mathlib.Core.Bool.{Bool, true, false}
use lib.ListN.{length, set, length-map}
use lib.Dec.{ltb}
use lib.Ieee.{Float}
use lib.Seq.{sets, sets-eq}
use borrow.Author.Tests.{lt-ltb, le-ltb, ne_eqb}
use Rattle.std.specs.Prelude.{Option}
use Rattle.sequence.specs.Lists.{each, front, when}
use Rattle.sequence.specs.declared.Triplet.{Triplet}
use Rattle.sequence.specs.Sheets.{triplet, item, emit, rows_of, cols_of, values_of, Sheets, sheets, put1, puts, Puts, laid, lays, lays_if, room}
use Rattle.sequence.proofs.Lists.{each_more}

puts_append : (l : ℕ) (S : Sheets) (a b : List Triplet) → puts l S (a ++ b) ≡ puts l (puts l S a) b
unfolding puts
puts_append l S [] b = refl
puts_append l S (t ∷ a) b = puts_append l (put1 l S t) a b

-- nothing put in
pub none : {l : ℕ} {S : Sheets} → Puts l [] S S
unfolding puts
none = record { is = refl; rows_kept = refl; cols_kept = refl; values_kept = refl }

-- one list put in, then another
pub then : {l : ℕ} {a b : List Triplet} {S₀ S₁ S₂ : Sheets} → Puts l a S₀ S₁ → Puts l b S₁ S₂ → Puts l (a ++ b) S₀ S₂
then {l} {a} {b} {S₀} p q = record {
  is = q.is ∙ ap (λ (S : Sheets). puts l S b) p.is ∙ sym (puts_append l S₀ a b);
  rows_kept = q.rows_kept ∙ p.rows_kept;
  cols_kept = q.cols_kept ∙ p.cols_kept;
  values_kept = q.values_kept ∙ p.values_kept;
}

-- a loop over turns begins, takes one more, and is done
pub begin : {l : ℕ} {S : Sheets} (f : ℕ → List Triplet) → Puts l (each 0 f) S S
unfolding each
begin f = none

pub more : {l : ℕ} {S₀ S₁ S₂ : Sheets} (f : ℕ → List Triplet) (e : ℕ) → Puts l (each e f) S₀ S₁ → Puts l (f e) S₁ S₂ → Puts l (each (e + 1) f) S₀ S₂
more f e p q = rw (each_more f e) (then p q)

pub done : {l : ℕ} {S₀ S₁ : Sheets} (f : ℕ → List Triplet) {e m : ℕ} → e ≤ m → m ≤ e → Puts l (each e f) S₀ S₁ → Puts l (each m f) S₀ S₁
done f p q h = rw (le_antisymm p q) at h

-- the list of an item: its triplet where it is meant
pub emit_item : (b : Bool) (r c : ℕ) (v : Float) → emit (item b r c v) ≡ when b (triplet r c v ∷ [])
unfolding emit when
emit_item true r c v = refl
emit_item false r c v = refl

-- an item that was put is the item that the specification names
pub put_of : {l : ℕ} {S₀ S₁ : Sheets} {t u : Option Triplet} → t ≡ u → Puts l (emit t) S₀ S₁ → Puts l (emit u) S₀ S₁
put_of e p = rw e at p

-- ---- a counting pass, below no place: nothing is stored

dry' : (S : Sheets) (ts : List Triplet) → puts 0 S ts ≡ sheets S.rows S.cols S.values (S.at + length ts)
unfolding puts put1
dry' S [] = ap (sheets S.rows S.cols S.values) (omega arith)
dry' S (t ∷ ts) =
    let h : ltb S.at 0 ≡ false = le-ltb S.at 0 zero-le in
    rw (h, dry' (sheets S.rows S.cols S.values (S.at + 1)) ts) (ap (sheets S.rows S.cols S.values) (omega arith))

pub dry : {ts : List Triplet} {S₀ S₁ : Sheets} → Puts 0 ts S₀ S₁ → S₁ ≡ sheets S₀.rows S₀.cols S₀.values (S₀.at + length ts)
dry {ts} {S₀} p = p.is ∙ dry' S₀ ts

-- ---- a pass below a limit that the list keeps under: each triplet is stored at its place

full' : (l : ℕ) (S : Sheets) (ts : List Triplet) → S.at + length ts ≤ l
    → puts l S ts ≡ sheets (sets S.rows S.at (rows_of ts)) (sets S.cols S.at (cols_of ts)) (sets S.values S.at (values_of ts)) (S.at + length ts)
unfolding puts put1
full' l S [] h = ap (sheets S.rows S.cols S.values) (omega arith)
full' l S (t ∷ ts) h =
    let b : ltb S.at l ≡ true = lt-ltb S.at l (omega arith) in
    rw b (full' l (sheets (set S.rows S.at t.row) (set S.cols S.at t.col) (set S.values S.at t.value) (S.at + 1)) ts (omega arith) ∙ simp (add-one, add-suc, suc-add))

fronted : {A : Type 0} (vs old : List A) → length vs ≤ length old → sets old 0 vs ≡ front vs old
unfolding front
fronted vs old h = sets-eq vs old 0 (omega arith) ∙ rw zero-add

pub full : {l : ℕ} {ts : List Triplet} {R C : List ℕ} {X : List Float} {S₁ : Sheets}
    → Puts l ts (sheets R C X 0) S₁ → length ts ≤ l → length ts ≤ length R → length ts ≤ length C → length ts ≤ length X
    → S₁ ≡ sheets (front (rows_of ts) R) (front (cols_of ts) C) (front (values_of ts) X) (length ts)
full {l} {ts} {R} {C} {X} p h hr hc hx =
    p.is ∙ full' l (sheets R C X 0) ts (omega arith)
    ∙ rw (zero-add, fronted (rows_of ts) R (rw length-map hr), fronted (cols_of ts) C (rw length-map hc), fronted (values_of ts) X (rw length-map hx))

-- ---- what the passes leave of a call's three sheets

pub lays_refused : {number k : ℕ} (ts : List Triplet) (R C : List ℕ) (X : List Float) → number ≡ k → (k ≡ 0 → ⊥) → laid k 0 R C X ≡ lays number ts R C X
unfolding lays
lays_refused {k = k} ts R C X e h = rw (e, ne_eqb k 0 h)

-- the sheets hold the list, and one pass stores it
pub once : {number l : ℕ} {ts : List Triplet} {R C R'' C'' : List ℕ} {X X'' : List Float} {d : ℕ}
    → number ≡ 0 → Puts l ts (sheets R C X 0) (sheets R'' C'' X'' d) → length ts ≤ l → l ≤ room R C X
    → laid 0 d R'' C'' X'' ≡ lays number ts R C X
unfolding lays
once {l = l} {ts} {R} {C} {R''} {C''} {X} e q h k =
    rw e (ap (λ (S : Sheets). laid 0 S.at S.rows S.cols S.values) (full q h (omega arith) (omega arith) (omega arith)))

-- a counting pass counts the list, and leaves the sheets as they were
pub counted : {ts : List Triplet} {R C R' C' : List ℕ} {X X' : List Float} {k : ℕ}
    → Puts 0 ts (sheets R C X 0) (sheets R' C' X' k) → (k ≡ length ts) × (sheets R' C' X' 0 ≡ sheets R C X 0)
counted {ts} p = (ap (λ (S : Sheets). S.at) (dry p) ∙ zero-add (length ts), ap (λ (S : Sheets). sheets S.rows S.cols S.values 0) (dry p))

-- a refusal after a counting pass
pub counted_refused : {number n : ℕ} {ts : List Triplet} {R C R' C' : List ℕ} {X X' : List Float} {k : ℕ}
    → number ≡ n → (n ≡ 0 → ⊥) → Puts 0 ts (sheets R C X 0) (sheets R' C' X' k) → laid n 0 R' C' X' ≡ lays number ts R C X
counted_refused {n = n} {ts} {R} {C} {X = X} e h p = ap (λ (S : Sheets). laid n 0 S.rows S.cols S.values) (counted p).1 ∙ lays_refused ts R C X e h

-- a counting pass, and then one that stores the list
pub twice : {number : ℕ} {ts : List Triplet} {R C R' C' R'' C'' : List ℕ} {X X' X'' : List Float} {k d : ℕ}
    → number ≡ 0 → Puts 0 ts (sheets R C X 0) (sheets R' C' X' k) → Puts k ts (sheets R' C' X' 0) (sheets R'' C'' X'' d)
    → k ≤ room R C X → laid 0 d R'' C'' X'' ≡ lays number ts R C X
twice e p q h = once e (rw (counted p).1 at q) (le_of_eq (sym (counted p).0)) h

-- ---- one writing pass, below a limit that the list keeps under

pub lays_once : {ts : List Triplet} {R C R'' C'' : List ℕ} {X X'' : List Float} {l k d : ℕ}
    → Puts l ts (sheets R C X 0) (sheets R'' C'' X'' d) → k ≡ room R C X → l ≤ k → length ts ≤ l → laid 0 d R'' C'' X'' ≡ lays_if ts R C X
lays_once {ts} {R} {C} {X = X} p e h g =
    let s : length ts ≤ room R C X = omega arith in
    once (rw (le-ltb (room R C X) (length ts) s)) p g (rw e at h)

-- ---- a counting pass, then a writing pass where the sheets hold what was counted

pub lays_short : {ts : List Triplet} {R C R' C' : List ℕ} {X X' : List Float} {k l : ℕ}
    → Puts 0 ts (sheets R C X 0) (sheets R' C' X' k) → l ≡ room R C X → l < k → laid 7 0 R' C' X' ≡ lays_if ts R C X
lays_short {ts} {R} {C} {X = X} p e h =
    let s : room R C X < length ts = rw (e, (counted p).0) at h in
    counted_refused (rw (lt-ltb (room R C X) (length ts) s)) (λ z. absurd (omega arith)) p

pub lays_twice : {ts : List Triplet} {R C R' C' R'' C'' : List ℕ} {X X' X'' : List Float} {k l d : ℕ}
    → Puts 0 ts (sheets R C X 0) (sheets R' C' X' k) → Puts k ts (sheets R' C' X' 0) (sheets R'' C'' X'' d)
    → l ≡ room R C X → k ≤ l → laid 0 d R'' C'' X'' ≡ lays_if ts R C X
lays_twice {ts} {R} {C} {X = X} p q e h =
    let s : length ts ≤ room R C X = rw (e, (counted p).0) at h in
    twice (rw (le-ltb (room R C X) (length ts) s)) p q (rw e at h)
