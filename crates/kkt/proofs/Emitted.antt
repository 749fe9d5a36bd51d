-- The laws of `emitted`: it goes over appended lists and loops, and a short column is its three triplets or none.
-- Main results: `all_more`, `emitted_each`, `puts_then`, `puts_more`, `puts_three`, `puts_all`, `walk_begin`, `walk_more`. Assumes nothing.
use mathlib.Core.Path.{◌≡◌, refl, sym, ◌∙◌}
use mathlib.Core.Bool.{Bool, true, false}
use mathlib.Core.List.{List, [], ◌∷◌, ◌++◌, map, append-nil, append_assoc}
use Prim.Native.Nat.{ℕ, zero, suc, ◌+◌, ◌≤◌, ◌<◌}
use native.Mathlib.Numerals.{add-one}
use native.Mathlib.Omega.{arith}
use lib.ListN.{length, get_or, take}
use lib.Seq.{take-suc}
use lib.Dec.{eqb}
use lib.Ieee.{Float}
use Rattle.std.specs.Prelude.{Option}
use Rattle.sequence.specs.Lists.{each, when}
use Rattle.sequence.specs.Links.{First}
use Rattle.sequence.specs.declared.Triplet.{Triplet}
use Rattle.sequence.specs.declared.Sink.{Sink}
use Rattle.sequence.specs.Sheets.{emit, Sheets, Puts}
use Rattle.sequence.specs.Sinks.{Gains}
use Rattle.sequence.proofs.Lists.{each_same}
use Rattle.sequence.proofs.Sheets as sheets
use Rattle.sequence.proofs.Sinks.{none, begin, more, done, then}
use Rattle.sequence.proofs.Links.{scan, walk_begin, walk_more}
use Rattle.network.specs.declared.Field.{Field}
use Rattle.solution.specs.declared.Entry.{Entry}
use Rattle.kkt_index.specs.declared.Block.{Block}
use Rattle.kkt.specs.Slots.{Slot}
use Rattle.kkt.specs.Matrix.{item_of, emitted}
use Rattle.kkt.specs.Walks.{triple, emits}

-- ---- a column of triplets or none

emits_append : (a b : List (Option Triplet)) → emits (a ++ b) ≡ emits a ++ emits b
unfolding emits
emits_append [] b = refl
emits_append (t ∷ a) b = rw (emits_append a b, append_assoc)

-- none of it put in yet, and one more
pub all_begin : {S₀ : Sink} → Gains (emits []) S₀ S₀
unfolding emits
all_begin = none

pub all_more : {S₀ S₁ S₂ : Sink} (ts : List (Option Triplet)) (i : ℕ) (d : Option Triplet) → i < length ts
    → Gains (emits (take i ts)) S₀ S₁ → Gains (emit (get_or ts i d)) S₁ S₂ → Gains (emits (take (i + 1) ts)) S₀ S₂
unfolding emits
all_more ts i d h p q = rw (add-one, take-suc ts i d h, emits_append, append-nil) (then p q)

-- ---- slots that are emitted

module _ (start : Block → ℕ) (R : Field → ℕ → Float) (S : Entry → ℕ → Float) where
  abbrev out : List Slot → List Triplet
  out ss = emitted start R S ss

  pub emitted_append : (a b : List Slot) → out (a ++ b) ≡ out a ++ out b
  unfolding emitted
  emitted_append [] b = refl
  emitted_append (s ∷ a) b = rw (emitted_append a b) (sym (append_assoc (emit (item_of start R S s)) (out a) (out b)))

  pub emitted_each : (n : ℕ) (f : ℕ → List Slot) → out (each n f) ≡ each n (λ i. out (f i))
  unfolding emitted each
  emitted_each zero f = refl
  emitted_each (suc n) f = emitted_append (each n f) (f n) ∙ rw (emitted_each n f)

  pub emitted_when : (b : Bool) (l : List Slot) → out (when b l) ≡ when b (out l)
  unfolding emitted when
  emitted_when true l = refl
  emitted_when false l = refl

  -- what slots emit, each by its value
  pub each_is : (l : List Slot) → emits (map (item_of start R S) l) ≡ out l
  unfolding emitted emits
  each_is [] = refl
  each_is (s ∷ l) = rw (each_is l)

  -- a list of at most three slots is what its column emits
  pub three_is : (l : List Slot) → length l ≤ 3 → emits (triple (item_of start R S) l) ≡ out l
  unfolding emitted emits emit
  three_is [] h = refl
  three_is (a ∷ []) h = refl
  three_is (a ∷ b ∷ []) h = refl
  three_is (a ∷ b ∷ c ∷ []) h = refl
  three_is (a ∷ b ∷ c ∷ d ∷ ss) h = absurd (omega arith)

  -- one list put in, then another
  pub puts_then : (a b : List Slot) {S₀ S₁ S₂ : Sink} → Gains (out a) S₀ S₁ → Gains (out b) S₁ S₂ → Gains (out (a ++ b)) S₀ S₂
  puts_then a b p q = rw (emitted_append a b) (then p q)

  -- nothing yet, one turn more, and all turns of a loop
  pub puts_begin : {S₀ : Sink} (f : ℕ → List Slot) → Gains (out (each 0 f)) S₀ S₀
  puts_begin f = rw (emitted_each 0 f) (begin (λ i. out (f i)))

  pub puts_more : {S₀ S₁ S₂ : Sink} (f : ℕ → List Slot) (e : ℕ) → Gains (out (each e f)) S₀ S₁ → Gains (out (f e)) S₁ S₂ → Gains (out (each (e + 1) f)) S₀ S₂
  puts_more f e p q = rw (emitted_each (e + 1) f) (more (λ i. out (f i)) e (rw (emitted_each e f) at p) q)

  pub puts_done : {S₀ S₁ : Sink} (f : ℕ → List Slot) {e m : ℕ} → e ≤ m → m ≤ e → Gains (out (each e f)) S₀ S₁ → Gains (out (each m f)) S₀ S₁
  puts_done f {e} {m} g h p = rw (emitted_each m f) (done (λ i. out (f i)) g h (rw (emitted_each e f) at p))

  -- a short column that was put is the column that the specification names
  pub puts_three : {S₀ S₁ : Sink} (ss : List Slot) {t : List (Option Triplet)} → length ss ≤ 3 → t ≡ triple (item_of start R S) ss → Gains (emits t) S₀ S₁ → Gains (out ss) S₀ S₁
  puts_three ss h e p = rw (three_is ss h) at (rw e at p)

  -- slots that were put, each by its value
  pub puts_all : {S₀ S₁ : Sink} (ss : List Slot) {t : List (Option Triplet)} → t ≡ map (item_of start R S) ss → Gains (emits t) S₀ S₁ → Gains (out ss) S₀ S₁
  puts_all ss e p = rw (each_is ss) at (rw e at p)

  -- one slot that was put
  pub puts_one : {S₀ S₁ : Sink} (s : Slot) → Gains (emit (item_of start R S s)) S₀ S₁ → Gains (out (s ∷ [])) S₀ S₁
  unfolding emitted
  puts_one s p = rw append-nil p

  -- the plain scan of every index, of those whose key is j, is all turns of a loop
  module _ (key : ℕ → ℕ) (j : ℕ) (g : ℕ → List Slot) where
    scanned : (c : ℕ) → out (each c (λ x. when (eqb (key x) j) (g x))) ≡ scan key j (λ x. out (g x)) c
    scanned c =
        emitted_each c (λ x. when (eqb (key x) j) (g x)) ∙ each_same c (λ x. out (when (eqb (key x) j) (g x))) (λ x. when (eqb (key x) j) (out (g x))) (λ x q. emitted_when (eqb (key x) j) (g x))

    -- at the end of a walk, whatever sheets it put into
    pub chain_done : {l c x : ℕ} {T₀ T₁ : Sheets} → x ≤ c → c ≤ x → Puts l (scan key j (λ x. out (g x)) x) T₀ T₁
        → Puts l (out (each c (λ x. when (eqb (key x) j) (g x)))) T₀ T₁
    chain_done {l} {c} h k p = rw (scanned c) (sheets.done (λ x. when (eqb (key x) j) (out (g x))) h k p)

  -- a walk along the chain of key j is the plain scan of every index: it begins at the head, goes on by next, and ends
  module _ (key : ℕ → ℕ) (j : ℕ) (g : ℕ → List Slot) {S₀ : Sink} where
    pub chain_begin : {c z : ℕ} → First key c j 0 z → Gains (scan key j (λ x. out (g x)) z) S₀ S₀
    chain_begin f = walk_begin key j (λ x. out (g x)) f

    pub chain_more : {c x z : ℕ} {S₁ S₂ : Sink} → key x ≡ j → First key c j (x + 1) z
        → Gains (scan key j (λ x. out (g x)) x) S₀ S₁ → Gains (out (g x)) S₁ S₂ → Gains (scan key j (λ x. out (g x)) z) S₀ S₂
    chain_more e f p q = walk_more key j (λ x. out (g x)) e f p q

    pub chain_gained : {c x : ℕ} {S₁ : Sink} → x ≤ c → c ≤ x → Gains (scan key j (λ x. out (g x)) x) S₀ S₁
        → Gains (out (each c (λ x. when (eqb (key x) j) (g x)))) S₀ S₁
    chain_gained h k p = record {
      puts = chain_done key j g h k p.puts;
      limit = p.limit;
      same_rows = p.same_rows;
      same_cols = p.same_cols;
      same_values = p.same_values;
    }
