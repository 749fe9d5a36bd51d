-- Words that are stored from a place on: one word more, one run of words more, and a whole sheet's front.
-- Main results: `Stored`, `none`, `more`; `Runs`, `no_run`, `run_more`, `run_front`, `fronted`, `three`; `all_made`, `all_runs`, `part_back`, `front_back`. Assumes nothing.
use mathlib.Core.Path.{◌≡◌, refl, sym, ap, ◌∙◌}
use mathlib.Core.List.{List, [], ◌∷◌, ◌++◌, append-nil, append_assoc}
use Prim.Native.Nat.{ℕ, suc, ◌+◌, ◌-◌, ◌≤◌}
use native.Mathlib.Nat.{add-zero, add-suc, suc-add, zero-add, le_of_eq}
use native.Mathlib.Numerals.{add-one}
use native.Mathlib.Omega.{arith}
use lib.ListN.{length, set, take, drop, length-set, length-append, length-take, length-drop}
use lib.Seq.{sets, sets-eq, length-sets, drop-length}
use borrow.Rule.Slice.PartMut.{put_mid, Post-is}
use Rattle.sequence.specs.Lists.{made, each, front}
use Rattle.sequence.proofs.Lists.{made_length, each_more, front_length}
use Rattle.sequence.proofs.Fronts.{Fronted, front_more}

module _ {A : Type 0} where
  -- two runs after each other
  pub sets_append : (l : List A) (at : ℕ) (a b : List A) (n : ℕ) → length a ≡ n → sets (sets l at a) (at + n) b ≡ sets l at (a ++ b)
  sets_append l at [] b n e = rw (← e, add-zero)
  sets_append l at (x ∷ a) b n e = rw (← e, add-suc, ← suc-add) (sets_append (set l at x) (suc at) a b (length a) refl)

  -- new is old with f's first n values stored from a place on
  pub record Stored (f : ℕ → A) (at n : ℕ) (old new : List A) : Type 0 where
    pub is : new ≡ sets old at (made f n)
    pub kept : length new ≡ length old

  pub none : (f : ℕ → A) (at : ℕ) (old : List A) → Stored f at 0 old old
  unfolding made
  none f at old = record { is = refl; kept = refl }

  pub more : {f : ℕ → A} {at i : ℕ} {old new : List A} (v : A) → Stored f at i old new → v ≡ f i → Stored f at (i + 1) old (set new (at + i) v)
  unfolding made
  more {f} {at} {i} {old} {new} v p e =
      record { is = rw (p.is, e, add-one) (sets_append old at (made f i) (f i ∷ []) i (made_length f i)); kept = simp length-set p.kept }

  -- new is old with f's first i runs, which are n words, stored from a place on
  pub record Runs (f : ℕ → List A) (at i n : ℕ) (old new : List A) : Type 0 where
    pub is : new ≡ sets old at (each i f)
    pub long : length (each i f) ≡ n
    pub kept : length new ≡ length old

  pub no_run : (f : ℕ → List A) (at : ℕ) (old : List A) → Runs f at 0 0 old old
  unfolding each
  no_run f at old = record { is = refl; long = refl; kept = refl }

  pub run_more : {f : ℕ → List A} {at i n : ℕ} {old mid new : List A} (k : ℕ) → Runs f at i n old mid → length (f i) ≡ k → new ≡ sets mid (at + n) (f i) → Runs f at (i + 1) (n + k) old new
  run_more {f} {at} {i} {n} {old} {mid} k p e q =
      record {
        is = q ∙ rw (p.is, each_more f i) (sets_append old at (each i f) (f i) n p.long);
        long = rw (each_more f i, length-append, p.long, e);
        kept = rw q (length-sets mid (at + n) (f i)) ∙ p.kept;
      }

  pub run_front : {f : ℕ → List A} {i n : ℕ} {old mid new : List A} (k : ℕ) → Runs f 0 i n old mid → length (f i) ≡ k → new ≡ sets mid n (f i) → Runs f 0 (i + 1) (n + k) old new
  run_front {f} {i} {n} {old} {mid} k p e q = run_more k p e (q ∙ ap (λ (m : ℕ). sets mid m (f i)) (sym (zero-add n)))

  -- a run from a sheet's begin is its front
  pub fronted : (words old : List A) → length words ≤ length old → sets old 0 words ≡ front words old
  unfolding front
  fronted words old h = front_more [] words old 0 refl (omega arith)

  -- three stores in a row
  pub three : (l : List A) (n : ℕ) (a b c : A) → set (set (set l n a) (n + 1) b) (n + 2) c ≡ sets l n (a ∷ b ∷ c ∷ [])
  three l n a b c = let z : n + 2 ≡ suc (suc n) = omega arith in rw (z, add-one)

  -- a front as long as its sheet is all of it
  pub front_all : (words old : List A) → length words ≡ length old → front words old ≡ words
  unfolding front
  front_all words old h = rw (h, drop-length, append-nil)

  -- words that fill their sheet
  pub all_made : {f : ℕ → A} {n : ℕ} {old new : List A} → Fronted f n old new → length old ≡ n → new ≡ made f n
  all_made {f} {n} {old} p h = p.is ∙ front_all (made f n) old (made_length f n ∙ sym h)

  -- runs that fill their sheet
  pub all_runs : {f : ℕ → List A} {i n : ℕ} {old new : List A} → Runs f 0 i n old new → length old ≡ n → new ≡ each i f
  all_runs {f} {i} {n} {old} p h =
      let e : length (each i f) ≡ length old = p.long ∙ sym h in p.is ∙ fronted (each i f) old (le_of_eq e) ∙ front_all (each i f) old e

  -- a part of a sheet: how long it is, and where it comes back
  pub part_long : (a d : ℕ) (xs : List A) → a + d ≤ length xs → length (take (a + d - a) (drop a xs)) ≡ d
  part_long a d xs h = simp (length-take, length-drop) (omega arith)

  pub part_back : (a d : ℕ) (xs ys : List A) → length ys ≡ d → a + d ≤ length xs → put_mid a ((a + d) - a) xs ys ≡ sets xs a ys
  part_back a d xs ys e h = rw (Post-is a (a + d) xs (omega arith)) (sym (sets-eq ys xs a (rw e h) ∙ rw (e, append_assoc)))

  -- a front that comes back into its sheet
  pub front_back : {f : ℕ → A} {n : ℕ} {xs ys : List A} → n ≤ length xs → ys ≡ made f n → Fronted f n xs (put_mid 0 n xs ys)
  front_back {f} {n} {xs} {ys} h e =
      let l = made_length f n in
      let d : n - 0 ≡ n = omega arith in
      let z = rw (zero-add, d) at (part_back 0 n xs (made f n) l (omega (arith, h))) in
      let q = rw e z ∙ fronted (made f n) xs (rw l h) in
      record { is = q; kept = ap (λ (y : List A). length y) q ∙ front_length (made f n) xs (rw l h) }
