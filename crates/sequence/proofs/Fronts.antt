-- A sheet whose front is overwritten word by word: what it holds, one word more, one front over another.
-- Main results: `front_at`, `front_later`, `take_front`, `front_more`, `front_made`; `none`, `more`, `over`, `unmet`, `changed`. Assumes nothing.
use mathlib.Core.Path.{◌≡◌, refl, sym, ◌∙◌}
use mathlib.Core.Bool.{cond}
use mathlib.Core.List.{List, [], ◌∷◌, ◌++◌, append_assoc}
use Prim.Native.Nat.{ℕ, ◌+◌, ◌-◌, ◌≤◌, ◌<◌}
use native.Mathlib.Numerals.{add-one}
use native.Mathlib.Omega.{arith}
use borrow.Author.Tests.{eq-eqb, ne_eqb}
use lib.Dec.{eqb}
use lib.ListN.{length, get_or, set, take, drop, length-set, length-append, length-drop, get_or-append}
use native.Mathlib.Decide.{dec_lt}
use lib.Seq.{sets, sets-eq, take_at, drop_at, drop-drop, drop-append-add, get_or-append-add, get_or-drop, ext_get_or}
use Rattle.sequence.specs.Lists.{made, front}
use Rattle.sequence.proofs.Lists.{made_length, made_at, front_length, stored_at}

module _ {A : Type 0} where
  -- what a front holds: f's values, and then the old words
  pub front_at : (f : ℕ → A) (n : ℕ) (old : List A) (i : ℕ) (d : A) → i < n → get_or (front (made f n) old) i d ≡ f i
  unfolding front
  front_at f n old i d h = get_or-append (made f n) _ d i (rw made_length h) ∙ made_at f n i d h

  pub front_later : (f : ℕ → A) (n : ℕ) (old : List A) (i : ℕ) (d : A) → n ≤ i → get_or (front (made f n) old) i d ≡ get_or old i d
  unfolding front
  front_later f n old i d h =
      let z : n + (i - n) ≡ i = omega arith in
      let e = rw made_length at (get_or-append-add (made f n) (drop n old) (i - n) d) in
      rw (made_length f n) (rw z at (e ∙ get_or-drop n old (i - n) d))

  -- what stands in front of a sheet
  pub take_front : (new old : List A) (n : ℕ) → length new ≡ n → take n (front new old) ≡ new
  unfolding front
  take_front new old n e = take_at new _ n e

  pub take_made : (f : ℕ → A) (n : ℕ) (old : List A) → take n (front (made f n) old) ≡ made f n
  take_made f n old = take_front (made f n) old n (made_length f n)

  -- more is stored behind a front
  pub front_more : (new more old : List A) (n : ℕ) → length new ≡ n → n + length more ≤ length old → sets (front new old) n more ≡ front (new ++ more) old
  unfolding front
  front_more new more old n e h =
      let l : length new + length more ≤ length (front new old) = simp (length-append, length-drop) (omega arith) in
      rw (← e, sets-eq more (front new old) (length new) l, take_front new old, drop-append-add, drop-drop, length-append, append_assoc)

  -- one word stored is a front of one
  pub one_front : (x : A) (sheet : List A) → 1 ≤ length sheet → set sheet 0 x ≡ front (x ∷ []) sheet
  unfolding front
  one_front x [] h = absurd (omega arith)
  one_front x (y ∷ ys) h = refl

  -- one value more: v is stored where n values are made
  pub made_turn : (f : ℕ → A) (n : ℕ) (v : A) (old xs : List A) → v ≡ f n → n < length old → xs ≡ front (made f n) old → set xs n v ≡ front (made f (n + 1)) old
  unfolding made
  made_turn f n v old xs h l e = rw (e, h, add-one) (front_more (made f n) (f n ∷ []) old n (made_length f n) (omega arith))

  -- a sheet whose first n words are f's values, and whose later words are as they were, is a front
  pub front_made : (f : ℕ → A) (n : ℕ) (d : A) (old new : List A) → length new ≡ length old → n ≤ length old
      → ((i : ℕ) → i < n → get_or new i d ≡ f i) → ((i : ℕ) → n ≤ i → get_or new i d ≡ get_or old i d) → new ≡ front (made f n) old
  front_made f n d old new e h a b =
      ext_get_or d new (front (made f n) old)
      (e ∙ sym (front_length (made f n) old (rw made_length h)))
      (λ i l. go i (dec_lt i n))
    where
      go : (i : ℕ) → Dec (i < n) → get_or new i d ≡ get_or (front (made f n) old) i d
      go i (yes q) = a i q ∙ sym (front_at f n old i d q)
      go i (no q) = let l : n ≤ i = omega arith in b i l ∙ sym (front_later f n old i d l)

  -- new is old with its first n words replaced by f's values
  pub record Fronted (f : ℕ → A) (n : ℕ) (old new : List A) : Type 0 where
    pub is : new ≡ front (made f n) old
    pub kept : length new ≡ length old

  pub none : (f : ℕ → A) (old : List A) → Fronted f 0 old old
  unfolding front made
  none f old = record { is = refl; kept = refl }

  -- one word more
  pub more : {f : ℕ → A} {i : ℕ} {old new : List A} (v : A) → i < length old → Fronted f i old new → v ≡ f i → Fronted f (i + 1) old (set new i v)
  more {f} {i} {old} {new} v h p e = record { is = made_turn f i v old new e h p.is; kept = simp length-set p.kept }

  -- a front over a front
  pub over : {f g : ℕ → A} {n : ℕ} {old mid new : List A} → Fronted f n old mid → Fronted g n mid new → Fronted g n old new
  unfolding front
  over {f} {g} {n} {old} p q =
      record {
        is = rw (q.is, p.is, made_length g n, made_length f n, drop_at (made f n) (drop n old) n (made_length f n));
        kept = q.kept ∙ p.kept;
      }

  -- the word at i, which a second walk over the front has not reached
  pub unmet : {f g : ℕ → A} {n i : ℕ} {old mid new : List A} (d : A) → i < n → Fronted f n old mid → Fronted g i mid new → get_or new i d ≡ f i
  unmet {f} {g} {n} {i} {old} {mid} d h p q = rw (q.is, front_later g i mid i d (omega arith), p.is, front_at f n old i d)

  -- a word that is changed in place, read at any place
  pub changed : (step : A → A) (l : List A) (k i : ℕ) (d : A) → k < length l → get_or (set l k (step (get_or l k d))) i d ≡ cond (eqb k i) (step (get_or l i d)) (get_or l i d)
  changed step l k i d h =
      stored_at (λ x. x ≡ cond (eqb k i) (step (get_or l i d)) (get_or l i d)) l k (step (get_or l k d)) i d h
      (λ e. rw (e, eq-eqb k k refl))
      (λ e. rw (ne_eqb k i (λ q. e (sym q))))
