-- The laws of booleans, and of what loops make: one turn more, turns that change nothing, equal turns, runs laid end to end. Assumes nothing.
use mathlib.Core.Path.{◌≡◌, refl, sym, ap, ◌∙◌, subst}
use mathlib.Core.Bool.{Bool, true, false, ◌&&◌, ◌||◌, and-false, or-true, false≢true}
use mathlib.Mathlib.Data.Bool.Basic.{or-eq-false-eq-eq-false-and-eq-false}
use mathlib.Core.List.{List, [], ◌∷◌, ◌++◌, map, append-nil, append_assoc}
use mathlib.Core.Logic.{⊎_elim}
use Prim.Native.Nat.{ℕ, zero, suc, ◌+◌, ◌*◌, ◌≤◌, ◌<◌}
use native.Mathlib.Nat.{eq-or-lt_of_le, not-suc-le-zero, le_of_suc-le-suc}
use native.Mathlib.Numerals.{add-one}
use native.Mathlib.Omega.{arith}
use native.Mathlib.Decide.{ℕ_discrete, dec_lt}
use lib.Dec.{T}
use lib.ListN.{length, get_or, set, length-append, length-drop, get_or-append}
use lib.Seq.{ext_get_or, get_or-append-add, get_or_at, get_or-set_same, get_or-set_other}
use Rattle.sequence.specs.Lists.{before, every, some, each, made, turns, front}

pub and_left : (a b : Bool) → a && b ≡ true → a ≡ true
and_left true b q = refl
and_left false b q = q

pub and_right : (a b : Bool) → a && b ≡ true → b ≡ true
and_right true b q = q
and_right false b q = absurd (subst T (sym q) tt)

pub never : {A : Type 0} → false ≡ true → A
never e = absurd (false≢true e)

pub or_none : (a b : Bool) → a || b ≡ false → (a ≡ false) × (b ≡ false)
or_none a b = (or-eq-false-eq-eq-false-and-eq-false a b).0

-- what a test of the code says of the definition that its answer equals
pub failed : {r t : Bool} → r ≡ t → r ≡ false → t ≡ false
failed e h = sym e ∙ h

pub held : {r t : Bool} → r ≡ t → r ≡ true → t ≡ true
held e h = sym e ∙ h

-- ---- sums of counts

pub before_none : (f : ℕ → ℕ) → 0 ≡ before f 0
unfolding before
before_none f = refl

pub before_more : (f : ℕ → ℕ) (i : ℕ) → before f (i + 1) ≡ before f i + f i
unfolding before
before_more f i = rw add-one

pub before_le : (f : ℕ → ℕ) (i n : ℕ) → i ≤ n → before f i ≤ before f n
unfolding before
before_le f i zero h = let z : i ≡ 0 = omega arith in rw z (omega arith)
before_le f i (suc n) h =
    ⊎_elim (λ e. rw e (omega arith)) (λ l. omega (arith, before_le f i n (omega arith))) (eq-or-lt_of_le h)

-- a part of the sum lies within the whole
pub before_within : (f : ℕ → ℕ) (i n : ℕ) → i < n → before f i + f i ≤ before f n
before_within f i n h = omega (arith, before_le f (i + 1) n (omega arith), before_more f i)

-- two places that are one place are of one part, at one index
pub before_apart : (f : ℕ → ℕ) (i j t s : ℕ) → t < f i → s < f j → before f i + t ≡ before f j + s → (i ≡ j) × (t ≡ s)
before_apart f i j t s ht hs e = go (dec_lt i j) (dec_lt j i)
  where
    go : Dec (i < j) → Dec (j < i) → (i ≡ j) × (t ≡ s)
    go (yes l) d = absurd (omega (arith, e, before_within f i j l))
    go (no l) (yes d) = absurd (omega (arith, e, before_within f j i d))
    go (no l) (no d) = let q : i ≡ j = omega arith in (q, omega (arith, e, ap (before f) q))

pub before_same : (f g : ℕ → ℕ) (n : ℕ) → ((i : ℕ) → i < n → f i ≡ g i) → before f n ≡ before g n
unfolding before
before_same f g zero h = refl
before_same f g (suc n) h = rw (before_same f g n (λ i l. h i (omega arith)), h n (omega arith))

-- n terms below a bound
pub before_bound : (f : ℕ → ℕ) (b n : ℕ) → ((i : ℕ) → i < n → f i ≤ b) → before f n ≤ n * b
unfolding before
before_bound f b zero h = omega arith
before_bound f b (suc n) h = omega (arith, before_bound f b n (λ i l. h i (omega arith)), h n (omega arith))

-- ---- tests of every turn

pub every_none : (test : ℕ → Bool) → every test 0 ≡ true
unfolding every
every_none test = refl

-- one test more, whatever the others say
pub every_turn : (test : ℕ → Bool) (i : ℕ) {a b r : Bool} → a ≡ every test i → b ≡ test i → r ≡ a && b → r ≡ every test (i + 1)
unfolding every
every_turn test i p q e = rw (e, p, q, add-one)

pub every_more : (test : ℕ → Bool) (i : ℕ) → every test i ≡ true → test i ≡ true → every test (i + 1) ≡ true
unfolding every
every_more test i e h = rw (add-one, e, h)

-- one that fails
pub every_fails : (test : ℕ → Bool) (i n : ℕ) → i < n → test i ≡ false → every test n ≡ false
unfolding every
every_fails test i zero h b = absurd (not-suc-le-zero h)
every_fails test i (suc n) h b =
    ⊎_elim (λ e. rw (← e, b, and-false)) (λ l. rw (every_fails test i n l b)) (eq-or-lt_of_le (le_of_suc-le-suc h))

-- each passes
pub every_at : (test : ℕ → Bool) (n : ℕ) → every test n ≡ true → (i : ℕ) → i < n → test i ≡ true
unfolding every
every_at test zero e i h = absurd (not-suc-le-zero h)
every_at test (suc n) e i h =
    ⊎_elim (λ q. rw q (and_right (every test n) (test n) e)) (λ l. every_at test n (and_left (every test n) (test n) e) i l) (eq-or-lt_of_le (le_of_suc-le-suc h))

pub every_of : (test : ℕ → Bool) (n : ℕ) → ((i : ℕ) → i < n → test i ≡ true) → every test n ≡ true
unfolding every
every_of test zero h = refl
every_of test (suc n) h = rw (every_of test n (λ i l. h i (omega arith)), h n (omega arith))

-- one that passes
pub some_holds : (test : ℕ → Bool) (i n : ℕ) → i < n → test i ≡ true → some test n ≡ true
unfolding some
some_holds test i zero h b = absurd (not-suc-le-zero h)
some_holds test i (suc n) h b =
    ⊎_elim (λ e. rw (← e, b, or-true)) (λ l. rw (some_holds test i n l b)) (eq-or-lt_of_le (le_of_suc-le-suc h))

-- ---- what turns append

module _ {A : Type 0} where
  pub each_more : (f : ℕ → List A) (i : ℕ) → each (i + 1) f ≡ each i f ++ f i
  unfolding each
  each_more f i = rw add-one

  pub each_same : (n : ℕ) (f g : ℕ → List A) → ((i : ℕ) → i < n → f i ≡ g i) → each n f ≡ each n g
  unfolding each
  each_same zero f g h = refl
  each_same (suc n) f g h = rw (each_same n f g (λ i l. h i (omega arith)), h n (omega arith))

  -- the turns from a to b - 1 append nothing
  pub each_skip : (f : ℕ → List A) (a b : ℕ) → a ≤ b → ((x : ℕ) → a ≤ x → x < b → f x ≡ []) → each b f ≡ each a f
  unfolding each
  each_skip f a zero h e = let z : a ≡ 0 = omega arith in rw z
  each_skip f a (suc b) h e =
      ⊎_elim (λ q. rw q)
      (λ l. rw (e b (omega arith) (omega arith), append-nil) (each_skip f a b (omega arith) (λ x p q. e x p (omega arith))))
      (eq-or-lt_of_le h)

  pub each_add : (f : ℕ → List A) (a c : ℕ) → each (a + c) f ≡ each a f ++ each c (λ i. f (a + i))
  unfolding each
  each_add f a zero = let z : a + 0 ≡ a = omega arith in rw (z, append-nil)
  each_add f a (suc c) = let z : a + suc c ≡ suc (a + c) = omega arith in rw (z, each_add f a c, append_assoc)

  -- runs of words, one after the other: how many there are, and word t of run k
  pub each_long : (f : ℕ → List A) (g : ℕ → ℕ) (n : ℕ) → ((i : ℕ) → i < n → length (f i) ≡ g i) → length (each n f) ≡ before g n
  unfolding each before
  each_long f g zero h = refl
  each_long f g (suc n) h =
      length-append (each n f) (f n) ∙ rw (each_long f g n (λ i l. h i (omega arith)), h n (omega arith))

  pub each_at : (f : ℕ → List A) (g : ℕ → ℕ) (n : ℕ) → ((i : ℕ) → i < n → length (f i) ≡ g i) → (k t : ℕ) (d : A) → k < n → t < g k
      → get_or (each n f) (before g k + t) d ≡ get_or (f k) t d
  unfolding each
  each_at f g zero h k t d l m = absurd (not-suc-le-zero l)
  each_at f g (suc n) h k t d l m = go (ℕ_discrete k n) (each_at f g n (λ i p. h i (omega arith)) k t d)
    where
      long : length (each n f) ≡ before g n
      long = each_long f g n (λ i q. h i (omega arith))

      go : Dec (k ≡ n) → (k < n → t < g k → get_or (each n f) (before g k + t) d ≡ get_or (f k) t d) → get_or (each n f ++ f n) (before g k + t) d ≡ get_or (f k) t d
      go (yes q) ih =
          ap (λ (x : ℕ). get_or (each n f ++ f n) (x + t) d) (ap (before g) q ∙ sym long)
          ∙ get_or-append-add (each n f) (f n) t d
          ∙ ap (λ (x : ℕ). get_or (f x) t d) (sym q)
      go (no q) ih =
          get_or-append (each n f) (f n) d (before g k + t) (omega (arith, long, before_within g k n (omega arith)))
          ∙ ih (omega arith) m

  -- turns taken by two
  pub each_pairs : (f : ℕ → List A) (m : ℕ) → each (2 * m) f ≡ each m (λ e. f (2 * e) ++ f (2 * e + 1))
  unfolding each
  each_pairs f zero = refl
  each_pairs f (suc m) =
      let z : 2 * suc m ≡ suc (suc (2 * m)) = omega arith in
      rw (z, append_assoc, each_pairs f m, add-one)

  -- ---- a value that turns carry

  pub turns_none : (step : ℕ → A → A) (a : A) → a ≡ turns step a 0
  unfolding turns
  turns_none step a = refl

  pub turns_more : (step : ℕ → A → A) (a : A) (i : ℕ) → turns step a (i + 1) ≡ step i (turns step a i)
  unfolding turns
  turns_more step a i = rw add-one

  pub turns_same : (f g : ℕ → A → A) (a : A) (n : ℕ) → ((i : ℕ) → i < n → (x : A) → f i x ≡ g i x) → turns f a n ≡ turns g a n
  unfolding turns
  turns_same f g a zero h = refl
  turns_same f g a (suc n) h = rw (turns_same f g a n (λ i l. h i (omega arith)), h n (omega arith))

  -- the turns from a to b - 1 change nothing
  pub turns_skip : (f : ℕ → A → A) (v : A) (a b : ℕ) → a ≤ b → ((x : ℕ) → a ≤ x → x < b → (y : A) → f x y ≡ y) → turns f v b ≡ turns f v a
  unfolding turns
  turns_skip f v a zero h e = let z : a ≡ 0 = omega arith in rw z
  turns_skip f v a (suc b) h e =
      ⊎_elim (λ q. rw q)
      (λ l. e b (omega arith) (omega arith) _ ∙ turns_skip f v a b (omega arith) (λ x p q. e x p (omega arith)))
      (eq-or-lt_of_le h)

  pub turns_pairs : (f : ℕ → A → A) (v : A) (m : ℕ) → turns f v (2 * m) ≡ turns (λ e a. f (2 * e + 1) (f (2 * e) a)) v m
  unfolding turns
  turns_pairs f v zero = refl
  turns_pairs f v (suc m) =
      let z : 2 * suc m ≡ suc (suc (2 * m)) = omega arith in
      rw (z, turns_pairs f v m, add-one)

  -- ---- a list that is made from the front

  pub made_length : (f : ℕ → A) (n : ℕ) → length (made f n) ≡ n
  unfolding made
  made_length f zero = refl
  made_length f (suc n) = length-append (made f n) (f n ∷ []) ∙ ap (λ (k : ℕ). k + 1) (made_length f n) ∙ add-one n

  pub made_at : (f : ℕ → A) (n i : ℕ) (d : A) → i < n → get_or (made f n) i d ≡ f i
  unfolding made
  made_at f zero i d h = absurd (not-suc-le-zero h)
  made_at f (suc n) i d h =
      ⊎_elim (λ e. rw e (get_or_at (made f n) (f n) [] d n (made_length f n)))
      (λ l. get_or-append (made f n) (f n ∷ []) d i (rw made_length l) ∙ made_at f n i d l)
      (eq-or-lt_of_le (le_of_suc-le-suc h))

  pub made_same : (f g : ℕ → A) (n : ℕ) → ((i : ℕ) → i < n → f i ≡ g i) → made f n ≡ made g n
  unfolding made
  made_same f g zero h = refl
  made_same f g (suc n) h = rw (made_same f g n (λ i l. h i (omega arith)), h n (omega arith))

  -- the words of a list, made one by one, are the list
  pub made_self : (xs : List A) (d : A) → made (λ i. get_or xs i d) (length xs) ≡ xs
  made_self xs d =
      ext_get_or d (made (λ i. get_or xs i d) (length xs)) xs (made_length (λ i. get_or xs i d) (length xs))
      (λ i l. made_at (λ i. get_or xs i d) (length xs) i d (rw made_length at l))

  -- a number of an element by its place
  pub map_at : (f : A → ℕ) (l : List A) (k : ℕ) (d : A) → k < length l → get_or (map f l) k 0 ≡ f (get_or l k d)
  map_at f [] k d h = absurd (not-suc-le-zero h)
  map_at f (x ∷ l) zero d h = refl
  map_at f (x ∷ l) (suc k) d h = map_at f l k d (le_of_suc-le-suc h)

  pub front_length : (new old : List A) → length new ≤ length old → length (front new old) ≡ length old
  unfolding front
  front_length new old h = simp (length-append, length-drop) (omega arith)

  -- a store, read at any place: at the place of the store, or elsewhere
  pub stored_at : (P : A → Type 0) (l : List A) (i : ℕ) (v : A) (j : ℕ) (d : A) → i < length l → (j ≡ i → P v) → ((j ≡ i → ⊥) → P (get_or l j d)) → P (get_or (set l i v) j d)
  stored_at P l i v j d h p q = go (ℕ_discrete j i)
    where
      go : Dec (j ≡ i) → P (get_or (set l i v) j d)
      go (yes e) = rw (e, get_or-set_same l i v d h) (p e)
      go (no e) = rw (get_or-set_other l i j v d e) (q e)
