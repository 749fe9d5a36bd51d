-- The values of a cell, zeros left out, in any list whose elements have a row, a column and a value.
-- How a list that is made of groups is read at one cell: only the groups that name its pair of blocks count.
-- Main results: `values`, `Group`, `pick`, `no_group`, `find`. Assumes nothing.
use mathlib.Core.Path.{◌≡◌, refl, sym, ap, ◌∙◌, subst, subst₂}
use mathlib.Core.Bool.{Bool, true, false, ◌||◌}
use mathlib.Core.List.{List, [], ◌∷◌, ◌++◌, append-nil}
use Prim.Native.Nat.{ℕ, zero, suc, ◌<◌}
use native.Mathlib.Omega.{arith}
use native.Mathlib.Decide.{ℕ_discrete}
use lib.Dec.{T, eqb, eqb→eq}
use lib.Ieee.{Float, eq}
use lib.ListN.{get_or}
use Rattle.float64.specs.Values.{nought}
use Rattle.sequence.specs.Lists.{each, when}
use Rattle.sequence.specs.Facts.{All}
use Rattle.sequence.specs.Facts.All.{done, ◌&◌}
use Rattle.kkt_index.specs.declared.Block.{Block}
use Rattle.kkt_index.specs.declared.Block.TheVariants.{Va}
use Rattle.kkt_index.specs.Index.{rank, blocks}
use Rattle.kkt_index.proofs.Blocks.{block_of_rank}
use Rattle.books.specs.Forms.{Place}
use Rattle.books.proofs.Zeros.{SameOrZeros}
use Rattle.books.proofs.Zeros.SameOrZeros.{same, zeros}

pub record Point : Type 0 where
  pub row : Place
  pub col : Place
  pub value : Float

abbrev pub point : Place → Place → Float → Point
point r c x = record { row = r; col = c; value = x }

abbrev pub both : Bool → Bool → Bool
both true b = b
both false b = false

-- a value before others, unless it is a zero
abbrev pub unless : Bool → Float → List Float → List Float
unless true x xs = xs
unless false x xs = x ∷ xs

abbrev pub held : Bool → Float → List Float → List Float
held true x xs = unless (eq x nought) x xs
held false x xs = xs

-- the two blocks first, so that they decide where they are known
abbrev pub hit : Place → Place → Place → Place → Bool
hit p q r c = both (eqb (rank p.0) (rank r.0)) (both (eqb (rank q.0) (rank c.0)) (both (eqb p.1 r.1) (eqb q.1 c.1)))

pub held_alike : (b : Bool) (x y : Float) (xs : List Float) → SameOrZeros x y → held b x xs ≡ held b y xs
held_alike b x y xs same = refl
held_alike true x y xs (zeros p q) = rw (p, q)
held_alike false x y xs (zeros p q) = refl

pub held_nil : (b : Bool) (x : Float) (xs : List Float) → eq x nought ≡ true → held b x xs ≡ xs
held_nil true x xs e = rw e
held_nil false x xs e = refl

unless_append : (b : Bool) (x : Float) (xs ys : List Float) → unless b x (xs ++ ys) ≡ unless b x xs ++ ys
unless_append true x xs ys = refl
unless_append false x xs ys = refl

held_append : (b : Bool) (x : Float) (xs ys : List Float) → held b x (xs ++ ys) ≡ held b x xs ++ ys
held_append true x xs ys = unless_append (eq x nought) x xs ys
held_append false x xs ys = refl

pub not_held : (b : Bool) (x : Float) (l : List Float) → (T b → ⊥) → held b x l ≡ l
not_held true x l h = absurd (h tt)
not_held false x l h = refl

module _ {A : Type 0} (f : A → Point) (r c : Place) where
  unfoldable pub values : List A → List Float
  values [] = []
  values (s ∷ ss) = held (hit (f s).row (f s).col r c) (f s).value (values ss)

  pub values_append : (l k : List A) → values (l ++ k) ≡ values l ++ values k
  unfolding values
  values_append [] k = refl
  values_append (s ∷ ss) k = rw (values_append ss k) (held_append (hit (f s).row (f s).col r c) (f s).value (values ss) (values k))

  pub values_none : (n : ℕ) (g : ℕ → List A) → ((i : ℕ) → i < n → values (g i) ≡ []) → values (each n g) ≡ []
  unfolding each values
  values_none zero g h = refl
  values_none (suc n) g h = values_append (each n g) (g n) ∙ rw (values_none n g (λ i l. h i (omega arith)), h n (omega arith))

  -- only turn a has something at the cell
  pub values_point : (n a : ℕ) (g : ℕ → List A) → a < n → ((i : ℕ) → i < n → (i ≡ a → ⊥) → values (g i) ≡ []) → values (each n g) ≡ values (g a)
  unfolding each values
  values_point zero a g l h = let z : ⊥ = omega arith in absurd z
  values_point (suc n) a g l h = go (ℕ_discrete a n) (λ k. values_point n a g k (λ i k2 d. h i (omega arith) d))
    where
      go : Dec (a ≡ n) → (a < n → values (each n g) ≡ values (g a)) → values (each n g ++ g n) ≡ values (g a)
      go (yes e) ih =
          values_append (each n g) (g n) ∙ rw (values_none n g (λ i k. h i (omega arith) (λ q. omega arith))) (ap (λ (x : ℕ). values (g x)) (sym e))
      go (no d) ih =
          values_append (each n g) (g n) ∙ rw (ih (omega arith), h n (omega arith) (λ q. d (sym q))) (append-nil (values (g a)))

  pub values_when : (b : Bool) (l : List A) → values l ≡ [] → values (when b l) ≡ []
  unfolding when values
  values_when true l h = h
  values_when false l h = refl

-- loops that agree turn by turn
module _ {A B : Type 0} (f : A → Point) (g : B → Point) (r c : Place) where
  pub values_each : (n : ℕ) (h : ℕ → List A) (k : ℕ → List B) → ((i : ℕ) → i < n → values f r c (h i) ≡ values g r c (k i)) → values f r c (each n h) ≡ values g r c (each n k)
  unfolding each values
  values_each zero h k e = refl
  values_each (suc n) h k e =
      values_append f r c (each n h) (h n)
      ∙ rw (values_each n h k (λ i l. e i (omega arith)), e n (omega arith)) (sym (values_append g r c (each n k) (k n)))

  pub same_when : (b : Bool) (l : List A) (k : List B) → values f r c l ≡ values g r c k → values f r c (when b l) ≡ values g r c (when b k)
  unfolding when values
  same_when true l k h = h
  same_when false l k h = refl

-- ---- groups

abbrev pub Key : Type 0
Key = Block × Block

abbrev pub has : List Key → ℕ → ℕ → Bool
has [] g h = false
has (k ∷ ks) g h = both (eqb (rank k.0) g) (eqb (rank k.1) h) || has ks g h

pub record Group (A : Type 0) : Type 0 where
  pub keys : List Key
  pub body : List A

abbrev pub group : {A : Type 0} → List Key → List A → Group A
group ks l = record { keys = ks; body = l }

unfoldable pub joined : {A : Type 0} → List (Group A) → List A
joined [] = []
joined (g ∷ gs) = g.body ++ joined gs

abbrev pub cons_if : {A : Type 0} → Bool → Group A → List (Group A) → List (Group A)
cons_if true g gs = g ∷ gs
cons_if false g gs = gs

abbrev pub keep : {A : Type 0} → ℕ → ℕ → List (Group A) → List (Group A)
keep g h [] = []
keep g h (x ∷ xs) = cons_if (has x.keys g h) x (keep g h xs)

module _ {A : Type 0} (f : A → Point) where
  abbrev pub Own : List Key → A → Type 0
  Own ks s = T (has ks (rank (f s).row.0) (rank (f s).col.0))

  abbrev pub Valid : Group A → Type 0
  Valid g = All (Own g.keys) g.body

  module _ (r c : Place) where
    -- an element at the cell has its blocks
    hit_blocks : (p q : Place) → T (hit p q r c) → (rank p.0 ≡ rank r.0) × (rank q.0 ≡ rank c.0)
    hit_blocks p q t = go (eqb (rank p.0) (rank r.0)) (eqb (rank q.0) (rank c.0)) (eqb→eq _ _) (eqb→eq _ _) t
      where
        go : (a b : Bool) → (T a → rank p.0 ≡ rank r.0) → (T b → rank q.0 ≡ rank c.0) → T (both a (both b (both (eqb p.1 r.1) (eqb q.1 c.1))))
            → (rank p.0 ≡ rank r.0) × (rank q.0 ≡ rank c.0)
        go true true f g t = (f tt, g tt)
        go true false f g t = absurd t
        go false b f g t = absurd t

    miss : (ks : List Key) (l : List A) → All (Own ks) l → (T (has ks (rank r.0) (rank c.0)) → ⊥) → values f r c l ≡ []
    unfolding values
    miss ks [] done out = refl
    miss ks (s ∷ ss) (o & os) out =
        not_held (hit (f s).row (f s).col r c) (f s).value (values f r c ss)
        (λ t. out (subst₂ (λ (g h : ℕ). T (has ks g h)) (hit_blocks (f s).row (f s).col t).0 (hit_blocks (f s).row (f s).col t).1 o))
        ∙ miss ks ss os out

    pub pick : (gs : List (Group A)) → All Valid gs → values f r c (joined gs) ≡ values f r c (joined (keep (rank r.0) (rank c.0) gs))
    unfolding joined
    pick [] done = refl
    pick (g ∷ gs) (o & os) =
        values_append f r c g.body (joined gs)
        ∙ go (has g.keys (rank r.0) (rank c.0)) (λ out. miss g.keys g.body o out) (pick gs os)
      where
        go : (b : Bool) → ((T b → ⊥) → values f r c g.body ≡ []) → values f r c (joined gs) ≡ values f r c (joined (keep (rank r.0) (rank c.0) gs))
            → values f r c g.body ++ values f r c (joined gs) ≡ values f r c (joined (cons_if b g (keep (rank r.0) (rank c.0) gs)))
        go true h ih = rw ih (sym (values_append f r c g.body (joined (keep (rank r.0) (rank c.0) gs))))
        go false h ih = rw (h (λ z. z)) ih

    -- ---- elements of another row or column

    hit_places : (p q : Place) → T (hit p q r c) → (p.1 ≡ r.1) × (q.1 ≡ c.1)
    hit_places p q t = go (eqb (rank p.0) (rank r.0)) (eqb (rank q.0) (rank c.0)) (eqb p.1 r.1) (eqb→eq p.1 r.1) t
      where
        go : (a b d : Bool) → (T d → p.1 ≡ r.1) → T (both a (both b (both d (eqb q.1 c.1)))) → (p.1 ≡ r.1) × (q.1 ≡ c.1)
        go true true true f t = (f tt, eqb→eq q.1 c.1 t)
        go true true false f t = absurd t
        go true false d f t = absurd t
        go false b d f t = absurd t

    pub other_column : (j : ℕ) {l : List A} → All (λ s. (f s).col.1 ≡ j) l → (j ≡ c.1 → ⊥) → values f r c l ≡ []
    unfolding values
    other_column j done d = refl
    other_column j (◌&◌ {x = s} {xs = ss} h hs) d =
        not_held (hit (f s).row (f s).col r c) (f s).value (values f r c ss) (λ t. d (sym h ∙ (hit_places (f s).row (f s).col t).1)) ∙ other_column j hs d

-- ---- keys of groups

abbrev pub keys_of : {A : Type 0} → List (Group A) → List Key
keys_of [] = []
keys_of (g ∷ gs) = g.keys ++ keys_of gs

or_left : (a b : Bool) → T a → T (a || b)
or_left true b t = tt
or_left false b t = absurd t

or_right : (a b : Bool) → T b → T (a || b)
or_right true b t = tt
or_right false b t = t

has_append : (ks ls : List Key) (g h : ℕ) → has (ks ++ ls) g h ≡ (has ks g h || has ls g h)
has_append [] ls g h = refl
has_append (k ∷ ks) ls g h = go (both (eqb (rank k.0) g) (eqb (rank k.1) h)) (has_append ks ls g h)
  where
    go : (a : Bool) → has (ks ++ ls) g h ≡ (has ks g h || has ls g h) → (a || has (ks ++ ls) g h) ≡ ((a || has ks g h) || has ls g h)
    go true e = refl
    go false e = e

pub no_group : {A : Type 0} (gs : List (Group A)) (g h : ℕ) → (T (has (keys_of gs) g h) → ⊥) → keep g h gs ≡ []
no_group [] g h d = refl
no_group (x ∷ xs) g h d =
    go (has x.keys g h)
    (λ t. d (subst T (sym (has_append x.keys (keys_of xs) g h)) (or_left (has x.keys g h) (has (keys_of xs) g h) t)))
    (no_group xs g h (λ t. d (subst T (sym (has_append x.keys (keys_of xs) g h)) (or_right (has x.keys g h) (has (keys_of xs) g h) t))))
  where
    go : (b : Bool) → (T b → ⊥) → keep g h xs ≡ [] → cons_if b x (keep g h xs) ≡ []
    go true f e = absurd (f tt)
    go false f e = e

abbrev pub within : List Key → List Key → Bool
within [] ls = true
within (k ∷ ks) ls = both (has ls (rank k.0) (rank k.1)) (within ks ls)

pub one_rank : (f g : Block) → rank f ≡ rank g → f ≡ g
one_rank f g e = sym (block_of_rank f) ∙ ap (λ (k : ℕ). get_or blocks k Va) e ∙ block_of_rank g

-- what holds of every key holds of the pair of blocks that one names
pub find : (P : Block → Block → Type 0) (ks : List Key) (g h : Block) → All (λ k. P k.0 k.1) ks → T (has ks (rank g) (rank h)) → P g h
find P [] g h done t = absurd t
find P (k ∷ ks) g h (p & ps) t =
    go (eqb (rank k.0) (rank g)) (eqb (rank k.1) (rank h)) (eqb→eq _ _) (eqb→eq _ _) (find P ks g h ps) t
  where
    go : (a b : Bool) → (T a → rank k.0 ≡ rank g) → (T b → rank k.1 ≡ rank h) → (T (has ks (rank g) (rank h)) → P g h) → T (both a b || has ks (rank g) (rank h)) → P g h
    go true true e f ih t = subst₂ P (one_rank k.0 g (e tt)) (one_rank k.1 h (f tt)) p
    go true false e f ih t = ih t
    go false b e f ih t = ih t

pub keys_in : (ks ls : List Key) → T (within ks ls) → All (λ k. T (has ls (rank k.0) (rank k.1))) ks
keys_in [] ls t = done
keys_in (k ∷ ks) ls t =
    first (has ls (rank k.0) (rank k.1)) (within ks ls) t & keys_in ks ls (rest (has ls (rank k.0) (rank k.1)) (within ks ls) t)
  where
    first : (a b : Bool) → T (both a b) → T a
    first true b u = tt
    first false b u = u

    rest : (a b : Bool) → T (both a b) → T b
    rest true b u = u
    rest false b u = absurd u
