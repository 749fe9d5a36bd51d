-- Words stored after each other: none, one list and then another, a loop's turns, and a whole sheet's front.
-- Main results: `nothing`, `then`, `turn_room`, `turns_length`, `whole`; `added`, `words_more`; `below`. Assumes nothing.
use mathlib.Core.Bool.{Bool, true, false}
use mathlib.Core.Path.{◌≡◌, refl, ap, ◌∙◌}
use mathlib.Core.List.{List, [], ◌∷◌, ◌++◌}
use Prim.Native.Nat.{ℕ, zero, suc, ◌+◌, ◌≤◌, ◌<◌}
use native.Mathlib.Omega.{arith}
use lib.ListN.{length, get_or, set, length-set, length-append}
use lib.Ieee.{Float}
use Rattle.std.specs.Prelude.{Option, Some}
use lib.Seq.{get_or-set_same, set-set}
use Rattle.sequence.specs.Lists.{before, each, when, made, front}
use Rattle.sequence.proofs.Lists.{each_more, before_within, each_long}
use Rattle.sens_snap.proofs.Stores.{sets_append, fronted}
use Rattle.network.specs.declared.Counts.{Counts}
use Rattle.opf_layout.specs.declared.OpfColumn.{OpfColumn}
use Rattle.opf_layout.specs.declared.OpfRow.{OpfRow}
use Rattle.opf_assembly.specs.Assembly.{column_elements, row_elements}
use Rattle.opf_sides.specs.declared.Words.{Words}
use Rattle.opf_sides.specs.Walks.{Stores, Adds, added_word}

module _ {A : Type 0} where
  pub nothing : (at : ℕ) (old : List A) → Stores [] at old old at
  nothing at old = record { is = refl; next = omega arith; kept = refl }

  pub one : {old new : List A} (at : ℕ) (v : A) → new ≡ set old at v → Stores (v ∷ []) at old new (at + 1)
  one {old} at v e = record { is = e; next = refl; kept = ap length e ∙ simp length-set }

  pub then : {a b : List A} {at j k : ℕ} {x y z : List A} → Stores a at x y j → Stores b j y z k → Stores (a ++ b) at x z k
  then {a} {b} {at} {j} {k} {x} {y} {z} p q = record {
    is = q.is ∙ rw (p.is, p.next) (sets_append x at a b (length a) refl);
    next = rw length-append (omega (arith, p.next, q.next));
    kept = q.kept ∙ p.kept;
  }

  pub two : {old mid new : List A} (at : ℕ) (v u : A) → mid ≡ set old at v → new ≡ set mid (at + 1) u → Stores (v ∷ u ∷ []) at old new (at + 2)
  two {old} {mid} {new} at v u e f = let p = then {x = old} {y = mid} {z = new} (one at v e) (one (at + 1) u f) in record { is = p.is; next = refl; kept = p.kept }

  -- what is left of the room for the second of two lists
  pub room_next : {a : List A} (b : List A) {at k : ℕ} {x y : List A} → Stores a at x y k → at + length (a ++ b) ≤ length x → k + length b ≤ length y
  room_next {a} b p h = omega (arith, length-append a b, p.next, p.kept)

  -- a list that is meant at all
  pub when_on : {on : Bool} {l : List A} {at k : ℕ} {x y : List A} → on ≡ true → Stores l at x y k → Stores (when on l) at x y k
  unfolding when
  when_on e p = rw e p

  pub when_off : {on : Bool} (l : List A) {at : ℕ} {x : List A} → on ≡ false → Stores (when on l) at x x at
  unfolding when
  when_off l {at} {x} e = rw e (nothing at x)

  pub one_side : (on : Bool) {l : List A} {v u : A} → l ≡ when on (v ∷ []) → v ≡ u → l ≡ when on (u ∷ [])
  one_side on h e = rw e at h

  -- a word that begins at z and is then changed
  pub begun : (x : List A) {y w : List A} {at : ℕ} (z d : A) (f : A → A) → at < length x → y ≡ set x at z → w ≡ set y at (f (get_or y at d)) → w ≡ set x at (f z)
  begun x {at = at} z d f h e g = g ∙ rw (e, get_or-set_same x at z d h, set-set x at z (f z))

  pub turns_length : (f : ℕ → List A) (n : ℕ) → length (each n f) ≡ before (λ i. length (f i)) n
  turns_length f n = each_long f (λ i. length (f i)) n (λ i h. refl)

  -- a turn's words have room where all of them have
  pub turn_room : (f : ℕ → List A) (i n at room : ℕ) {j : ℕ} → i < n → at + length (each n f) ≤ room → j ≡ at + length (each i f) → j + length (f i) ≤ room
  turn_room f i n at room h g e =
      omega (arith, before_within (λ t. length (f t)) i n h, turns_length f i, turns_length f n)

  pub from_begin : (l : List A) {room : ℕ} → length l ≤ room → 0 + length l ≤ room
  from_begin l h = omega arith

  pub whole : {l old new : List A} {k : ℕ} → Stores l 0 old new k → length l ≤ length old → new ≡ front l old
  whole {l} {old} p h = p.is ∙ fronted l old h

-- ---- at a sheet that is written word by word

pub added : {a b : List Float} {x y z : Words} → Adds a x y → Adds b y z → Adds (a ++ b) x z
added p q = record { stores = then p.stores q.stores; same = q.same ∙ p.same }

pub none_added : (x : Words) → Adds [] x x
none_added x = record { stores = nothing x.at x.sheet.now; same = refl }

pub words_begin : (f : ℕ → List Float) (x : Words) → Adds (each 0 f) x x
unfolding each
words_begin f x = none_added x

pub words_more : {x y z : Words} (f : ℕ → List Float) (i : ℕ) → Adds (each i f) x y → Adds (f i) y z → Adds (each (i + 1) f) x z
words_more f i p q = rw (each_more f i) (added p q)

-- an element of a block that is known
pub below : (c : Counts) (i : ℕ) {b g : OpfRow} → b ≡ g → i < row_elements c b → i < row_elements c g
below c i e h = rw e at h

pub column_below : (c : Counts) (i : ℕ) {b g : OpfColumn} → b ≡ g → i < column_elements c b → i < column_elements c g
column_below c i e h = rw e at h

-- an element's word of q has room
pub word_room : {added : Option Float} {v : Float} {at room : ℕ} → added ≡ Some v → at + length (added_word added) ≤ room → at < room
word_room e h = let g = rw e at h in omega (arith, g)

-- a list that a loop makes word by word
pub made_turns : {A : Type 0} (f : ℕ → A) (n : ℕ) → made f n ≡ each n (λ i. f i ∷ [])
unfolding made each
made_turns f zero = refl
made_turns f (suc n) = rw (made_turns f n)
