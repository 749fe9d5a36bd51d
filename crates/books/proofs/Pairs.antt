-- At each pair of blocks one group of the port's list meets one of the books': `by_key`, `turns`. And the doubles' laws in the terms of the two lists.
-- Main results: `Agree`, `turns`, `word`, `once`, `twice`. Assumes nothing.
use mathlib.Core.Path.{◌≡◌, refl, sym, ap, ◌∙◌}
use mathlib.Core.Bool.{Bool, true, false}
use mathlib.Core.List.{List, [], ◌∷◌, append-nil}
use Prim.Native.Nat.{ℕ, ◌+◌, ◌<◌}
use lib.Dec.{T, eqb}
use lib.Ieee.{Float, binary64, mul, neg, of_bits, fits}
use lib.Ieee.Fits.{neg-fits}
use borrow.Author.Tests.{eq-eqb}
use Rattle.float64.specs.Values.{one}
use Rattle.float64.proofs.Signs.{neg_neg, mul_neg_left, mul_neg_right, mul_one_right, mul_less_one}
use Rattle.sequence.specs.Lists.{each}
use Rattle.solution.specs.declared.Entry as solution
use Rattle.solution.specs.Sheet.{pieces, size, solved, entry_start}
use Rattle.kkt_index.specs.Index.{rank}
use Rattle.snapping.specs.Expr.{eval}
use Rattle.snapping.specs.Snap.{snap_sheet, snapped_at, entry_words, plain_words}
use Rattle.kkt.specs.Slots.{Slot, slots}
use Rattle.books.specs.Forms.{Place}
use Rattle.books.specs.Convex.{Entry, matrix_of}
use Rattle.books.specs.Manual.{program}
use Rattle.books.proofs.Cells.{values, values_each, both, Key, Group, group, joined, keep, pick}
use Rattle.books.proofs.Words.{plain_word}
use Rattle.books.proofs.Setting.{Setting, R, S, port_site, book_site, port_point, book_point}
use Rattle.books.proofs.Port.{port_groups, slots_are, port_valid}
use Rattle.books.proofs.Book.{book_groups, matrix_are, book_valid}

-- ---- doubles

-- x 1 = x, x (−1) = −x
pub by_one : (x : Float) → T (fits binary64 x) → mul binary64 x one ≡ x
unfolding of_bits
by_one x h = mul_one_right x h

pub by_less : (x : Float) → T (fits binary64 x) → mul binary64 x (neg one) ≡ neg x
unfolding of_bits neg
by_less x h = mul_less_one x h

-- (−x) (−1) = x, (−x) 1 = −x
pub twice : (x : Float) → T (fits binary64 x) → mul binary64 (neg x) (neg one) ≡ x
twice x h = by_less (neg x) (neg-fits binary64 x h) ∙ neg_neg x

pub once : (x : Float) → T (fits binary64 x) → mul binary64 (neg x) one ≡ neg x
once x h = by_one (neg x) (neg-fits binary64 x h)

pub less_less : (x y : Float) → mul binary64 (neg x) (neg y) ≡ mul binary64 x y
less_less x y = mul_neg_left x (neg y) ∙ ap neg (mul_neg_right x y) ∙ neg_neg (mul binary64 x y)

-- ---- tests

pub yes_self : (j : ℕ) → eqb j j ≡ true
yes_self j = eq-eqb j j refl

pub both_false : (b : Bool) → both b false ≡ false
both_false true = refl
both_false false = refl

module _ (z : Setting) where
  -- a word of the solution sheet is a double
  pub sol_fits : (e : solution.Entry) (i : ℕ) → T (fits binary64 (S z e i))
  unfolding solved
  sol_fits e i = z.doubles (entry_start z.counts (pieces z.counts z.wiring) e + i)

  -- an unknown that the sheet holds is the port's figure
  pub word : (e : solution.Entry)
      → entry_words z.counts z.wiring (pieces z.counts z.wiring) z.readings z.sheet e ≡ plain_words z.counts z.wiring (pieces z.counts z.wiring) z.readings z.sheet e
      → (i : ℕ) → i < size z.counts (pieces z.counts z.wiring) e
      → solved z.counts (pieces z.counts z.wiring) (snap_sheet z.counts z.wiring (pieces z.counts z.wiring) z.readings z.sheet) e i ≡ eval (R z) (S z) (snapped_at z.counts z.wiring e i)
  word e q i l = plain_word z.counts z.wiring (pieces z.counts z.wiring) z.readings z.sheet z.wired e q i l

  -- ---- one group at each pair of blocks

  abbrev pub Agree : Place → Place → Type 0
  Agree a b = values (port_point z) a b (slots (port_site z)) ≡ values (book_point z) a b (matrix_of (program (book_site z)))

  pub in_port : (a b : Place) (x : Group Slot) → keep (rank a.0) (rank b.0) (port_groups z) ≡ x ∷ [] → values (port_point z) a b (slots (port_site z)) ≡ values (port_point z) a b x.body
  unfolding joined
  in_port a b x q =
      ap (values (port_point z) a b) (slots_are z)
      ∙ pick (port_point z) a b (port_groups z) (port_valid z)
      ∙ ap (λ (gs : List (Group Slot)). values (port_point z) a b (joined gs)) q
      ∙ ap (values (port_point z) a b) (append-nil x.body)

  pub in_book : (a b : Place) (y : Group Entry) → keep (rank a.0) (rank b.0) (book_groups z) ≡ y ∷ [] → values (book_point z) a b (matrix_of (program (book_site z))) ≡ values (book_point z) a b y.body
  unfolding joined
  in_book a b y q =
      ap (values (book_point z) a b) (matrix_are z)
      ∙ pick (book_point z) a b (book_groups z) (book_valid z)
      ∙ ap (λ (gs : List (Group Entry)). values (book_point z) a b (joined gs)) q
      ∙ ap (values (book_point z) a b) (append-nil y.body)

  pub by_key : (a b : Place) (x : Group Slot) (y : Group Entry) → keep (rank a.0) (rank b.0) (port_groups z) ≡ x ∷ [] → keep (rank a.0) (rank b.0) (book_groups z) ≡ y ∷ []
      → values (port_point z) a b x.body ≡ values (book_point z) a b y.body → Agree a b
  by_key a b x y p q h = in_port a b x p ∙ h ∙ sym (in_book a b y q)

  -- two loops that agree turn by turn
  pub turns : (a b : Place) (t : ℕ) (f : ℕ → List Slot) (g : ℕ → List Entry) (ks ls : List Key)
      → keep (rank a.0) (rank b.0) (port_groups z) ≡ group ks (each t f) ∷ [] → keep (rank a.0) (rank b.0) (book_groups z) ≡ group ls (each t g) ∷ []
      → ((e : ℕ) → e < t → values (port_point z) a b (f e) ≡ values (book_point z) a b (g e)) → Agree a b
  turns a b t f g ks ls p q d = by_key a b _ _ p q (values_each (port_point z) (book_point z) a b t f g d)
