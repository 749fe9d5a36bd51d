-- The books' matrix as groups of entries that name their pairs of blocks.
-- Main results: `book_values`, `book_groups`, `matrix_are`, `book_valid`. Assumes nothing.
use mathlib.Core.Path.{◌≡◌, refl, sym, ◌∙◌}
use mathlib.Core.Bool.{Bool, true, false, cond, not, ◌&&◌}
use mathlib.Core.List.{List, [], ◌∷◌, ◌++◌, append_assoc, append-nil}
use Prim.Native.Nat.{ℕ, zero, suc, ◌+◌}
use lib.Dec.{T, eqb}
use lib.Ieee.{Float, eq}
use Rattle.float64.specs.Values.{nought}
use Rattle.sequence.specs.Lists.{each, when}
use Rattle.sequence.specs.Facts.{All}
use Rattle.sequence.specs.Facts.All.{done, ◌&◌}
use Rattle.sequence.proofs.Facts.{all_append, all_each, all_when}
use Rattle.network.specs.Layout.{segments_at}
use Rattle.kkt_index.specs.declared.Block.{Block}
use Rattle.kkt_index.specs.declared.Block.TheVariants.{Va, Pg, Flow, Psh, Cost, LamLb, LamUb, GammaLb, GammaUb, RhoLb, RhoUb, MuLb, MuUb, Segments, Linear, NuBal, NuFlow, Eta}
use Rattle.kkt_index.specs.Index.{Shape, rank}
use Rattle.kkt_index.specs.Index.Shape.{free, upper_only, lower_only, two_sided, equality}
use Rattle.books.specs.Forms.{Place, Form}
use Rattle.books.specs.Forms.Form.{num}
use Rattle.books.specs.Convex.{Gradient, Kind, Constraint, Entry, against, entries_of, constraint_entries, hessian_entries, matrix_of}
use Rattle.books.specs.Manual as manual
use Rattle.books.specs.Matrix.{cell_values}
use Rattle.books.proofs.Cells.{values, both, held, Key, Group, group, has, Own, Valid, joined}
use Rattle.books.proofs.Setting.{Setting, book_site, book_point, worth}

-- ---- lists of constraints, and of terms

constraint_append : (a b : List Constraint) → constraint_entries (a ++ b) ≡ constraint_entries a ++ constraint_entries b
unfolding constraint_entries
constraint_append [] b = refl
constraint_append (x ∷ a) b = rw (constraint_append a b) (sym (append_assoc (entries_of x) (constraint_entries a) (constraint_entries b)))

constraint_each : (n : ℕ) (f : ℕ → List Constraint) → constraint_entries (each n f) ≡ each n (λ i. constraint_entries (f i))
unfolding constraint_entries each
constraint_each zero f = refl
constraint_each (suc n) f = constraint_append (each n f) (f n) ∙ rw (constraint_each n f)

hessian_append : (a b : List (Place × Place × Form)) → hessian_entries (a ++ b) ≡ hessian_entries a ++ hessian_entries b
unfolding hessian_entries
hessian_append [] b = refl
hessian_append (x ∷ a) b = rw (hessian_append a b)

hessian_each : (n : ℕ) (f : ℕ → List (Place × Place × Form)) → hessian_entries (each n f) ≡ each n (λ i. hessian_entries (f i))
unfolding hessian_entries each
hessian_each zero f = refl
hessian_each (suc n) f = hessian_append (each n f) (f n) ∙ rw (hessian_each n f)

pub against_append : (k : Kind) (p : Place) (a b : Gradient) → against k p (a ++ b) ≡ against k p a ++ against k p b
unfolding against
against_append k p [] b = refl
against_append k p (x ∷ a) b = rw (against_append k p a b)

pub against_each : (k : Kind) (p : Place) (n : ℕ) (f : ℕ → Gradient) → against k p (each n f) ≡ each n (λ i. against k p (f i))
unfolding against each
against_each k p zero f = refl
against_each k p (suc n) f = against_append k p (each n f) (f n) ∙ rw (against_each k p n f)

pub against_when : (k : Kind) (p : Place) (b : Bool) (a : Gradient) → against k p (when b a) ≡ when b (against k p a)
unfolding against when
against_when k p true a = refl
against_when k p false a = refl

-- ---- a cell's values

one_turn : (a b c d e : Bool) (x : Float) (l : List Float) → e ≡ eq x nought → when ((a && b) && (c && d)) (when (not e) (x ∷ [])) ++ l ≡ held (both a (both c (both b d))) x l
unfolding when
one_turn true true true true true x l q = rw (← q)
one_turn true true true true false x l q = rw (← q)
one_turn true true true false e x l q = refl
one_turn true true false d e x l q = refl
one_turn true false true d e x l q = refl
one_turn true false false d e x l q = refl
one_turn false b c d e x l q = refl

pub book_values : (z : Setting) (l : List Entry) (a b : Place) → cell_values (worth z) l a b ≡ values (book_point z) a b l
unfolding cell_values values
book_values z [] a b = refl
book_values z (x ∷ xs) a b =
    rw (book_values z xs a b)
    (one_turn (eqb (rank x.row.0) (rank a.0)) (eqb x.row.1 a.1) (eqb (rank x.col.0) (rank b.0)) (eqb x.col.1 b.1) (eq (worth z x.what) nought) (worth z x.what) (values (book_point z) a b xs) refl)

-- ---- groups

-- the pairs of blocks of an equality's multipliers, and of an inequality's
abbrev crossed : Block → List Block → List Key
crossed g [] = []
crossed g (h ∷ hs) = (h, g) ∷ (g, h) ∷ crossed g hs

abbrev owned : Block → List Block → List Key
owned g hs = (g, g) ∷ crossed g hs

abbrev pub one : (ℕ → Constraint) → ℕ → List Entry
one f i = constraint_entries (f i ∷ [])

module _ (z : Setting) where
  abbrev pub book_groups : List (Group Entry)
  book_groups =
      let s = book_site z in
      group ((Pg, Pg) ∷ []) (each z.counts.generators (λ j. hessian_entries (manual.hessian s j)))
      ∷ group (crossed NuBal (Va ∷ Pg ∷ Psh ∷ [])) (each z.counts.buses (one (manual.balance s)))
      ∷ group (crossed NuFlow (Va ∷ Flow ∷ [])) (each z.counts.branches (one (manual.flow_law s)))
      ∷ group (crossed Eta (Va ∷ [])) (each z.counts.references (one (manual.reference s)))
      ∷ group (owned LamLb (Flow ∷ [])) (each z.counts.branches (one (manual.flow_floor s)))
      ∷ group (owned LamUb (Flow ∷ [])) (each z.counts.branches (one (manual.flow_ceiling s)))
      ∷ group (owned RhoLb (Pg ∷ [])) (each z.counts.generators (one (manual.generator_floor s)))
      ∷ group (owned RhoUb (Pg ∷ [])) (each z.counts.generators (one (manual.generator_ceiling s)))
      ∷ group (owned MuLb (Psh ∷ [])) (each z.counts.buses (one (manual.shed_lower s)))
      ∷ group (owned MuUb (Psh ∷ [])) (each z.counts.buses (one (manual.shed_upper s)))
      ∷ group (owned GammaLb (Va ∷ [])) (each z.counts.branches (one (manual.angle_floor s)))
      ∷ group (owned GammaUb (Va ∷ [])) (each z.counts.branches (one (manual.angle_ceiling s)))
      ∷ group (owned Segments (Pg ∷ Cost ∷ [])) (each z.counts.generators (λ j. each (segments_at z.counts z.wiring j) (one (manual.segment s j))))
      ∷ group (owned Linear (Flow ∷ Pg ∷ [])) (each z.counts.rows (λ q. constraint_entries (manual.row_constraints s (s.shapes q) q (manual.row_start s q))))
      ∷ []

  pub matrix_are : matrix_of (manual.program (book_site z)) ≡ joined book_groups
  unfolding manual.program manual.constraints joined
  matrix_are = simp (hessian_each, constraint_append, constraint_each, append-nil)

  -- ---- each entry has a pair of blocks that its group names

  abbrev Fair : List Key → Place → (Place × Form) → Type 0
  Fair ks p x = T (has ks (rank x.0.0) (rank p.0)) × T (has ks (rank p.0) (rank x.0.0))

  against_own : (ks : List Key) (k : Kind) (p : Place) (g : Gradient) → All (Fair ks p) g → All (Own (book_point z) ks) (against k p g)
  unfolding against
  against_own ks k p [] done = done
  against_own ks k p (x ∷ g) (h & hs) = h.1 & h.0 & against_own ks k p g hs

  row_own : (sign : Float → Form) (k : Kind) (q x : ℕ) → All (Own (book_point z) (owned Linear (Flow ∷ Pg ∷ []))) (against k (Linear, x) (manual.row_terms (book_site z) sign q))
  row_own sign k q x =
      against_own (owned Linear (Flow ∷ Pg ∷ [])) k (Linear, x) (manual.row_terms (book_site z) sign q)
      (all_append (all_each _ (λ t l. (tt, tt) & done)) (all_each _ (λ t l. (tt, tt) & done)))

  shape_own : (f : Shape) (q x : ℕ) → All (Own (book_point z) (owned Linear (Flow ∷ Pg ∷ []))) (constraint_entries (manual.row_constraints (book_site z) f q x))
  unfolding constraint_entries
  shape_own free q x = done
  shape_own upper_only q x = all_append (all_append (row_own num _ q x) (tt & done)) done
  shape_own lower_only q x = all_append (all_append (row_own (manual.turned_num (book_site z)) _ q x) (tt & done)) done
  shape_own two_sided q x =
      all_append (all_append (row_own num _ q x) (tt & done)) (all_append (all_append (row_own (manual.turned_num (book_site z)) _ q (x + 1)) (tt & done)) done)
  shape_own equality q x = all_append (all_append (row_own num _ q x) done) done

  lower_own : (i : ℕ) (b : Bool) → All (Own (book_point z) (owned MuLb (Psh ∷ []))) (constraint_entries (cond b (manual.shed_none (book_site z) i) (manual.shed_floor (book_site z) i) ∷ []))
  unfolding constraint_entries against
  lower_own i true = tt & tt & done
  lower_own i false = tt & tt & tt & done

  upper_own : (i : ℕ) (b : Bool) → All (Own (book_point z) (owned MuUb (Psh ∷ []))) (constraint_entries (cond b (manual.shed_spare (book_site z) i) (manual.shed_ceiling (book_site z) i) ∷ []))
  unfolding constraint_entries against
  upper_own i true = tt & tt & tt & done
  upper_own i false = tt & tt & tt & done

  balance_own : (i : ℕ) → All (Own (book_point z) (crossed NuBal (Va ∷ Pg ∷ Psh ∷ []))) (one (manual.balance (book_site z)) i)
  unfolding constraint_entries
  balance_own i =
      all_append
      (all_append
      (against_own (crossed NuBal (Va ∷ Pg ∷ Psh ∷ [])) _ (NuBal, i) _
      (all_append (all_each _ (λ j h. (tt, tt) & done)) (all_append (all_each _ (λ j h. all_when _ ((tt, tt) & done))) ((tt, tt) & done))))
      done)
      done

  pub book_valid : All (Valid (book_point z)) book_groups
  unfolding constraint_entries hessian_entries against
  book_valid =
      all_each _ (λ j l. tt & done)
      & all_each _ (λ i l. balance_own i)
      & all_each _ (λ e l. tt & tt & tt & tt & tt & tt & done)
      & all_each _ (λ k l. tt & tt & done)
      & all_each _ (λ e l. tt & tt & tt & done)
      & all_each _ (λ e l. tt & tt & tt & done)
      & all_each _ (λ j l. tt & tt & tt & done)
      & all_each _ (λ j l. tt & tt & tt & done)
      & all_each _ (λ i l. lower_own i ((book_site z).fixed i))
      & all_each _ (λ i l. upper_own i ((book_site z).fixed i))
      & all_each _ (λ e l. tt & tt & tt & tt & tt & done)
      & all_each _ (λ e l. tt & tt & tt & tt & tt & done)
      & all_each _ (λ j l. all_each _ (λ t h. tt & tt & tt & tt & tt & done))
      & all_each _ (λ q l. shape_own ((book_site z).shapes q) q (manual.row_start (book_site z) q))
      & done
