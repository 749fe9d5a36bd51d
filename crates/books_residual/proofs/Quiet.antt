-- The rows that a parameter does not move: their derivative is 0, and the port touches no word of their blocks.
-- Main results: `steady`, `special`, `quiet`, `held`. Assumes nothing.
use mathlib.Core.Path.{◌≡◌, refl, sym, ap, ◌∙◌, subst}
use mathlib.Core.Bool.{Bool, true, false, cond, not, ◌&&◌, ◌||◌}
use mathlib.Core.List.{List, [], ◌∷◌}
use Prim.Native.Nat.{ℕ, ◌+◌, ◌≤◌, ◌<◌}
use native.Mathlib.Omega.{arith}
use lib.ListN.{get_or}
use lib.Dec.{T, eqb}
use lib.Ieee.{Float}
use borrow.Author.Tests.{eqb-true, not-true}
use Rattle.sequence.specs.Lists.{every}
use Rattle.sequence.proofs.Lists.{and_left, and_right, every_at, before_within}
use Rattle.sequence.specs.Facts.{All}
use Rattle.sequence.specs.Facts.All.{done, ◌&◌}
use Rattle.network.specs.declared.Field.{Field}
use Rattle.network.specs.declared.Field.TheVariants.{Susceptance, Sw, FlowOffset, Fmax, Cq, Cl, Demand, UpperMw, LowerMw}
use Rattle.network.specs.Layout as network
use Rattle.model.specs.Rows.{row_limits}
use Rattle.solution.specs.Sheet.{pieces}
use Rattle.kkt_index.specs.declared.Block.{Block}
use Rattle.kkt_index.specs.declared.Block.TheVariants.{Va, Pg, LamLb, LamUb, GammaLb, GammaUb, MuUb, Linear, NuBal, NuFlow}
use Rattle.kkt_index.specs.Index.{Shape, shape_of, width, blocks, rank, rows_at, linear_start, linear_row_count}
use Rattle.kkt_index.specs.Index.Shape.{free, upper_only, lower_only, two_sided, equality}
use Rattle.kkt_index.proofs.Blocks.{block_of_rank, rank_below}
use Rattle.parameter_column.specs.declared.Served.{Served}
use Rattle.parameter_column.specs.declared.Served.TheVariants as served
use Rattle.parameter_column.specs.Columns.{Touch, touched, valued, limit_marks, elements}
use Rattle.books.specs.Forms.{Form, plain}
use Rattle.books_residual.specs.Rates.{rate, Rate, form_of}
use Rattle.books_residual.specs.Rates.Rate.{still, same}
use Rattle.books_residual.specs.Columns.{direction}
use Rattle.books_residual.proofs.Places.{placed, Held}
use Rattle.books_residual.proofs.Rows.{RowAt}
use Rattle.books_residual.proofs.Still.{listed, names, stands, fields_of, row_names}
use Rattle.books_residual.proofs.Setting.{Given, R, S, site, worth, changes, Claim}

-- ---- what moves

abbrev pub moved : Served → List Field
moved served.Demand = Demand ∷ []
moved served.CostQuadratic = Cq ∷ []
moved served.CostLinear = Cl ∷ []
moved served.LineLimit = Fmax ∷ []
moved served.BranchSusceptance = FlowOffset ∷ Susceptance ∷ []
moved served.Switching = Sw ∷ []
moved served.ConstraintLimit = UpperMw ∷ LowerMw ∷ []

none_of : (a b : Bool) (x y : Rate) → (a || false) ≡ false → cond (a && b) x y ≡ y
none_of true b x y h = absurd (subst T h tt)
none_of false b x y h = refl

none_of_two : (a d b e : Bool) (x y o : Rate) → (a || (d || false)) ≡ false → cond (a && b) x (cond (d && e) y o) ≡ o
none_of_two true d b e x y o h = absurd (subst T h tt)
none_of_two false true b e x y o h = absurd (subst T h tt)
none_of_two false false b e x y o h = refl

-- another field stands still
others_still : (k : Served) (i : ℕ) (f : Field) (j : ℕ) → listed (network.rank f) (moved k) ≡ false → direction k i f j ≡ still
others_still served.Demand i f j h = none_of (eqb (network.rank f) 14) (eqb j i) same still h
others_still served.CostQuadratic i f j h = none_of (eqb (network.rank f) 10) (eqb j i) same still h
others_still served.CostLinear i f j h = none_of (eqb (network.rank f) 11) (eqb j i) same still h
others_still served.LineLimit i f j h = none_of (eqb (network.rank f) 5) (eqb j i) same still h
others_still served.BranchSusceptance i f j h = none_of_two (eqb (network.rank f) 4) (eqb (network.rank f) 1) (eqb j i) (eqb j i) _ _ still h
others_still served.Switching i f j h = none_of (eqb (network.rank f) 2) (eqb j i) same still h
others_still served.ConstraintLimit i f j h = none_of_two (eqb (network.rank f) 19) (eqb (network.rank f) 20) (eqb j i) (eqb j i) _ _ still h

abbrev pub apart : List Field → List Field → Bool
apart [] G = true
apart (f ∷ F) G = not (listed (network.rank f) G) && apart F G

apart_at : (F G : List Field) (n : ℕ) → apart F G ≡ true → listed n F ≡ true → listed n G ≡ false
apart_at [] G n e h = absurd (subst T (sym h) tt)
apart_at (f ∷ F) G n e h = go (eqb n (network.rank f)) refl h (apart_at F G n (and_right (not (listed (network.rank f) G)) (apart F G) e))
  where
    go : (b : Bool) → eqb n (network.rank f) ≡ b → (b || listed n F) ≡ true → (listed n F ≡ true → listed n G ≡ false) → listed n G ≡ false
    go true q h ih = ap (λ (m : ℕ). listed m G) (eqb-true _ _ q) ∙ not-true (listed (network.rank f) G) (and_left (not (listed (network.rank f) G)) (apart F G) e)
    go false q h ih = ih h

-- a formula that names no field that moves
pub steady : (k : Served) (i : ℕ) (F : List Field) (x : Form) → apart F (moved k) ≡ true → names F x ≡ true → rate (direction k i) x ≡ still
steady k i F x e n = stands F (direction k i) (λ g t h. others_still k i g t (apart_at F (moved k) (network.rank g) e h)) x n

-- ---- in which blocks

abbrev pub among : ℕ → List Block → Bool
among n [] = false
among n (b ∷ bs) = eqb (rank b) n || among n bs

abbrev pub special : Served → List Block
special served.Demand = NuBal ∷ MuUb ∷ []
special served.CostQuadratic = Pg ∷ []
special served.CostLinear = Pg ∷ []
special served.LineLimit = LamLb ∷ LamUb ∷ []
special served.BranchSusceptance = Va ∷ NuBal ∷ NuFlow ∷ []
special served.Switching = Va ∷ NuBal ∷ NuFlow ∷ GammaLb ∷ GammaUb ∷ []
special served.ConstraintLimit = Linear ∷ []

-- a block's rows name a field that moves only where the block is special
abbrev fair : Served → ℕ → Bool
fair k n = among n (special k) || apart (fields_of (get_or blocks n Va)) (moved k)

all_fair : (k : Served) → every (fair k) 18 ≡ true
unfolding every
all_fair served.Demand = refl
all_fair served.CostQuadratic = refl
all_fair served.CostLinear = refl
all_fair served.LineLimit = refl
all_fair served.BranchSusceptance = refl
all_fair served.Switching = refl
all_fair served.ConstraintLimit = refl

not_special : (k : Served) (b : Block) → among (rank b) (special k) ≡ false → apart (fields_of b) (moved k) ≡ true
not_special k b h =
    let q = every_at (fair k) 18 (all_fair k) (rank b) (rank_below b) in
    ap (λ (x : Block). apart (fields_of x) (moved k)) (sym (block_of_rank b)) ∙ rw h at q

-- ---- the port's touches

abbrev Each : {A : Type 0} → (A → Type 0) → List A → Type 0
Each P [] = Unit {0}
Each P (x ∷ xs) = P x × Each P xs

all_of : {A : Type 0} {P : A → Type 0} (l : List A) → Each P l → All P l
all_of [] h = done
all_of (x ∷ xs) h = h.0 & all_of xs h.1

untouched : (bs : List Block) (b : Block) (j : ℕ) (x : Float) {ts : List Touch} → among (rank b) bs ≡ false → All (λ (t : Touch). T (among (rank t.block) bs)) ts → placed ts (b, j) x ≡ x
unfolding placed
untouched bs b j x h done = refl
untouched bs b j x h (◌&◌ {x = t} {xs = ts} k ks) = go (eqb (rank t.block) (rank b)) refl (untouched bs b j x h ks)
  where
    go : (a : Bool) → eqb (rank t.block) (rank b) ≡ a → placed ts (b, j) x ≡ x → placed ts (b, j) (cond (a && eqb t.index j) (touched t.how x t.value) x) ≡ x
    go true q ih = absurd (subst T h (subst (λ (n : ℕ). T (among n bs)) (eqb-true _ _ q) k))
    go false q ih = ih

module _ (z : Given) where
  limit_special : (f : Shape) (q : ℕ) → All (λ (t : Touch). T (among (rank t.block) (Linear ∷ [])))
      (valued (R z) (S z) (limit_marks z.counts z.wiring z.indexes z.coefficients (pieces z.counts z.wiring) z.readings z.sheet f q))
  unfolding valued
  limit_special free q = done
  limit_special upper_only q = all_of _ (tt, tt)
  limit_special lower_only q = all_of _ (tt, tt)
  limit_special two_sided q = all_of _ (tt, (tt, tt))
  limit_special equality q = all_of _ (tt, tt)

  touches_special : (k : Served) (i : ℕ) → All (λ (t : Touch). T (among (rank t.block) (special k))) (changes z k i)
  unfolding valued
  touches_special served.Demand i = all_of _ (tt, (tt, tt))
  touches_special served.CostQuadratic i = all_of _ (tt, tt)
  touches_special served.CostLinear i = all_of _ (tt, tt)
  touches_special served.LineLimit i = all_of _ (tt, (tt, tt))
  touches_special served.BranchSusceptance i = all_of _ (tt, (tt, (tt, (tt, (tt, tt)))))
  touches_special served.Switching i = all_of _ (tt, (tt, (tt, (tt, (tt, (tt, (tt, tt)))))))
  touches_special served.ConstraintLimit i = limit_special (shape_of (row_limits z.counts z.wiring z.readings i)) i

  -- each touch is at a place of its block
  abbrev pub Kept : Touch → Type 0
  Kept t = Held z.counts (pieces z.counts z.wiring) (linear_row_count z.counts z.wiring z.readings) t.block t.index

  limit_held : (f : Shape) (q : ℕ) → linear_start z.counts z.wiring z.readings q + width f ≤ linear_row_count z.counts z.wiring z.readings
      → All Kept (valued (R z) (S z) (limit_marks z.counts z.wiring z.indexes z.coefficients (pieces z.counts z.wiring) z.readings z.sheet f q))
  unfolding valued
  limit_held free q m = done
  limit_held upper_only q m = all_of _ (omega arith, tt)
  limit_held lower_only q m = all_of _ (omega arith, tt)
  limit_held two_sided q m = all_of _ (omega arith, (omega arith, tt))
  limit_held equality q m = all_of _ (omega arith, tt)

  pub held : (k : Served) (i : ℕ) → i < elements z.counts k → All Kept (changes z k i)
  unfolding valued linear_start
  held served.Demand i l = all_of _ (l, (l, tt))
  held served.CostQuadratic i l = all_of _ (l, tt)
  held served.CostLinear i l = all_of _ (l, tt)
  held served.LineLimit i l = all_of _ (l, (l, tt))
  held served.BranchSusceptance i l =
      let f = z.wired.froms i l in
      let t = z.wired.tos i l in
      all_of _ (f, (t, (l, (f, (t, tt)))))
  held served.Switching i l =
      let f = z.wired.froms i l in
      let t = z.wired.tos i l in
      all_of _ (f, (t, (l, (f, (t, (l, (l, tt)))))))
  held served.ConstraintLimit i l =
      limit_held (shape_of (row_limits z.counts z.wiring z.readings i)) i (before_within (rows_at z.counts z.wiring z.readings) i z.counts.rows l)

  -- ---- a row of a block that is not special

  pub quiet : (k : Served) (i : ℕ) (b : Block) (j : ℕ) (f : Form) → among (rank b) (special k) ≡ false → RowAt (site z) b j f → Claim z k i b j f
  quiet k i b j f h row =
      ap plain
      (untouched (special k) b j _ h (touches_special k i)
      ∙ sym (ap (λ (x : Rate). worth z (form_of x))
      (steady k i (fields_of b) f (not_special k b h) (row_names (site z) b j f row))))
