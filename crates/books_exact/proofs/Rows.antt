-- The residual's rows, one by one: what holds of each variable's row, and of each constraint's, holds of all.
-- Main definitions: `Meets`, `Agreement`. Main result: `all_rows`. Assumes nothing.
use mathlib.Core.Path.{◌≡◌, refl, sym, ap, ◌∙◌}
use mathlib.Core.Bool.{Bool, true, false, cond}
use mathlib.Core.List.{[], ◌∷◌}
use mathlib.Mathlib.Algebra.Ring.Defs.{CommRing}
use Prim.Native.Nat.{ℕ, zero, suc, ◌+◌ as ◌plus◌, ◌<◌}
use native.Mathlib.Nat.{add-zero as plus-zero}
use native.Mathlib.Omega.{arith}
use lib.Dec.{eqb, lit<}
use Rattle.sequence.specs.Facts.{All}
use Rattle.sequence.specs.Facts.All.{done, ◌&◌}
use Rattle.sequence.proofs.Facts.{all_append, all_each}
use Rattle.network.specs.Layout.{segments_at, segment_start}
use Rattle.solution.specs.Sheet.{piece_rank}
use Rattle.kkt_index.specs.declared.Block.TheVariants.{Va, Pg, Flow, Psh, Cost, LamLb, LamUb, GammaLb, GammaUb, RhoLb, RhoUb, MuLb, MuUb, Segments, Linear, NuBal, NuFlow, Eta}
use Rattle.kkt_index.specs.Index.{Shape, rank, width}
use Rattle.kkt_index.specs.Index.Shape.{free, upper_only, lower_only, two_sided, equality}
use Rattle.exact.specs.Ring.{sum}
use Rattle.books.specs.Forms.{Place, Form, none, unit}
use Rattle.books.specs.Forms.Form.{var, ◌⊖◌}
use Rattle.books.specs.Convex.{Constraint}
use Rattle.books.specs.Manual.{Site, constraints, balance, flow_law, reference, flow_floor, flow_ceiling, generator_floor, generator_ceiling, shed_none, shed_floor, shed_spare, shed_ceiling, shed_lower, shed_upper, angle_floor, angle_ceiling, segment, row_ceiling, row_floor, row_level, row_start}
use Rattle.books_residual.specs.Residual.{Row, residual, row_of as residualRow, sum_to, angle_row, dispatch_row, flow_row, shed_row, cost_row, balance_row, flow_law_row, reference_row, level_row, linear_row_count}
use Rattle.books_exact.proofs.Families.{side, Own}
use Rattle.books_exact.proofs.Multipliers.{at_balance, at_flow_law, at_reference, at_flow_floor, at_flow_ceiling, at_generator_floor, at_generator_ceiling, at_shed_lower, at_shed_upper, at_angle_floor, at_angle_ceiling, at_segment, at_row}

pub above_none_lem : (n : ℕ) → eqb n 0 ≡ false → 0 < n
above_none_lem zero e = let z : ◌≡◌ {A = ℕ} 0 1 = cc in omega arith
above_none_lem (suc n) e = omega arith

-- E of a formula, G at a place, F of a constraint
module _ {A : Type 0} (𝓡 : CommRing A) (s : Site) (E : Form → A) (G : Place → A) (F : Constraint → A) where
  -- E of a row is G at its place
  abbrev pub Meets : Row → Type 0
  Meets x = E x.1 ≡ G x.0

  -- E of a constraint's row is F of it
  abbrev pub Agrees : Constraint → Form → Type 0
  Agrees c h = E (residualRow c h).1 ≡ F c

  pub record Agreement : Type 0 where
    -- at a multiplier, G is F of its constraint
    pub own : (a : Place) → 4 < rank a.0 → G a ≡ sum 𝓡 (Own 𝓡 s F a) (constraints s)
    -- the variables' rows
    pub angles : (j : ℕ) → j < s.counts.buses → E (angle_row s j) ≡ G (Va, j)
    pub dispatches : (j : ℕ) → j < s.counts.generators → E (dispatch_row s j) ≡ G (Pg, j)
    pub flows : (e : ℕ) → e < s.counts.branches → E (flow_row s e) ≡ G (Flow, e)
    pub sheds : (i : ℕ) → i < s.counts.buses → E (shed_row s i) ≡ G (Psh, i)
    pub costs : (j : ℕ) → j < s.counts.generators → 0 < segments_at s.counts s.wiring j
        → E (unit ⊖ sum_to (λ t. var (Segments, segment_start s.counts s.wiring j plus t)) (segments_at s.counts s.wiring j)) ≡ G (Cost, piece_rank s.counts s.wiring j)
    -- the inequalities' rows
    pub flow_floors : (e : ℕ) → Agrees (flow_floor s e) none
    pub flow_ceilings : (e : ℕ) → Agrees (flow_ceiling s e) none
    pub angle_floors : (e : ℕ) → Agrees (angle_floor s e) none
    pub angle_ceilings : (e : ℕ) → Agrees (angle_ceiling s e) none
    pub generator_floors : (j : ℕ) → Agrees (generator_floor s j) none
    pub generator_ceilings : (j : ℕ) → Agrees (generator_ceiling s j) none
    pub shed_lowers : (b : Bool) (i : ℕ) → Agrees (cond b (shed_none s i) (shed_floor s i)) (var (Psh, i))
    pub shed_uppers : (b : Bool) (i : ℕ) → Agrees (cond b (shed_spare s i) (shed_ceiling s i)) none
    pub segment_rows : (j t : ℕ) → Agrees (segment s j t) none
    pub row_ceilings : (q x : ℕ) → Agrees (row_ceiling s q x) none
    pub row_floors : (q x : ℕ) → Agrees (row_floor s q x) none
    -- the equalities' rows
    pub row_levels : (q x : ℕ) → E (level_row s q) ≡ F (row_level s q x)
    pub balances : (i : ℕ) → E (balance_row s i) ≡ F (balance s i)
    pub flow_laws : (e : ℕ) → E (flow_law_row s e) ≡ F (flow_law s e)
    pub references : (k : ℕ) → E (reference_row s k) ≡ F (reference s k)

  module _ (g : Agreement) where
    -- a generator with no segment has no cost variable
    cost_rows : (j : ℕ) → j < s.counts.generators → All Meets (cost_row s j)
    cost_rows j l = go (eqb (segments_at s.counts s.wiring j) 0) refl
      where
        go : (b : Bool) → eqb (segments_at s.counts s.wiring j) 0 ≡ b
            → All Meets
            (cond b []
            (((Cost, piece_rank s.counts s.wiring j), unit ⊖ sum_to (λ t. var (Segments, segment_start s.counts s.wiring j plus t)) (segments_at s.counts s.wiring j)) ∷ []))
        go true e = done
        go false e = g.costs j l (above_none_lem _ e) & done

    -- the multiplier of a bus's lower and upper constraint is the same, whether the bus is fixed or not
    lower_place : (b : Bool) (i : ℕ) → (cond b (shed_none s i) (shed_floor s i)).multiplier ≡ (MuLb, i)
    lower_place true i = refl
    lower_place false i = refl

    upper_place : (b : Bool) (i : ℕ) → (cond b (shed_spare s i) (shed_ceiling s i)).multiplier ≡ (MuUb, i)
    upper_place true i = refl
    upper_place false i = refl

    lower_at_lem : (i : ℕ) → i < s.counts.buses → G (shed_lower s i).multiplier ≡ F (shed_lower s i)
    lower_at_lem i l = ap G (lower_place (s.fixed i) i) ∙ g.own (MuLb, i) (lit< tt) ∙ at_shed_lower 𝓡 s F i l

    upper_at_lem : (i : ℕ) → i < s.counts.buses → G (shed_upper s i).multiplier ≡ F (shed_upper s i)
    upper_at_lem i l = ap G (upper_place (s.fixed i) i) ∙ g.own (MuUb, i) (lit< tt) ∙ at_shed_upper 𝓡 s F i l

    linear_at : (q t : ℕ) → q < s.counts.rows → t < width (s.shapes q) → G (Linear, row_start s q plus t) ≡ F (side s (s.shapes q) q (row_start s q) t)
    linear_at q t l m = g.own (Linear, row_start s q plus t) (lit< tt) ∙ at_row 𝓡 s F q t l m

    linear_rows : (k : Shape) (q x : ℕ) → ((t : ℕ) → t < width k → G (Linear, x plus t) ≡ F (side s k q x t)) → All Meets (linear_row_count s k q x)
    linear_rows free q x f = done
    linear_rows upper_only q x f = (g.row_ceilings q x ∙ sym (rw plus-zero at (f 0 (lit< tt)))) & done
    linear_rows lower_only q x f = (g.row_floors q x ∙ sym (rw plus-zero at (f 0 (lit< tt)))) & done
    linear_rows two_sided q x f = (g.row_ceilings q x ∙ sym (rw plus-zero at (f 0 (lit< tt)))) & (g.row_floors q (x plus 1) ∙ sym (f 1 (lit< tt))) & done
    linear_rows equality q x f = (g.row_levels q x ∙ sym (rw plus-zero at (f 0 (lit< tt)))) & done

    pub all_rows : All Meets (residual s)
    unfolding residual
    all_rows =
        all_append (all_each _ (λ j l. g.angles j l & done))
        (all_append (all_each _ (λ j l. g.dispatches j l & done))
        (all_append (all_each _ (λ e l. g.flows e l & done))
        (all_append (all_each _ (λ i l. g.sheds i l & done))
        (all_append (all_each _ cost_rows)
        (all_append (all_each _ (λ e l. (g.flow_floors e ∙ sym (g.own (LamLb, e) (lit< tt) ∙ at_flow_floor 𝓡 s F e l)) & done))
        (all_append (all_each _ (λ e l. (g.flow_ceilings e ∙ sym (g.own (LamUb, e) (lit< tt) ∙ at_flow_ceiling 𝓡 s F e l)) & done))
        (all_append (all_each _ (λ e l. (g.angle_floors e ∙ sym (g.own (GammaLb, e) (lit< tt) ∙ at_angle_floor 𝓡 s F e l)) & done))
        (all_append (all_each _ (λ e l. (g.angle_ceilings e ∙ sym (g.own (GammaUb, e) (lit< tt) ∙ at_angle_ceiling 𝓡 s F e l)) & done))
        (all_append (all_each _ (λ j l. (g.generator_floors j ∙ sym (g.own (RhoLb, j) (lit< tt) ∙ at_generator_floor 𝓡 s F j l)) & done))
        (all_append (all_each _ (λ j l. (g.generator_ceilings j ∙ sym (g.own (RhoUb, j) (lit< tt) ∙ at_generator_ceiling 𝓡 s F j l)) & done))
        (all_append (all_each _ (λ i l. (g.shed_lowers (s.fixed i) i ∙ sym (lower_at_lem i l)) & done))
        (all_append (all_each _ (λ i l. (g.shed_uppers (s.fixed i) i ∙ sym (upper_at_lem i l)) & done))
        (all_append (all_each _ (λ j l. all_each _ (λ t m. (g.segment_rows j t ∙ sym (g.own (Segments, segment_start s.counts s.wiring j plus t) (lit< tt) ∙ at_segment 𝓡 s F j t l m)) & done)))
        (all_append (all_each _ (λ q l. linear_rows (s.shapes q) q (row_start s q) (λ t m. linear_at q t l m)))
        (all_append (all_each _ (λ i l. (g.balances i ∙ sym (g.own (NuBal, i) (lit< tt) ∙ at_balance 𝓡 s F i l)) & done))
        (all_append (all_each _ (λ e l. (g.flow_laws e ∙ sym (g.own (NuFlow, e) (lit< tt) ∙ at_flow_law 𝓡 s F e l)) & done))
        (all_each _ (λ k l. (g.references k ∙ sym (g.own (Eta, k) (lit< tt) ∙ at_reference 𝓡 s F k l)) & done))))))))))))))))))
