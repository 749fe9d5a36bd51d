-- The residual's rows, block by block: at which index, and which formula. Main results: `RowAt`, `rows_are`. Assumes nothing.
use mathlib.Core.Path.{◌≡◌, refl}
use mathlib.Core.Bool.{Bool, true, false, cond}
use mathlib.Core.Logic.{◌⊎◌, inl, inr}
use mathlib.Core.List.{[], ◌∷◌}
use Prim.Native.Nat.{ℕ, ◌+◌, ◌≤◌, ◌<◌}
use native.Mathlib.Omega.{arith}
use lib.Dec.{eqb}
use Rattle.sequence.proofs.Lists.{before_within}
use Rattle.sequence.specs.Facts.{All}
use Rattle.sequence.specs.Facts.All.{done, ◌&◌}
use Rattle.sequence.proofs.Facts.{all_append, all_each}
use Rattle.network.specs.Layout.{segments_at, segment_start}
use Rattle.network.specs.Numbers.{Wired}
use Rattle.model.proofs.Runs.{segments_inside}
use Rattle.solution.specs.Sheet.{piece, piece_rank, pieces}
use Rattle.kkt_index.specs.declared.Block.{Block}
use Rattle.kkt_index.specs.declared.Block.TheVariants.{Va, Pg, Flow, Psh, Cost, LamLb, LamUb, GammaLb, GammaUb, RhoLb, RhoUb, MuLb, MuUb, Segments, Linear, NuBal, NuFlow, Eta}
use Rattle.kkt_index.specs.Index.{Shape, width, size}
use Rattle.kkt_index.specs.Index.Shape.{free, upper_only, lower_only, two_sided, equality}
use Rattle.books.specs.Forms.{Place, Form, none, unit}
use Rattle.books.specs.Forms.Form.{var, ◌⊖◌}
use Rattle.books.specs.Manual.{Site, row_start, flow_floor, flow_ceiling, angle_floor, angle_ceiling, generator_floor, generator_ceiling, shed_none, shed_floor, shed_spare, shed_ceiling, segment, row_ceiling, row_floor}
use Rattle.books_residual.specs.Residual.{Row, sum_to, row_of, angle_row, dispatch_row, flow_row, shed_row, cost_row, balance_row, flow_law_row, reference_row, level_row, linear_row_count, residual}

module _ (s : Site) where
  -- the place is one of the unknowns'
  abbrev pub Held : Place → Type 0
  Held a = a.1 < size s.counts (pieces s.counts s.wiring) (row_start s s.counts.rows) a.0

  -- a linear row's own rows, from index a on
  abbrev pub LinearAt : Shape → ℕ → ℕ → ℕ → Form → Type 0
  LinearAt free q a x f = ⊥
  LinearAt upper_only q a x f = (x ≡ a) × (f ≡ (row_of (row_ceiling s q a) none).1)
  LinearAt lower_only q a x f = (x ≡ a) × (f ≡ (row_of (row_floor s q a) none).1)
  LinearAt two_sided q a x f = ((x ≡ a) × (f ≡ (row_of (row_ceiling s q a) none).1)) ⊎ ((x ≡ a + 1) × (f ≡ (row_of (row_floor s q (a + 1)) none).1))
  LinearAt equality q a x f = (x ≡ a) × (f ≡ level_row s q)

  -- 1 less the multipliers of a generator's segments
  abbrev pub cost_form : ℕ → Form
  cost_form j = unit ⊖ sum_to (λ t. var (Segments, segment_start s.counts s.wiring j + t)) (segments_at s.counts s.wiring j)

  abbrev pub RowAt : Block → ℕ → Form → Type 0
  RowAt Va j f = f ≡ angle_row s j
  RowAt Pg j f = f ≡ dispatch_row s j
  RowAt Flow e f = f ≡ flow_row s e
  RowAt Psh i f = f ≡ shed_row s i
  RowAt Cost x f = (j : ℕ) × (f ≡ cost_form j)
  RowAt LamLb e f = f ≡ (row_of (flow_floor s e) none).1
  RowAt LamUb e f = f ≡ (row_of (flow_ceiling s e) none).1
  RowAt GammaLb e f = f ≡ (row_of (angle_floor s e) none).1
  RowAt GammaUb e f = f ≡ (row_of (angle_ceiling s e) none).1
  RowAt RhoLb j f = f ≡ (row_of (generator_floor s j) none).1
  RowAt RhoUb j f = f ≡ (row_of (generator_ceiling s j) none).1
  RowAt MuLb i f = (b : Bool) × (f ≡ (row_of (cond b (shed_none s i) (shed_floor s i)) (var (Psh, i))).1)
  RowAt MuUb i f = (b : Bool) × ((s.fixed i ≡ b) × (f ≡ (row_of (cond b (shed_spare s i) (shed_ceiling s i)) none).1))
  RowAt Segments x f = (j : ℕ) × ((t : ℕ) × (f ≡ (row_of (segment s j t) none).1))
  RowAt Linear x f = (q : ℕ) × ((q < s.counts.rows) × LinearAt (s.shapes q) q (row_start s q) x f)
  RowAt NuBal i f = f ≡ balance_row s i
  RowAt NuFlow e f = f ≡ flow_law_row s e
  RowAt Eta k f = f ≡ reference_row s k

  abbrev pub Found : Row → Type 0
  Found x = Held x.0 × RowAt x.0.0 x.0.1 x.1

  sole : (x : Row) → Found x → All Found (x ∷ [])
  sole x h = h & done

  pair : (x y : Row) → Found x → Found y → All Found (x ∷ y ∷ [])
  pair x y h k = h & k & done

  module _ (h : Wired s.counts s.wiring) where
    cost_are : (j : ℕ) → j < s.counts.generators → All Found (cost_row s j)
    unfolding piece_rank
    cost_are j l = go (eqb (segments_at s.counts s.wiring j) 0) refl
      where
        go : (b : Bool) → eqb (segments_at s.counts s.wiring j) 0 ≡ b → All Found (cond b [] (((Cost, piece_rank s.counts s.wiring j), cost_form j) ∷ []))
        go true e = done
        go false e =
            let one : piece s.counts s.wiring j ≡ 1 = rw e in
            let m : piece_rank s.counts s.wiring j < pieces s.counts s.wiring = omega (arith, before_within (piece s.counts s.wiring) j s.counts.generators l) in
            sole _ (m, (j, refl))

    lower_are : (i : ℕ) → i < s.counts.buses → (b : Bool) → Found (row_of (cond b (shed_none s i) (shed_floor s i)) (var (Psh, i)))
    lower_are i l true = (l, (true, refl))
    lower_are i l false = (l, (false, refl))

    upper_are : (i : ℕ) → i < s.counts.buses → (b : Bool) → s.fixed i ≡ b → Found (row_of (cond b (shed_spare s i) (shed_ceiling s i)) none)
    upper_are i l true e = (l, (true, (e, refl)))
    upper_are i l false e = (l, (false, (e, refl)))

    segment_in : (j t : ℕ) → j < s.counts.generators → t < segments_at s.counts s.wiring j → segment_start s.counts s.wiring j + t < s.counts.segments
    segment_in j t l m = omega (arith, segments_inside h j l)

    linear_are : (q : ℕ) → q < s.counts.rows → (f : Shape) → s.shapes q ≡ f → All Found (linear_row_count s f q (row_start s q))
    linear_are q l f e = go f e (rw e at (before_within (λ i. width (s.shapes i)) q s.counts.rows l))
      where
        first : {n : ℕ} → row_start s q + n ≤ row_start s s.counts.rows → 0 < n → row_start s q < row_start s s.counts.rows
        first m k = omega arith

        second : row_start s q + 2 ≤ row_start s s.counts.rows → row_start s q + 1 < row_start s s.counts.rows
        second m = omega arith

        go : (f : Shape) → s.shapes q ≡ f → row_start s q + width f ≤ row_start s s.counts.rows → All Found (linear_row_count s f q (row_start s q))
        go free e m = done
        go upper_only e m = sole _ (first m (omega arith), (q, (l, rw e (refl, refl))))
        go lower_only e m = sole _ (first m (omega arith), (q, (l, rw e (refl, refl))))
        go two_sided e m = pair _ _ (first m (omega arith), (q, (l, rw e (inl (refl, refl))))) (second m, (q, (l, rw e (inr (refl, refl)))))
        go equality e m = sole _ (first m (omega arith), (q, (l, rw e (refl, refl))))

    pub rows_are : All Found (residual s)
    unfolding residual
    rows_are =
        all_append (all_each _ (λ j l. sole _ (l, refl)))
        (all_append (all_each _ (λ j l. sole _ (l, refl)))
        (all_append (all_each _ (λ e l. sole _ (l, refl)))
        (all_append (all_each _ (λ i l. sole _ (l, refl)))
        (all_append (all_each _ cost_are)
        (all_append (all_each _ (λ e l. sole _ (l, refl)))
        (all_append (all_each _ (λ e l. sole _ (l, refl)))
        (all_append (all_each _ (λ e l. sole _ (l, refl)))
        (all_append (all_each _ (λ e l. sole _ (l, refl)))
        (all_append (all_each _ (λ j l. sole _ (l, refl)))
        (all_append (all_each _ (λ j l. sole _ (l, refl)))
        (all_append (all_each _ (λ i l. sole _ (lower_are i l (s.fixed i))))
        (all_append (all_each _ (λ i l. sole _ (upper_are i l (s.fixed i) refl)))
        (all_append (all_each _ (λ j l. all_each _ (λ t m. sole _ (segment_in j t l m, (j, (t, refl))))))
        (all_append (all_each _ (λ q l. linear_are q l (s.shapes q) refl))
        (all_append (all_each _ (λ i l. sole _ (l, refl)))
        (all_append (all_each _ (λ e l. sole _ (l, refl)))
        (all_each _ (λ k l. sole _ (l, refl)))))))))))))))))))
