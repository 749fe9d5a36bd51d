-- q has a word for each column of the program, and b one for each row.
-- Main results: `column_long`, `row_long`, `q_long`, `b_long`. Assumes nothing.
use mathlib.Core.Path.{◌≡◌, refl, sym, ◌∙◌}
use mathlib.Core.Bool.{Bool, true, false, cond}
use mathlib.Core.List.{List, [], ◌∷◌}
use Prim.Native.Nat.{ℕ, zero, suc}
use native.Mathlib.Omega.{arith}
use lib.Ieee.{Float}
use lib.ListN.{length, get_or}
use Rattle.sequence.specs.Lists.{before, each, when}
use Rattle.sequence.proofs.Lists.{each_long}
use Rattle.network.specs.declared.Counts.{Counts}
use Rattle.network.specs.declared.Part.TheVariants.{Segments, GeneratorFlags, ThermalFlags, AngleFlags}
use Rattle.model.specs.declared.RowLimits.{RowLimits}
use Rattle.model.specs.declared.RowLimits.TheVariants.{None, Upper, Lower, Both, Equal}
use Rattle.model.specs.Rows.{row_limits}
use Rattle.opf_layout.specs.declared.OpfColumn.{OpfColumn}
use Rattle.opf_layout.specs.declared.OpfColumn.TheVariants.{Va, Pg, Flow, Shed, Cost}
use Rattle.opf_layout.specs.declared.OpfRow.{OpfRow}
use Rattle.opf_layout.specs.declared.OpfRow.TheVariants.{Balance, FlowRow, Reference, LineUb, LineLb, GenUb, GenLb, ShedUb, ShedLb, PhaseUb, PhaseLb, Segment, LinearEqual, LinearLimit}
use Rattle.opf_layout.specs.Layout.{active_rank, flagged, sheds, equalities, inequalities, equality_rank, inequality_rank, active_of, columns, column_size, rows, row_size, nvar, ncon}
use Rattle.opf_layout.proofs.Ranks.{piece_rank_lem}
use Rattle.opf_assembly.specs.Assembly.{column_words, q_sheet, equal_side, limit_sides, right_sides, row_words, b_sheet}

pub one_before : (k : ℕ) → before (λ i. 1) k ≡ k
unfolding before
one_before zero = refl
one_before (suc k) = rw (one_before k) (omega arith)

module _ {A : Type 0} where
  -- one word each
  one_long : (f : ℕ → A) (n : ℕ) → length (each n (λ i. f i ∷ [])) ≡ n
  one_long f n = each_long (λ i. f i ∷ []) (λ i. 1) n (λ i h. refl) ∙ one_before n

  pub when_long : (on : Bool) (x : A) → length (when on (x ∷ [])) ≡ cond on 1 0
  unfolding when
  when_long true x = refl
  when_long false x = refl

  -- one word for each that is active
  rank_long : (on : ℕ → Bool) (f : ℕ → A) (n : ℕ) → length (each n (λ i. when (on i) (f i ∷ []))) ≡ active_rank on n
  unfolding active_rank
  rank_long on f n = each_long (λ i. when (on i) (f i ∷ [])) (λ i. cond (on i) 1 0) n (λ i h. when_long (on i) (f i))

module _ (c : Counts) (w : List ℕ) (r : List Float) where
  pub equal_long : (l : RowLimits) → length (equal_side c r l) ≡ equalities l
  equal_long None = refl
  equal_long (Upper u) = refl
  equal_long (Lower l) = refl
  equal_long (Both u l) = refl
  equal_long (Equal l) = refl

  pub limit_long : (l : RowLimits) → length (limit_sides c r l) ≡ inequalities l
  limit_long None = refl
  limit_long (Upper u) = refl
  limit_long (Lower l) = refl
  limit_long (Both u l) = refl
  limit_long (Equal l) = refl

  -- a block of q has a word for each of its columns
  pub column_long : (b : OpfColumn) → length (column_words c w r b) ≡ column_size c (active_of c w r) b
  unfolding active_of
  column_long Va = one_long _ c.buses
  column_long Pg = one_long _ c.generators
  column_long Flow = one_long _ c.branches
  column_long Shed = rank_long (sheds c w r) _ c.buses
  column_long Cost = rank_long (flagged c w Segments) _ c.generators ∙ sym (piece_rank_lem c w c.generators)

  -- a block of b one for each of its rows
  pub row_long : (b : OpfRow) → length (row_words c w r b) ≡ row_size c (active_of c w r) b
  unfolding active_of equality_rank inequality_rank
  row_long Balance = one_long _ c.buses
  row_long FlowRow = one_long _ c.branches
  row_long Reference = one_long _ c.references
  row_long LineUb = rank_long (flagged c w ThermalFlags) _ c.branches
  row_long LineLb = rank_long (flagged c w ThermalFlags) _ c.branches
  row_long GenUb = rank_long (flagged c w GeneratorFlags) _ c.generators
  row_long GenLb = rank_long (flagged c w GeneratorFlags) _ c.generators
  row_long ShedUb = rank_long (sheds c w r) _ c.buses
  row_long ShedLb = rank_long (sheds c w r) _ c.buses
  row_long PhaseUb = rank_long (flagged c w AngleFlags) _ c.branches
  row_long PhaseLb = rank_long (flagged c w AngleFlags) _ c.branches
  row_long Segment = one_long _ c.segments
  row_long LinearEqual = each_long (right_sides c w r LinearEqual) (λ q. equalities (row_limits c w r q)) c.rows (λ q h. equal_long (row_limits c w r q))
  row_long LinearLimit = each_long (right_sides c w r LinearLimit) (λ q. inequalities (row_limits c w r q)) c.rows (λ q h. limit_long (row_limits c w r q))

  pub q_long : length (q_sheet c w r) ≡ nvar c (active_of c w r)
  unfolding q_sheet nvar before
  q_long =
      each_long (λ k. column_words c w r (get_or columns k Va)) (λ k. length (column_words c w r (get_or columns k Va))) 5 (λ k h. refl)
      ∙ omega (arith, column_long Va, column_long Pg, column_long Flow, column_long Shed, column_long Cost)

  pub b_long : length (b_sheet c w r) ≡ ncon c (active_of c w r)
  unfolding b_sheet ncon before
  b_long =
      each_long (λ k. row_words c w r (get_or rows k Balance)) (λ k. length (row_words c w r (get_or rows k Balance))) 14 (λ k h. refl)
      ∙ omega (arith, row_long Balance, row_long FlowRow, row_long Reference, row_long LineUb, row_long LineLb, row_long GenUb, row_long GenLb, row_long ShedUb, row_long ShedLb, row_long PhaseUb, row_long PhaseLb, row_long Segment, row_long LinearEqual, row_long LinearLimit)
