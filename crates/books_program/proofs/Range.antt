-- Every entry of A stands in a row and a column of the layout.
-- Main result: `entries_inside`. Assumes nothing.
use mathlib.Core.Path.{◌≡◌, refl}
use mathlib.Core.Bool.{Bool, true, false}
use mathlib.Core.List.{List}
use Prim.Native.Nat.{ℕ, ◌<◌}
use native.Mathlib.Omega.{arith}
use lib.Ieee.{Float}
use Rattle.sequence.specs.Lists.{when}
use Rattle.sequence.specs.Facts.{All}
use Rattle.sequence.specs.Facts.All.{done, ◌&◌}
use Rattle.sequence.proofs.Facts.{all_append, all_each}
use Rattle.network.specs.declared.Counts.{Counts}
use Rattle.network.specs.declared.Part.TheVariants.{GeneratorFlags, ThermalFlags, AngleFlags, FlowTerms, GenerationTerms}
use Rattle.network.specs.Layout.{wire, segments_at}
use Rattle.network.specs.Numbers.{Wired, Termed}
use Rattle.model.specs.declared.RowLimits.{RowLimits}
use Rattle.model.specs.declared.RowLimits.TheVariants.{None, Upper, Lower, Both, Equal}
use Rattle.model.specs.Rows.{row_limits}
use Rattle.kkt_index.proofs.Segments.{segment_inside}
use Rattle.snapping.specs.Expr.{Expr}
use Rattle.opf_layout.specs.declared.OpfRow.{OpfRow}
use Rattle.opf_layout.specs.declared.OpfRow.TheVariants.{LinearEqual, LinearLimit}
use Rattle.opf_layout.specs.Layout.{flagged, sheds, active_of, row_size}
use Rattle.opf_layout.proofs.Ranks.{rank_below, equality_below, inequality_below}
use Rattle.opf_assembly.specs.Assembly.{Coefficient, shed_entry, generator_entry, branch_own, branch_entries, reference_entry, capability_entries, shed_bounds, segment_entries, written_row, linear_entries, a_entries}
use Rattle.books_program.proofs.Entries.{Inside}

-- where the test holds
pub all_where : {A : Type 0} {P : A → Type 0} (b : Bool) {l : List A} → (b ≡ true → All P l) → All P (when b l)
unfolding when
all_where true h = h refl
all_where false h = done

module _ (c : Counts) (w : List ℕ) (r : List Float) (ti : List ℕ) (tc : List Float) (h : Wired c w) (m : Termed c w ti tc) where
  abbrev In : Coefficient → Type 0
  In x = Inside c (active_of c w r) x

  shed_in : (i : ℕ) → i < c.buses → All In (shed_entry c w r i)
  unfolding active_of
  shed_in i l = all_where (sheds c w r i) (λ e. (l, rank_below (sheds c w r) i c.buses e l) & done)

  bounds_in : (i : ℕ) → i < c.buses → All In (shed_bounds c w r i)
  unfolding active_of
  bounds_in i l =
      all_where (sheds c w r i) (λ e. let k = rank_below (sheds c w r) i c.buses e l in (k, k) & (k, k) & done)

  generator_in : (j : ℕ) → j < c.generators → All In (generator_entry c w r j)
  generator_in j l = (h.gen_buses j l, l) & done

  own_in : (e : ℕ) → e < c.branches → All In (branch_own c w r e)
  own_in e l =
      let f = h.froms e l in
      let t = h.tos e l in
      (f, f) & (t, t) & (f, t) & (t, f) & (l, l) & (l, f) & (l, t) & done

  branch_in : (e : ℕ) → e < c.branches → All In (branch_entries c w r e)
  unfolding active_of
  branch_in e l =
      let f = h.froms e l in
      let t = h.tos e l in
      all_append (own_in e l)
      (all_append
      (all_where (flagged c w ThermalFlags e) (λ q. let k = rank_below (flagged c w ThermalFlags) e c.branches q l in (k, l) & (k, l) & done))
      (all_where (flagged c w AngleFlags e) (λ q. let k = rank_below (flagged c w AngleFlags) e c.branches q l in (k, f) & (k, t) & (k, f) & (k, t) & done)))

  reference_in : (k : ℕ) → k < c.references → All In (reference_entry c w r k)
  reference_in k l = (l, h.references k l) & done

  capability_in : (j : ℕ) → j < c.generators → All In (capability_entries c w r j)
  unfolding active_of
  capability_in j l =
      all_where (flagged c w GeneratorFlags j) (λ q. let k = rank_below (flagged c w GeneratorFlags) j c.generators q l in (k, l) & (k, l) & done)

  segment_in : (j : ℕ) → j < c.generators → All In (segment_entries c w r j)
  unfolding active_of
  segment_in j l = all_each (segments_at c w j) (λ t k. let s = segment_inside h j t l k in (s.0, l) & (s.0, s.1) & done)

  written_in : (a : OpfRow) (x : ℕ) (sign : Expr) (q : ℕ) → q < c.rows → x < row_size c (active_of c w r) a → All In (written_row c w r ti tc a x sign q)
  written_in a x sign q l k =
      all_append
      (all_each (wire c w FlowTerms q) (λ t n. (k, m.flow_terms q t l n) & done))
      (all_each (wire c w GenerationTerms q) (λ t n. (k, m.generation_terms q t l n) & done))

  linear_in : (q : ℕ) → q < c.rows → (k : RowLimits) → row_limits c w r q ≡ k → All In (linear_entries c w r ti tc k q)
  unfolding active_of
  linear_in q l None e = done
  linear_in q l (Upper u) e = written_in LinearLimit _ _ q l (omega (arith, inequality_below c w r q c.rows 0 l (rw e (omega arith))))
  linear_in q l (Lower u) e = written_in LinearLimit _ _ q l (omega (arith, inequality_below c w r q c.rows 0 l (rw e (omega arith))))
  linear_in q l (Both u v) e =
      all_append
      (written_in LinearLimit _ _ q l (omega (arith, inequality_below c w r q c.rows 0 l (rw e (omega arith)))))
      (written_in LinearLimit _ _ q l (inequality_below c w r q c.rows 1 l (rw e (omega arith))))
  linear_in q l (Equal u) e = written_in LinearEqual _ _ q l (omega (arith, equality_below c w r q c.rows 0 l (rw e (omega arith))))

  pub entries_inside : All In (a_entries c w r ti tc)
  unfolding a_entries
  entries_inside =
      all_append (all_each c.buses shed_in)
      (all_append (all_each c.generators generator_in)
      (all_append (all_each c.branches branch_in)
      (all_append (all_each c.references reference_in)
      (all_append (all_each c.generators capability_in)
      (all_append (all_each c.buses bounds_in)
      (all_append (all_each c.generators segment_in)
      (all_each c.rows (λ q l. linear_in q l (row_limits c w r q) refl))))))))
