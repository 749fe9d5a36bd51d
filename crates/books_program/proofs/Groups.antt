-- A's entries as groups that name the blocks of rows they write: only the groups that name a row's block count in it.
-- Main results: `in_group`, `in_balance`. Assumes nothing.
use mathlib.Core.Path.{◌≡◌, refl, sym, ap, ◌∙◌, subst}
use mathlib.Core.Bool.{Bool, true, false, ◌&&◌, ◌||◌}
use mathlib.Core.List.{List, [], ◌∷◌, ◌++◌, append-nil}
use Prim.Native.Nat.{ℕ}
use lib.Dec.{T, eqb, eqb→eq}
use lib.Ieee.{Float}
use Rattle.sequence.specs.Lists.{each, when}
use Rattle.sequence.specs.Facts.{All}
use Rattle.sequence.specs.Facts.All.{done, ◌&◌}
use Rattle.sequence.proofs.Facts.{all_append, all_each, all_when}
use Rattle.network.specs.declared.Counts.{Counts}
use Rattle.network.specs.declared.Part.TheVariants.{ThermalFlags, AngleFlags, GeneratorFlags, FlowTerms, GenerationTerms}
use Rattle.network.specs.Layout.{wire, segments_at}
use Rattle.model.specs.declared.RowLimits.{RowLimits}
use Rattle.model.specs.declared.RowLimits.TheVariants.{None, Upper, Lower, Both, Equal}
use Rattle.model.specs.Rows.{row_limits}
use Rattle.snapping.specs.Expr.{Expr}
use Rattle.opf_layout.specs.declared.OpfRow.{OpfRow}
use Rattle.opf_layout.specs.declared.OpfRow.TheVariants.{Balance, FlowRow, Reference, LineUb, LineLb, GenUb, GenLb, ShedUb, ShedLb, PhaseUb, PhaseLb, Segment, LinearEqual, LinearLimit}
use Rattle.opf_layout.specs.Layout.{flagged, sheds, row_rank}
use Rattle.opf_assembly.specs.Assembly.{Coefficient, shed_entry, generator_entry, branch_entries, reference_entry, capability_entries, shed_bounds, segment_entries, written_row, linear_entries, a_entries}
use Rattle.books_program.proofs.Entries.{entry_in_row, row_append, row_each}

pub record Group : Type 0 where
  pub blocks : List OpfRow
  pub body : List Coefficient

abbrev pub group : List OpfRow → List Coefficient → Group
group bs l = record { blocks = bs; body = l }

abbrev has : List OpfRow → ℕ → Bool
has [] n = false
has (b ∷ bs) n = eqb (row_rank b) n || has bs n

unfoldable joined : List Group → List Coefficient
joined [] = []
joined (g ∷ gs) = g.body ++ joined gs

abbrev cons_if : Bool → Group → List Group → List Group
cons_if true g gs = g ∷ gs
cons_if false g gs = gs

abbrev pub keep : ℕ → List Group → List Group
keep n [] = []
keep n (g ∷ gs) = cons_if (has g.blocks n) g (keep n gs)

abbrev Own : List OpfRow → Coefficient → Type 0
Own bs x = T (has bs (row_rank x.row.0))

abbrev Valid : Group → Type 0
Valid g = All (Own g.blocks) g.body

module _ (a : OpfRow) (i : ℕ) where
  miss : (bs : List OpfRow) {l : List Coefficient} → All (Own bs) l → (T (has bs (row_rank a)) → ⊥) → entry_in_row a i l ≡ []
  unfolding entry_in_row when
  miss bs done out = refl
  miss bs (◌&◌ {x = x} {xs = xs} o os) out = go (eqb (row_rank x.row.0) (row_rank a)) (eqb→eq _ _) (miss bs os out)
    where
      go : (s : Bool) → (T s → row_rank x.row.0 ≡ row_rank a) → entry_in_row a i xs ≡ []
          → when (s && eqb x.row.1 i) ((x.col.0, x.col.1, x.what) ∷ []) ++ entry_in_row a i xs ≡ []
      go true f e = absurd (out (subst (λ (n : ℕ). T (has bs n)) (f tt) o))
      go false f e = e

  pick : (gs : List Group) → All Valid gs → entry_in_row a i (joined gs) ≡ entry_in_row a i (joined (keep (row_rank a) gs))
  unfolding joined
  pick [] done = refl
  pick (g ∷ gs) (o & os) =
      row_append a i g.body (joined gs) ∙ go (has g.blocks (row_rank a)) (λ out. miss g.blocks o out) (pick gs os)
    where
      go : (b : Bool) → ((T b → ⊥) → entry_in_row a i g.body ≡ []) → entry_in_row a i (joined gs) ≡ entry_in_row a i (joined (keep (row_rank a) gs))
          → entry_in_row a i g.body ++ entry_in_row a i (joined gs) ≡ entry_in_row a i (joined (cons_if b g (keep (row_rank a) gs)))
      go true h ih = rw ih (sym (row_append a i g.body (joined (keep (row_rank a) gs))))
      go false h ih = rw (h (λ z. z)) ih

module _ (c : Counts) (w : List ℕ) (r : List Float) (ti : List ℕ) (tc : List Float) where
  abbrev branch_blocks : List OpfRow
  branch_blocks = Balance ∷ FlowRow ∷ LineUb ∷ LineLb ∷ PhaseUb ∷ PhaseLb ∷ []

  abbrev linear_blocks : List OpfRow
  linear_blocks = LinearEqual ∷ LinearLimit ∷ []

  abbrev pub a_groups : List Group
  a_groups =
      group (Balance ∷ []) (each c.buses (shed_entry c w r))
      ∷ group (Balance ∷ []) (each c.generators (generator_entry c w r))
      ∷ group branch_blocks (each c.branches (branch_entries c w r))
      ∷ group (Reference ∷ []) (each c.references (reference_entry c w r))
      ∷ group (GenUb ∷ GenLb ∷ []) (each c.generators (capability_entries c w r))
      ∷ group (ShedUb ∷ ShedLb ∷ []) (each c.buses (shed_bounds c w r))
      ∷ group (Segment ∷ []) (each c.generators (segment_entries c w r))
      ∷ group linear_blocks (each c.rows (λ q. linear_entries c w r ti tc (row_limits c w r q) q))
      ∷ []

  entries_are : a_entries c w r ti tc ≡ joined a_groups
  unfolding a_entries joined
  entries_are = simp append-nil

  limit_own : (x : ℕ) (sign : Expr) (q : ℕ) → All (Own linear_blocks) (written_row c w r ti tc LinearLimit x sign q)
  limit_own x sign q = all_append (all_each (wire c w FlowTerms q) (λ t n. tt & done)) (all_each (wire c w GenerationTerms q) (λ t n. tt & done))

  equal_own : (x : ℕ) (sign : Expr) (q : ℕ) → All (Own linear_blocks) (written_row c w r ti tc LinearEqual x sign q)
  equal_own x sign q = all_append (all_each (wire c w FlowTerms q) (λ t n. tt & done)) (all_each (wire c w GenerationTerms q) (λ t n. tt & done))

  linear_own : (k : RowLimits) (q : ℕ) → All (Own linear_blocks) (linear_entries c w r ti tc k q)
  linear_own None q = done
  linear_own (Upper u) q = limit_own _ _ q
  linear_own (Lower u) q = limit_own _ _ q
  linear_own (Both u v) q = all_append (limit_own _ _ q) (limit_own _ _ q)
  linear_own (Equal u) q = equal_own _ _ q

  valid : All Valid a_groups
  valid =
      all_each c.buses (λ i l. all_when (sheds c w r i) (tt & done))
      & all_each c.generators (λ j l. tt & done)
      & all_each c.branches
      (λ e l.
      all_append (tt & tt & tt & tt & tt & tt & tt & done)
      (all_append (all_when (flagged c w ThermalFlags e) (tt & tt & done)) (all_when (flagged c w AngleFlags e) (tt & tt & tt & tt & done))))
      & all_each c.references (λ k l. tt & done)
      & all_each c.generators (λ j l. all_when (flagged c w GeneratorFlags j) (tt & tt & done))
      & all_each c.buses (λ i l. all_when (sheds c w r i) (tt & tt & done))
      & all_each c.generators (λ j l. all_each (segments_at c w j) (λ t n. tt & tt & done))
      & all_each c.rows (λ q l. linear_own (row_limits c w r q) q)
      & done

  -- a block that one loop writes
  pub in_group : (a : OpfRow) (i : ℕ) (bs : List OpfRow) (n : ℕ) (f : ℕ → List Coefficient) → keep (row_rank a) a_groups ≡ group bs (each n f) ∷ []
      → entry_in_row a i (a_entries c w r ti tc) ≡ each n (λ t. entry_in_row a i (f t))
  unfolding joined
  in_group a i bs n f e =
      ap (entry_in_row a i) entries_are
      ∙ pick a i a_groups valid
      ∙ ap (λ (gs : List Group). entry_in_row a i (joined gs)) e
      ∙ ap (entry_in_row a i) (append-nil (each n f))
      ∙ row_each a i n f

  -- the balance rows, which three do
  pub in_balance : (i : ℕ) → entry_in_row Balance i (a_entries c w r ti tc)
      ≡ each c.buses (λ t. entry_in_row Balance i (shed_entry c w r t))
      ++ (each c.generators (λ t. entry_in_row Balance i (generator_entry c w r t)) ++ each c.branches (λ t. entry_in_row Balance i (branch_entries c w r t)))
  unfolding joined
  in_balance i =
      ap (entry_in_row Balance i) entries_are
      ∙ pick Balance i a_groups valid
      ∙ row_append Balance i (each c.buses (shed_entry c w r)) _
      ∙ rw (
        row_append Balance i (each c.generators (generator_entry c w r)) (each c.branches (branch_entries c w r) ++ []),
        append-nil (each c.branches (branch_entries c w r)),
        row_each Balance i c.buses (shed_entry c w r),
        row_each Balance i c.generators (generator_entry c w r),
        row_each Balance i c.branches (branch_entries c w r),
      )
