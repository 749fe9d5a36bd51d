-- Each multiplier that is read back is z's word at its constraint's row, with the convention's sign.
-- Main results: `read_word`, `multipliers_are_the_books`. Assumes nothing.
use mathlib.Core.Path.{◌≡◌, sym, ap, ◌∙◌}
use mathlib.Core.List.{List}
use Prim.Native.Nat.{ℕ, ◌<◌}
use lib.ListN.{get_or}
use lib.Ieee.{Float, nan, binary64, add}
use lib.Ieee.Fits.{add-fits}
use Rattle.float64.specs.Values.{nought}
use Rattle.sequence.specs.Lists.{made}
use Rattle.sequence.proofs.Lists.{made_length, made_at}
use Rattle.network.specs.declared.Counts.{Counts}
use Rattle.network.specs.Numbers.{Wired}
use Rattle.model.specs.declared.RowLimits.{RowLimits}
use Rattle.model.specs.declared.RowLimits.TheVariants.{None, Upper, Lower, Both, Equal}
use Rattle.model.specs.Rows.{row_limits}
use Rattle.solution.specs.declared.Entry.{Entry}
use Rattle.solution.specs.declared.Entry.TheVariants.{Va, NuBal, LamUb, LamLb, RhoUb, RhoLb, MuUb, MuLb, GammaUb, GammaLb, SegmentDual, LinearDual}
use Rattle.solution.specs.Sheet.{entries, rank, size, sizes, pieces, entry_start, solved}
use Rattle.solution.proofs.Entries.{entry_of_rank, rank_below}
use Rattle.kkt_index.specs.Index.{shape_of}
use Rattle.kkt_index.proofs.Segments.{segment_inside}
use Rattle.snapping.proofs.Words.{entry_size}
use Rattle.opf_readback.specs.Readback.{read_at, read_sheet, linear_dual}
use Rattle.books.specs.Matrix.{Doubles}
use Rattle.books.proofs.Zeros.{SameOrZeros, alike_sub}
use Rattle.books_program.specs.Multipliers.{read, signed_row, MultipliersAre}
use Rattle.books.proofs.Doubles.{alike_back, alike_then, plainly, nought_fits, plus_none, less_none, none_plus, none_less}
use Rattle.books_program.proofs.Runs.{block_at}

module _ (c : Counts) (w : List ℕ) (r : List Float) (ti : List ℕ) (tc : List Float) (x z : List Float) (raw : Float) where
  abbrev words : Entry → List Float
  words e = made (read_at c w r ti tc x z raw e) (size c (pieces c w) e)

  -- a word of the sheet is its entry's
  pub read_word : (e : Entry) (i : ℕ) → i < size c (pieces c w) e → read c w r ti tc x z raw e i ≡ read_at c w r ti tc x z raw e i
  unfolding solved entry_start read_sheet
  read_word e i l =
      block_at (λ k. words (get_or entries k Va)) (sizes c (pieces c w)) 18
      (λ k h. made_length (read_at c w r ti tc x z raw (get_or entries k Va)) (size c (pieces c w) (get_or entries k Va)) ∙ sym (entry_size c (pieces c w) k h))
      (rank e) i nan (rank_below e) (rw (entry_size c (pieces c w) (rank e) (rank_below e), entry_of_rank e) l)
      ∙ ap (λ (g : Entry). get_or (words g) i nan) (entry_of_rank e)
      ∙ made_at (read_at c w r ti tc x z raw e) (size c (pieces c w) e) i nan l

  -- equality plus upper minus lower, of which a row has one or two
  signed : Doubles z → (k : RowLimits) (q : ℕ) → SameOrZeros (linear_dual c w r ti tc x z raw k q) (signed_row c w r ti tc x z raw (shape_of k) q)
  signed h None q = alike_back (alike_then (none_plus nought nought_fits) (less_none (add binary64 nought nought) (add-fits binary64 _ _)))
  signed h (Upper u) q = alike_back (alike_then (none_plus _ (h _)) (less_none _ (add-fits binary64 _ _)))
  signed h (Lower l) q =
      alike_then (alike_sub (add binary64 nought nought) nought _ (h _) (alike_back (none_plus nought nought_fits))) (alike_back (none_less _ (h _)))
  signed h (Both u l) q = alike_sub _ _ _ (h _) (alike_back (none_plus _ (h _)))
  signed h (Equal l) q = alike_back (alike_then (plus_none _ (h _)) (less_none _ (add-fits binary64 _ _)))

pub multipliers_are_the_books : (c : Counts) (w : List ℕ) (r : List Float) (ti : List ℕ) (tc : List Float) (x z : List Float) (raw : Float)
    → Wired c w → Doubles z → MultipliersAre c w r ti tc x z raw
unfolding read_at
multipliers_are_the_books c w r ti tc x z raw h d = record {
  balances = λ i l. read_word c w r ti tc x z raw NuBal i l;
  ceilings = λ e l. read_word c w r ti tc x z raw LamUb e l;
  floors = λ e l. read_word c w r ti tc x z raw LamLb e l;
  most_power = λ j l. read_word c w r ti tc x z raw RhoUb j l;
  least_power = λ j l. read_word c w r ti tc x z raw RhoLb j l;
  most_shed = λ i l. read_word c w r ti tc x z raw MuUb i l;
  least_shed = λ i l e. read_word c w r ti tc x z raw MuLb i l ∙ rw e;
  no_shed = λ i l e. read_word c w r ti tc x z raw MuLb i l ∙ rw (e, read_word c w r ti tc x z raw NuBal i l);
  most_angle = λ e l. read_word c w r ti tc x z raw GammaUb e l;
  least_angle = λ e l. read_word c w r ti tc x z raw GammaLb e l;
  segments = λ j t l m. read_word c w r ti tc x z raw SegmentDual _ (segment_inside h j t l m).0;
  linear = λ q l. rw (read_word c w r ti tc x z raw LinearDual q l) (plainly (signed c w r ti tc x z raw d (row_limits c w r q) q));
}
