-- What the columns are laid with: the system's index, the flows' duals, and how long all of them are.
-- Main results: `indexes_of`, `flows_of`, `jacobian_long`, `laid_short`, `laid_done`. Assumes nothing.
use mathlib.Core.Path.{◌≡◌, sym, ap, ◌∙◌}
use mathlib.Core.Bool.{Bool, true, false}
use mathlib.Core.List.{List}
use Prim.Native.Nat.{ℕ, zero, suc, ◌*◌, ◌≤◌}
use native.Mathlib.Nat.{zero-mul, suc-mul}
use lib.Dec.{leb}
use borrow.Author.Tests.{lt-ltb, le-ltb, leb-true, leb-false}
use lib.ListN.{length, get_or, length-append}
use lib.Ieee.{Float, nan}
use Rattle.sequence.specs.Lists.{each, front}
use Rattle.sequence.specs.Answers.{filled}
use Rattle.sequence.proofs.Fronts.{front_at}
use Rattle.network.specs.declared.Counts.{Counts}
use Rattle.network.specs.Layout.{Few}
use Rattle.kkt_index.specs.declared.KktIdx.{KktIdx}
use Rattle.kkt_index.specs.Index.{linear_row_count, Narrow, Indexed}
use Rattle.solution.specs.Sheet.{pieces}
use Rattle.snapping.specs.Snap.{nu_flow, nu_flow_sheet}
use Rattle.parameter_column.specs.declared.Served.{Served}
use Rattle.parameter_column.specs.Columns.{column_words}
use Rattle.parameter_sheet.specs.Sheet.{jacobian, Flows, Indexes}
use Rattle.sens_parameters.specs.Calls.{columns_filled, columns_laid}
use Rattle.parameter_sheet.proofs.Filling.{column_long}

pub indexes_of : {c : Counts} {w : List ℕ} {r : List Float} {x : KktIdx} → Indexed c (pieces c w) (linear_row_count c w r) x → Narrow x → Few c → Indexes c w r x
indexes_of {c} {w} {r} {x} i n f = record {
  few = f;
  indexed = rw (sym i.pieces_is, sym i.linear_rows_is) at i;
  narrow = n;
  linear = i.linear_rows_is;
}

pub flows_of : (c : Counts) (w ti : List ℕ) (tc : List Float) (p : ℕ) (r s old : List Float) {nu : List Float} → nu ≡ front (nu_flow_sheet c w ti tc p r s) old → c.branches ≤ length nu → Flows c w ti tc p r s nu
flows_of c w ti tc p r s old e h = record {
  long = h;
  at = λ b l. ap (λ (y : List Float). get_or y b nan) e ∙ front_at (nu_flow c w ti tc p r s) c.branches old b nan l;
}

turns_long : {A : Type 0} (f : ℕ → List A) (d n : ℕ) → ((i : ℕ) → length (f i) ≡ d) → length (each n f) ≡ n * d
unfolding each
turns_long f d zero h = sym (zero-mul d)
turns_long f d (suc n) h = length-append (each n f) (f n) ∙ rw (turns_long f d n h, h n) (sym (suc-mul n d))

module _ (c : Counts) (w ti : List ℕ) (tc : List Float) (r s : List Float) (x : KktIdx) (k : Served) (is : List ℕ) (h : Indexes c w r x) where
  pub jacobian_long : length (jacobian c w ti tc x.pieces r s k is) ≡ length is * x.dim
  unfolding jacobian
  jacobian_long = turns_long (λ t. column_words c w ti tc x.pieces r s k (get_or is t 0)) x.dim (length is) (λ t. column_long c w ti tc r s x k (get_or is t 0) h)

  module _ (sheet : List Float) {b : Bool} (e : b ≡ leb (length is * x.dim) (length sheet)) where
    pub laid_short : b ≡ false → filled 7 0 sheet ≡ columns_laid is (jacobian c w ti tc x.pieces r s k is) sheet
    unfolding columns_filled
    laid_short t = let l = leb-false (length is * x.dim) (length sheet) (sym e ∙ t) in rw (lt-ltb (length sheet) (length (jacobian c w ti tc x.pieces r s k is)) (rw jacobian_long l))

    pub laid_done : {new : List Float} → b ≡ true → new ≡ front (jacobian c w ti tc x.pieces r s k is) sheet → filled 0 (length is) new ≡ columns_laid is (jacobian c w ti tc x.pieces r s k is) sheet
    unfolding columns_filled
    laid_done t q = let l = leb-true (length is * x.dim) (length sheet) (sym e ∙ t) in rw (q, le-ltb (length sheet) (length (jacobian c w ti tc x.pieces r s k is)) (rw jacobian_long l))
