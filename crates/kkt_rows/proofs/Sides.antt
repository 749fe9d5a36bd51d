-- The parts of a linear row, put one after the other: both runs of its terms, a side's slack, and the row by its limits.
-- Main results: `both_terms`, `level_done`, `slack_done`, `row_done`, `placed`. Assumes nothing.
use mathlib.Core.Path.{◌≡◌, sym, subst}
use mathlib.Core.Bool.{true, false}
use mathlib.Core.List.{List, [], append-nil}
use Prim.Native.Nat.{ℕ, ◌+◌}
use lib.Dec.{T}
use lib.Ieee.{Float}
use Rattle.std.specs.Prelude.{Option}
use Rattle.sequence.specs.Lists.{each}
use Rattle.sequence.specs.declared.Triplet.{Triplet}
use Rattle.sequence.specs.declared.Sink.{Sink}
use Rattle.sequence.specs.Sheets.{emit}
use Rattle.sequence.specs.Sinks.{Gains}
use Rattle.sequence.proofs.Sinks.{none}
use Rattle.network.specs.declared.Counts.{Counts}
use Rattle.network.specs.declared.Field.{Field}
use Rattle.network.specs.declared.Part.TheVariants.{FlowTerms, GenerationTerms}
use Rattle.network.specs.Layout.{wire, term_start}
use Rattle.model.specs.declared.RowLimits.{RowLimits}
use Rattle.model.specs.Rows.{row_limits}
use Rattle.solution.specs.declared.Entry.{Entry}
use Rattle.kkt_index.specs.declared.Block.TheVariants.{Flow, Pg, Linear}
use Rattle.kkt_index.specs.declared.KktIdx.{KktIdx}
use Rattle.kkt_index.specs.Index.{Shape, start_in, shape_of}
use Rattle.kkt.specs.declared.Side.{Side}
use Rattle.kkt.specs.declared.Side.TheVariants.{Above, Below, Level}
use Rattle.kkt.specs.Slots.{term_pair, term_slots, diagonal, side_slots, row_slots}
use Rattle.kkt.specs.Matrix.{kept, emitted}
use Rattle.kkt.specs.Walks.{slackens, slack_on}
use Rattle.kkt.proofs.Emitted.{puts_then, puts_one}

module _ (x : KktIdx) (R : Field → ℕ → Float) (S : Entry → ℕ → Float) where
  pub nothing_put : {S₀ : Sink} → Gains (emitted (start_in x) R S []) S₀ S₀
  unfolding emitted
  nothing_put = none

  module _ (c : Counts) (w ti : List ℕ) (tc : List Float) (s : Side) (q row : ℕ) {S₀ S₁ : Sink} where
    pub both_terms : {S₂ : Sink} {start flows generations : ℕ}
        → start ≡ term_start c w q → flows ≡ wire c w FlowTerms q → generations ≡ wire c w GenerationTerms q
        → Gains (emitted (start_in x) R S (each flows (λ t. term_pair c w ti tc s q row Flow (start + t)))) S₀ S₁
        → Gains (emitted (start_in x) R S (each generations (λ t. term_pair c w ti tc s q row Pg (start + flows + t)))) S₁ S₂
        → Gains (emitted (start_in x) R S (term_slots c w ti tc s q row)) S₀ S₂
    both_terms e f g a b =
        puts_then (start_in x) R S (each (wire c w FlowTerms q) (λ t. term_pair c w ti tc s q row Flow (term_start c w q + t)))
        (each (wire c w GenerationTerms q) (λ t. term_pair c w ti tc s q row Pg (term_start c w q + wire c w FlowTerms q + t)))
        (rw (e, f) at a)
        (rw (e, f, g) at b)

  module _ (c : Counts) (w ti : List ℕ) (tc : List Float) where
    -- an equality has no slack
    pub level_done : {S₀ S₁ : Sink} (s : Side) (q row : ℕ) → slackens s ≡ false → Gains (emitted (start_in x) R S (term_slots c w ti tc s q row)) S₀ S₁ → Gains (emitted (start_in x) R S (side_slots c w ti tc s q row)) S₀ S₁
    level_done Above q row h p = absurd (subst T h tt)
    level_done Below q row h p = absurd (subst T h tt)
    level_done Level q row h p = rw append-nil p

    -- the terms, and then the slack on the diagonal
    pub slack_done : {S₀ S₁ S₂ : Sink} {slack : Float} {t : Option Triplet} (s : Side) (q row : ℕ) → slackens s ≡ true → slack ≡ slack_on s c w ti tc R S q
        → t ≡ kept (start_in x Linear + row) (start_in x Linear + row) slack
        → Gains (emitted (start_in x) R S (term_slots c w ti tc s q row)) S₀ S₁ → Gains (emit t) S₁ S₂ → Gains (emitted (start_in x) R S (side_slots c w ti tc s q row)) S₀ S₂
    slack_done Above q row h e f p o =
        puts_then (start_in x) R S (term_slots c w ti tc Above q row) (diagonal c w ti tc Above q row) p (puts_one (start_in x) R S _ (rw (f, e) at o))
    slack_done Below q row h e f p o =
        puts_then (start_in x) R S (term_slots c w ti tc Below q row) (diagonal c w ti tc Below q row) p (puts_one (start_in x) R S _ (rw (f, e) at o))
    slack_done Level q row h e f p o = absurd (subst T (sym h) tt)

    -- a row by its limits, whatever they are found to be
    pub row_done : {S₀ S₁ : Sink} {k v : RowLimits} (r : List Float) (q row : ℕ) → k ≡ row_limits c w r q → k ≡ v
        → Gains (emitted (start_in x) R S (row_slots c w ti tc (shape_of v) q row)) S₀ S₁
        → Gains (emitted (start_in x) R S (row_slots c w ti tc (shape_of (row_limits c w r q)) q row)) S₀ S₁
    row_done r q row e h p = rw (← e, h) p

    -- a row that was put at a place is the row there
    pub placed : {S₀ S₁ : Sink} {row at : ℕ} (k : Shape) (q : ℕ) → row ≡ at → Gains (emitted (start_in x) R S (row_slots c w ti tc k q row)) S₀ S₁ → Gains (emitted (start_in x) R S (row_slots c w ti tc k q at)) S₀ S₁
    placed k q e p = rw e at p
