-- What a row's flow terms add at a branch, term by term. Main results: `row_turns`, `turns_beyond`. Assumes nothing.
use mathlib.Core.Path.{◌≡◌, sym, ◌∙◌}
use mathlib.Core.List.{List}
use Prim.Native.Nat.{ℕ, ◌+◌, ◌≤◌, ◌<◌, zero-le}
use native.Mathlib.Omega.{arith}
use borrow.Author.Tests.{ne_eqb}
use lib.Dec.{eqb}
use lib.ListN.{get_or}
use lib.Ieee.{Float, nan, binary64, mul}
use Rattle.float64.specs.Values.{add_at}
use Rattle.sequence.specs.Lists.{turns}
use Rattle.sequence.proofs.Lists.{turns_none, turns_skip}
use Rattle.network.specs.declared.Counts.{Counts}
use Rattle.network.specs.declared.Part.TheVariants.{FlowTerms}
use Rattle.network.specs.Layout.{wire, term_start}
use Rattle.snapping.specs.Snap.{duals, signed, nu_flow_turn, nu_flow_row}

-- term t of so many from a place on, each times one multiplier
abbrev pub term_turn : List ℕ → List Float → ℕ → Float → ℕ → ℕ → Float → Float
term_turn ti tc start dual e t a = add_at (eqb (get_or ti (start + t) 0) e) (mul binary64 (get_or tc (start + t) nan) dual) a

pub row_turns : (c : Counts) (w ti : List ℕ) (tc : List Float) (p : ℕ) (r s : List Float) (e q : ℕ) (a : Float) {start count : ℕ} {dual : Float}
    → start ≡ term_start c w q → count ≡ wire c w FlowTerms q → dual ≡ signed (duals c w ti tc p r s q)
    → turns (term_turn ti tc start dual e) a count ≡ nu_flow_row c w ti tc p r s e q a
unfolding nu_flow_row nu_flow_turn
row_turns c w ti tc p r s e q a hs hc hd = rw (hs, hc, hd)

-- no term names a branch past the last
pub turns_beyond : (ti : List ℕ) (tc : List Float) (start : ℕ) (dual : Float) (e count branches : ℕ) (a : Float) → branches ≤ e
    → ((t : ℕ) → t < count → get_or ti (start + t) 0 < branches) → turns (term_turn ti tc start dual e) a count ≡ a
turns_beyond ti tc start dual e count branches a h k =
    turns_skip (term_turn ti tc start dual e) a 0 count zero-le
    (λ t l m y. rw (ne_eqb (get_or ti (start + t) 0) e (λ z. absurd (omega (arith, k t m)))))
    ∙ sym (turns_none (term_turn ti tc start dual e) a)
