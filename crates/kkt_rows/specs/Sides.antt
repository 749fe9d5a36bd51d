-- What a side of a linear row is put by, read from a frame, and the slots that it puts.
-- Main definitions: `dual_at`, `slack_at`, `side_at`. Assumes nothing.
use Rattle.std.specs.Prelude.{ℕ, List, Float}
use Rattle.network.specs.Layout.{reading}
use Rattle.solution.specs.Sheet.{solved}
use Rattle.kkt_index.specs.declared.Block.{Block}
use Rattle.kkt.specs.declared.Side.{Side}
use Rattle.kkt.specs.declared.frame.KktSite.{KktSite}
use Rattle.kkt.specs.Slots.{Slot, term_pair, term_slots, side_slots}
use Rattle.kkt.specs.Walks.{dual_on, slack_on}

module _ (x : KktSite) (s : Side) (q : ℕ) where
  -- the side's dual and its slack
  abbrev pub dual_at : Float
  dual_at = let c = x.kkt.grid.plan.counts in
      dual_on s c x.kkt.grid.plan.wiring.now x.term_index.now x.term_coefficient.now (reading c x.kkt.grid.plan.readings.now) (solved c x.kkt.index.pieces x.kkt.sheet.now) q

  abbrev pub slack_at : Float
  slack_at = let c = x.kkt.grid.plan.counts in
      slack_on s c x.kkt.grid.plan.wiring.now x.term_index.now x.term_coefficient.now (reading c x.kkt.grid.plan.readings.now) (solved c x.kkt.index.pieces x.kkt.sheet.now) q

  -- at a row of the linear block, the slots of a term in block b, of all terms, and of the whole side
  abbrev pub pair_at : ℕ → Block → ℕ → List Slot
  pair_at row b t = term_pair x.kkt.grid.plan.counts x.kkt.grid.plan.wiring.now x.term_index.now x.term_coefficient.now s q row b t

  abbrev pub terms_at : ℕ → List Slot
  terms_at row = term_slots x.kkt.grid.plan.counts x.kkt.grid.plan.wiring.now x.term_index.now x.term_coefficient.now s q row

  abbrev pub side_at : ℕ → List Slot
  side_at row = side_slots x.kkt.grid.plan.counts x.kkt.grid.plan.wiring.now x.term_index.now x.term_coefficient.now s q row
