-- `sens_dc::lay_kkt` meets its contract: the list, and its bound. Assumes nothing.
use Rattle.std.proofs.Common.{rules}
use Rattle.kkt.specs.Slots.Rule.{first_place}
use Rattle.kkt_laws.proofs.Bound.{list_length}
use Rattle.sens_dc.proofs.lay_kkt.Goals as goal

pub returns : goal.returns
returns c = let a = c.args in
    c.lay.ensures _ (λ s after r e p. search rules)
    (rw c.most.ensures.0 (list_length first_place a.solved.now.site.grid.plan.counts a.solved.now.site.grid.plan.wiring.now a.solved.now.site.grid.plan.readings.now a.solved.now.site.term_index.now a.solved.now.site.term_coefficient.now a.solved.now.sheet.now a.solved.now.site.grid.wired))
