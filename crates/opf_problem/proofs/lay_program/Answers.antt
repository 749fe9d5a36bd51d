-- `opf_problem::lay_program` meets its contract: each part on its own sheets. Assumes nothing.
use Rattle.std.proofs.Common.{rules}
use Rattle.opf_problem.specs.Calls.{parts_at}
use Rattle.opf_problem.proofs.Returns.{parts_done}
use Rattle.opf_problem.proofs.lay_program.Goals as goal

pub returns : goal.returns
returns c = let a = c.args in parts_done (parts_at a.draft.now.site.grid.plan.counts a.draft.now.site.grid.plan.wiring.now a.draft.now.site.grid.plan.readings.now a.draft.now.site.term_index.now a.draft.now.site.term_coefficient.now) _ _ _ _ _ _ _ _ _ (c.written-p.ensures _ (λ s after r e p. search rules) (rw c.room-p_room.ensures c.requires.readings_len_bound.0)) (c.written-a.ensures _ (λ s after r e p. search rules) (rw c.room-a_room.ensures c.requires.readings_len_bound.1)) c.lay_sides.ensures.q_after c.lay_sides.ensures.b_after c.lay_sides.ensures.sizes_after
