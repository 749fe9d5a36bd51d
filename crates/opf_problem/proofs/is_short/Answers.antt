-- `opf_problem::is_short` meets its contract: a law for each return. Assumes nothing.
use Rattle.std.proofs.Common.{rules}
use Rattle.opf_problem.proofs.Returns.{drafted, q_short, b_short, cones_short, p_short, a_decides}
use Rattle.opf_problem.proofs.Bound.{a_length, p_length}
use Rattle.opf_problem.proofs.is_short.Goals as goal

pub returns-then-rooms-draft : goal.returns-then-rooms-draft
returns-then-rooms-draft c = q_short (drafted c.args.draft.now) c.args.rooms c.if-rooms-draft.true

pub returns-then-rooms-draft-2 : goal.returns-then-rooms-draft-2
returns-then-rooms-draft-2 c = b_short (drafted c.args.draft.now) c.args.rooms c.if-rooms-draft-2.true

pub returns-then-rooms-cone_count : goal.returns-then-rooms-cone_count
returns-then-rooms-cone_count c = cones_short (drafted c.args.draft.now) c.args.rooms c.cone_count.ensures c.if-rooms-cone_count.true

pub returns-then-is_over : goal.returns-then-is_over
returns-then-is_over c = let d = c.args.draft.now in p_short (drafted d) c.args.rooms (c.is_over.ensures _ (λ s after r e p. search rules) (p_length d.site.grid.plan.counts d.site.grid.plan.wiring.now d.site.grid.plan.readings.now)) c.if-is_over.true

pub returns : goal.returns
returns c = let d = c.args.draft.now in
    a_decides (drafted d) c.args.rooms c.cone_count.ensures (c.is_over.ensures _ (λ s after r e p. search rules) (p_length d.site.grid.plan.counts d.site.grid.plan.wiring.now d.site.grid.plan.readings.now))
    (c.is_over-2.ensures _ (λ s after r e p. search rules) (rw c.most_a.ensures (a_length d.site.grid.plan.counts d.site.grid.plan.wiring.now d.site.grid.plan.readings.now d.site.term_index.now d.site.term_coefficient.now d.site.grid.wired))) c.if-rooms-draft.false c.if-rooms-draft-2.false c.if-rooms-cone_count.false c.if-is_over.false
