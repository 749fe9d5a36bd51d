-- Whether a result has no room, and what a draft's program is.
-- Main definitions: `any_short`, `most_a`, `parts_in`. Assumes nothing.
use Rattle.std.specs.Prelude.{ℕ, ◌+◌, ◌*◌, Bool, ◌||◌, List, length, ltb, Float}
use Rattle.network.specs.declared.Counts.{Counts}
use Rattle.opf_layout.specs.Layout.{active_of, cones}
use Rattle.opf_assembly.specs.Assembly.{p_triplets, a_triplets, q_sheet, b_sheet}
use Rattle.opf_problem.specs.declared.Rooms.{Rooms}
use Rattle.opf_problem.specs.declared.draft.Draft.{Draft}
use Rattle.opf_problem.specs.Calls.{Parts, parts_at}

-- a result that its sheet does not hold
abbrev pub any_short : Counts → List ℕ → List Float → List ℕ → List Float → Rooms → Bool
any_short c w r ti tc room =
    ltb room.p (length (p_triplets c w r))
    || (ltb room.a (length (a_triplets c w r ti tc)) || (ltb room.q (length (q_sheet c w r)) || (ltb room.b (length (b_sheet c w r)) || ltb room.cones (length (cones c (active_of c w r))))))

-- the most triplets that A can have
abbrev pub most_a : Counts → ℕ
most_a c = 3 * c.buses + 3 * c.generators + 13 * c.branches + c.references + 2 * c.segments + 2 * c.terms

-- ---- at a draft

abbrev pub parts_in : Draft → Parts
parts_in d = parts_at d.site.grid.plan.counts d.site.grid.plan.wiring.now d.site.grid.plan.readings.now d.site.term_index.now d.site.term_coefficient.now

abbrev pub short_at : Draft → Rooms → Bool
short_at d rooms = any_short d.site.grid.plan.counts d.site.grid.plan.wiring.now d.site.grid.plan.readings.now d.site.term_index.now d.site.term_coefficient.now rooms
