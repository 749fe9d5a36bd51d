-- `kkt_generators::put_segment_duals` meets its contract: each generator's segments, and nothing of its own. Assumes nothing.
use mathlib.Core.List.{[]}
use native.Mathlib.Omega.{arith}
use Rattle.network.specs.Layout.{reading}
use Rattle.solution.specs.Sheet.{solved}
use Rattle.kkt_index.specs.Index.{start_in}
use Rattle.kkt.specs.Slots.{segment_column}
use Rattle.kkt.specs.Matrix.{emitted}
use Rattle.kkt_generators.proofs.Turns.{none_is, three_are, turns_put}
use Rattle.kkt_generators.proofs.put_segment_duals.Goals as goal

pub returns-clause-puts : goal.returns-clause-puts
returns-clause-puts c = let a = c.args in
    let b = start_in a.kkt.now.index in
    let R = reading a.kkt.now.grid.plan.counts a.kkt.now.grid.plan.readings.now in
    let S = solved a.kkt.now.grid.plan.counts a.kkt.now.index.pieces a.kkt.now.sheet.now in
    turns_put b R S a.kkt.now.grid.plan.counts a.kkt.now.grid.plan.wiring.now (λ j. []) segment_column a.kkt.now.grid.plan.counts.generators
    (c.put_turns.ensures.puts (λ j. emitted b R S ([])) (λ j g s. emitted b R S (segment_column j g s)) (λ j r p. none_is b R S p) (λ j g s r p. three_are b R S (segment_column j g s) (omega arith) p))
