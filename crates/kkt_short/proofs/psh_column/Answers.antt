-- `kkt_short::psh_column` meets its contract: the bus is fixed or not, and its multipliers go by its state. Assumes nothing.
use Rattle.model.specs.Quantities.{shed_cap}
use Rattle.solution.specs.Sheet.{solved}
use native.Mathlib.Omega.{arith}
use Rattle.kkt_short.proofs.psh_column.Goals as goal

pub entry-requires-2-clause-i_bound : goal.entry-requires-2-clause-i_bound
entry-requires-2-clause-i_bound c = (omega (arith, c.requires, c.args.kkt.now.grid.plan.readings_laid.few.buses), omega (arith, c.requires, c.args.kkt.now.grid.plan.readings_laid.few.buses))

pub entry-requires-3-clause-i_bound : goal.entry-requires-3-clause-i_bound
entry-requires-3-clause-i_bound c = (omega (arith, c.requires, c.args.kkt.now.grid.plan.readings_laid.few.buses), omega (arith, c.requires, c.args.kkt.now.grid.plan.readings_laid.few.buses))

pub returns : goal.returns
unfolding shed_cap
returns c = let a = c.args in
    rw (
      c.entry.ensures,
      c.entry-2.ensures,
      c.entry-3.ensures,
      c.if_fixed-2.ensures,
      c.by_state-2.ensures,
      c.if_fixed.ensures,
      c.by_state.ensures,
      c.bus_state-state.ensures,
      c.value-upper.ensures,
      c.value-lower.ensures,
      c.value-shed.ensures,
      c.shed_cap_at-cap.ensures,
      c.is_fixed_zero_shed-fixed.ensures (solved a.kkt.now.grid.plan.counts a.kkt.now.index.pieces a.kkt.now.sheet.now),
    )
