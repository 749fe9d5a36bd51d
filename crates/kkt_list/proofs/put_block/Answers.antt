-- `kkt_list::put_block` meets its contract: the block's own loop. Assumes nothing.
use mathlib.Core.Path.{refl}
use Rattle.kkt_index.specs.Index.{linear_start}
use Rattle.kkt.specs.Slots.{columns}
use Rattle.kkt_list.proofs.put_block.Goals as goal

pub returns-in-Va-clause-puts : goal.returns-in-Va-clause-puts
unfolding columns
returns-in-Va-clause-puts c = rw c.in-Va.is c.put_angles.ensures.puts

pub returns-in-Pg-clause-puts : goal.returns-in-Pg-clause-puts
unfolding columns
returns-in-Pg-clause-puts c = rw c.in-Pg.is c.put_dispatch.ensures.puts

pub returns-in-Cost-clause-puts : goal.returns-in-Cost-clause-puts
unfolding columns
returns-in-Cost-clause-puts c = rw c.in-Cost.is c.put_epigraphs.ensures.puts

pub returns-in-Segments-clause-puts : goal.returns-in-Segments-clause-puts
unfolding columns
returns-in-Segments-clause-puts c = rw c.in-Segments.is c.put_segment_duals.ensures.puts

pub returns-in-NuBal-clause-puts : goal.returns-in-NuBal-clause-puts
unfolding columns
returns-in-NuBal-clause-puts c = rw c.in-NuBal.is c.put_balances.ensures.puts

pub returns-in-Linear-clause-puts : goal.returns-in-Linear-clause-puts
unfolding columns linear_start
returns-in-Linear-clause-puts c = rw c.in-Linear.is c.put_rows.ensures.puts

pub returns-in-Flow-clause-puts : goal.returns-in-Flow-clause-puts
unfolding columns
returns-in-Flow-clause-puts c = c.put_short.ensures.puts _ refl refl
