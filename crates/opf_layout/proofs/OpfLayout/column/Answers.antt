-- `opf_layout::OpfLayout::column` meets its contract, block by block. Assumes nothing.
use mathlib.Core.Path.{refl}
use Rattle.opf_layout.specs.declared.OpfColumn.TheVariants.{Va, Pg, Flow, Shed, Cost}
use Rattle.opf_layout.proofs.OpfLayout.column.Goals as goal

pub returns-in-Va : goal.returns-in-Va
returns-in-Va c = rw c.in-Va.is (refl, c.requires.columns_narrow Va)

pub returns-in-Pg : goal.returns-in-Pg
returns-in-Pg c = rw c.in-Pg.is (refl, c.requires.columns_narrow Pg)

pub returns-in-Flow : goal.returns-in-Flow
returns-in-Flow c = rw c.in-Flow.is (refl, c.requires.columns_narrow Flow)

pub returns-in-Shed : goal.returns-in-Shed
returns-in-Shed c = rw c.in-Shed.is (refl, c.requires.columns_narrow Shed)

pub returns-in-Cost : goal.returns-in-Cost
returns-in-Cost c = rw c.in-Cost.is (refl, c.requires.columns_narrow Cost)
