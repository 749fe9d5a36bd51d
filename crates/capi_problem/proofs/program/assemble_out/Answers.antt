-- `capi_problem::program::assemble_out` meets its contract: the cells have the lengths that the bytes give them. Assumes nothing.
use Rattle.std.proofs.Common.{rules}
use Rattle.decoding.proofs.Answered.{cells_are}
use Rattle.capi_problem.proofs.program.assemble_out.Goals as goal

pub assemble_cells-requires : goal.assemble_cells-requires
assemble_cells-requires c =
    let d = cells_are c.cells_for-x.ensures in
    let e = cells_are c.cells_for-y.ensures in search rules
