-- `capi_sens::matrix::sens_kkt_triplets` meets its contract: the call's answer, in one word. Assumes nothing.
use native.Mathlib.Omega.{arith}
use Rattle.capi_sens.proofs.Laid.{matrix_small, packs}
use Rattle.capi_sens.proofs.matrix.sens_kkt_triplets.Goals as goal

pub pack_answer-requires : goal.pack_answer-requires
pack_answer-requires c = let a = c.args in omega (arith, matrix_small _ _ _ a.rows.now a.cols.now a.values.now c.kkt_triplets.ensures)

pub returns : goal.returns
returns c = packs c.pack_answer.ensures c.kkt_triplets.ensures
