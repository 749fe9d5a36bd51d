-- `kkt_index::KktIdx::of` meets its contract. Assumes nothing.
use Rattle.kkt_index.proofs.Starts.{narrow}
use Rattle.kkt_index.proofs.KktIdx.of.Goals as goal

pub returns-clause-narrow : goal.returns-clause-narrow
returns-clause-narrow c = narrow c.new.ensures c.args.plan.now.readings_laid.few c.piece_count.ensures.1 c.linear_rows.ensures.1
