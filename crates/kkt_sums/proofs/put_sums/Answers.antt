-- `kkt_sums::put_sums` meets its contract: a sum that is +0 is no entry. Assumes nothing.
use Rattle.std.proofs.Common.{rules}
use mathlib.Core.Bool.{false}
use Rattle.kkt.specs.Walks.{sum_item}
use Rattle.kkt_sums.proofs.Sums.{sum_none, span_whole}
use Rattle.kkt_sums.proofs.put_sums.Goals as goal

pub returns-clause-puts : goal.returns-clause-puts
returns-clause-puts c = let a = c.args.acc.now in
    span_whole false a 0 c.args.col c.args.n
    (c.put_marked.ensures.puts (sum_item false a 0 c.args.col) (λ i t l p. search rules) (λ i l z. sum_none false a 0 c.args.col i (c.requires.by_index i l z)))
