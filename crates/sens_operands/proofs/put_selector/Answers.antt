-- `sens_operands::put_selector` meets its contract, sheet by sheet. Assumes nothing.
use Rattle.sens_operands.proofs.Returns.{put_all}
use Rattle.sens_operands.proofs.put_selector.Goals as goal

pub returns : goal.returns
returns c = let a = c.args in
    let b = c.requires.in_bounds in
    put_all a.sign.now a.counts.now a.rows.now a.weights.now a.start a.n b.0 b.1 b.2 b.3 (c.fill.ensures.after (λ y e. e)) c.put_rows.ensures (c.fill-2.ensures.after (λ y e. e))
