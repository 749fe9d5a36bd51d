-- `terms::evaluate` meets its contract: more terms than a network's are refused. Assumes nothing.
use Rattle.terms.proofs.Apart.{refused}
use Rattle.terms.proofs.evaluate.Goals as goal

pub returns-then-n-gt1024 : goal.returns-then-n-gt1024
returns-then-n-gt1024 c = let a = c.args in
    refused a.wiring.now a.readings.now a.terms.now a.row a.f.now a.pg.now a.out.now c.if-n-gt1024.true
