-- `network::site::Lent::lengths_hold` meets its contract, test by test. Assumes nothing.
use borrow.Author.Tests.{eq-eqb, ne_eqb}
use Rattle.network.specs.Numbers.{lengths_hold}
use Rattle.network.specs.Sites.{network_in}
use Rattle.network.proofs.Tests.{wiring_length_lem, wiring_other, readings_length_lem, readings_other}
use Rattle.network.proofs.site.Lent.lengths_hold.Goals as goal

pub returns-then-self-m : goal.returns-then-self-m
unfolding lengths_hold
returns-then-self-m c = rw (wiring_other c.args.c (network_in c.args.self.now) c.if-self-m.true)

pub returns-then-self-m-2 : goal.returns-then-self-m-2
unfolding lengths_hold
returns-then-self-m-2 c = let N = network_in c.args.self.now in
    rw (wiring_length_lem c.args.c N c.if-self-m.false, readings_other c.args.c N c.if-self-m-2.true)

pub returns-then-self-c : goal.returns-then-self-c
unfolding lengths_hold
returns-then-self-c c = let N = network_in c.args.self.now in
    rw (wiring_length_lem c.args.c N c.if-self-m.false, readings_length_lem c.args.c N c.if-self-m-2.false, ne_eqb _ _ c.if-self-c.true)

pub returns : goal.returns
unfolding lengths_hold
returns c = let N = network_in c.args.self.now in
    rw (wiring_length_lem c.args.c N c.if-self-m.false, readings_length_lem c.args.c N c.if-self-m-2.false, eq-eqb _ _ c.if-self-c.false)
