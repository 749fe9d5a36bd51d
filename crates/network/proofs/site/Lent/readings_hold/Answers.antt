-- `network::site::Lent::readings_hold` meets its contract, test by test. Assumes nothing.
use Rattle.sequence.proofs.Lists.{failed, held}
use Rattle.network.specs.Numbers.{readings_hold}
use Rattle.network.proofs.site.Lent.readings_hold.Goals as goal

pub returns-then-not-fields_hold : goal.returns-then-not-fields_hold
unfolding readings_hold
returns-then-not-fields_hold c = rw (failed c.fields_hold.ensures c.if-not-fields_hold.true)

pub returns : goal.returns
unfolding readings_hold
returns c = rw (held c.fields_hold.ensures c.if-not-fields_hold.false, c.all_within.ensures, c.raw_limit.ensures.0)
