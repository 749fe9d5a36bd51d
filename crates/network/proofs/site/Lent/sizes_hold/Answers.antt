-- `network::site::Lent::sizes_hold` meets its contract, test by test. Assumes nothing.
use borrow.Author.Tests.{le-leb, lt-leb}
use Rattle.sequence.proofs.Lists.{failed, held}
use Rattle.network.specs.Numbers.{sizes_hold}
use Rattle.network.proofs.Tests.{few_of, wiring_long}
use Rattle.network.proofs.site.Lent.sizes_hold.Goals as goal

pub returns-then-self-lt9 : goal.returns-then-self-lt9
unfolding sizes_hold
returns-then-self-lt9 c = rw (lt-leb _ _ c.if-self-lt9.true)

pub returns-then-not-few_counts : goal.returns-then-not-few_counts
unfolding sizes_hold
returns-then-not-few_counts c = rw (le-leb _ _ c.if-self-lt9.false, ← c.counts-c.ensures, failed c.few_counts.ensures c.if-not-few_counts.true)

pub lengths_hold-requires : goal.lengths_hold-requires
lengths_hold-requires c = few_of _ (held c.few_counts.ensures c.if-not-few_counts.false)

pub returns-then-not-lengths_hold : goal.returns-then-not-lengths_hold
unfolding sizes_hold
returns-then-not-lengths_hold c = rw (le-leb _ _ c.if-self-lt9.false, ← c.counts-c.ensures, held c.few_counts.ensures c.if-not-few_counts.false, failed c.lengths_hold.ensures c.if-not-lengths_hold.true)

pub invariant_of-wiring : goal.invariant_of-wiring
invariant_of-wiring c = record {
  laid = record {
    few = few_of _ (held c.few_counts.ensures c.if-not-few_counts.false);
    long = wiring_long _ _ (held c.lengths_hold.ensures c.if-not-lengths_hold.false);
  };
}

pub returns : goal.returns
unfolding sizes_hold
returns c = rw (le-leb _ _ c.if-self-lt9.false, ← c.counts-c.ensures, held c.few_counts.ensures c.if-not-few_counts.false, held c.lengths_hold.ensures c.if-not-lengths_hold.false) c.sums_hold.ensures
