-- What a lent network is as lists, and what a site is of it. Assumes nothing.
use Rattle.std.specs.Prelude.{◌≡◌}
use Rattle.network.specs.Layout.{counts_of}
use Rattle.network.specs.Numbers.{Network, Accepted, lent}
use Rattle.network.specs.declared.site.Lent.{Lent}
use Rattle.network.specs.declared.site.Site.{Site}

-- the network behind a lent one's references
abbrev pub network_in : Lent → Network
network_in l = lent l.wiring l.readings l.term_index l.term_coefficient

-- the site has the network's slices and counts, and the network is accepted
pub record SiteOf (l : Lent) (s : Site) : Type 0 where
  pub counts : s.grid.plan.counts ≡ counts_of l.wiring.now
  pub wiring : s.grid.plan.wiring.now ≡ l.wiring.now
  pub readings : s.grid.plan.readings.now ≡ l.readings.now
  pub term_index : s.term_index.now ≡ l.term_index.now
  pub term_coefficient : s.term_coefficient.now ≡ l.term_coefficient.now
  pub accepted : Accepted (network_in l) s.grid.plan.counts
