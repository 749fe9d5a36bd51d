-- `network::site::Lent::accept_with` meets its contract, test by test. Assumes nothing.
use mathlib.Core.Path.{refl, sym, ◌∙◌}
use native.Mathlib.Nat.{le_of_eq}
use Rattle.sequence.proofs.Lists.{failed, held}
use Rattle.network.specs.Sites.{network_in}
use Rattle.network.proofs.Tests.{sized_nine, sized_wiring, sized_readings, sized_terms, sized_indexes, number_size, number_own_size, number_wiring, number_reading, number_own_reading, number_none}
use Rattle.network.proofs.site.Lent.accept_with.Goals as goal

pub returns-then-not-sizes_hold-clause-number : goal.returns-then-not-sizes_hold-clause-number
returns-then-not-sizes_hold-clause-number c = number_size _ _ _ (failed c.sizes_hold.ensures c.if-not-sizes_hold.true)

pub returns-then-not-sizes-clause-number : goal.returns-then-not-sizes-clause-number
returns-then-not-sizes-clause-number c = number_own_size _ _ _ (held c.sizes_hold.ensures c.if-not-sizes_hold.false) c.if-not-sizes.true

pub counts-counts-requires : goal.counts-counts-requires
counts-counts-requires c = sized_nine _ (held c.sizes_hold.ensures c.if-not-sizes_hold.false)

pub invariant_of-wiring : goal.invariant_of-wiring
invariant_of-wiring c = record { laid = rw c.counts-counts.ensures (sized_wiring (network_in c.args.self) (held c.sizes_hold.ensures c.if-not-sizes_hold.false)) }

pub wiring_holds-requires : goal.wiring_holds-requires
wiring_holds-requires c = let h = held c.sizes_hold.ensures c.if-not-sizes_hold.false in
    rw c.counts-counts.ensures (le_of_eq (sized_terms (network_in c.args.self) h ∙ sym (sized_indexes (network_in c.args.self) h)))

pub returns-then-not-wiring_holds-clause-number : goal.returns-then-not-wiring_holds-clause-number
returns-then-not-wiring_holds-clause-number c = number_wiring _ _ _ c.counts-counts.ensures (held c.sizes_hold.ensures c.if-not-sizes_hold.false) c.if-not-sizes.false (failed c.wiring_holds.ensures c.if-not-wiring_holds.true)

pub readings_hold-requires : goal.readings_hold-requires
readings_hold-requires c = rw c.counts-counts.ensures (sized_readings (network_in c.args.self) (held c.sizes_hold.ensures c.if-not-sizes_hold.false))

pub returns-then-not-readings_hold-clause-number : goal.returns-then-not-readings_hold-clause-number
returns-then-not-readings_hold-clause-number c = number_reading _ _ _ c.counts-counts.ensures (held c.sizes_hold.ensures c.if-not-sizes_hold.false) c.if-not-sizes.false (held c.wiring_holds.ensures c.if-not-wiring_holds.false) (failed c.readings_hold.ensures c.if-not-readings_hold.true)

pub invariant_of-plan : goal.invariant_of-plan
invariant_of-plan c = let r = number_none (network_in c.args.self) _ _ c.counts-counts.ensures (held c.sizes_hold.ensures c.if-not-sizes_hold.false) c.if-not-sizes.false (held c.wiring_holds.ensures c.if-not-wiring_holds.false) (held c.readings_hold.ensures c.if-not-readings_hold.false) c.if-values.true in
    rw c.counts-counts.ensures (record { wiring_laid = r.1.wired.laid; readings_laid = r.1.read })

pub invariant_of-grid : goal.invariant_of-grid
invariant_of-grid c = let r = number_none (network_in c.args.self) _ _ c.counts-counts.ensures (held c.sizes_hold.ensures c.if-not-sizes_hold.false) c.if-not-sizes.false (held c.wiring_holds.ensures c.if-not-wiring_holds.false) (held c.readings_hold.ensures c.if-not-readings_hold.false) c.if-values.true in
    rw c.counts-counts.ensures (record { wired = r.1.wired })

pub invariant_of-result : goal.invariant_of-result
invariant_of-result c = let r = number_none (network_in c.args.self) _ _ c.counts-counts.ensures (held c.sizes_hold.ensures c.if-not-sizes_hold.false) c.if-not-sizes.false (held c.wiring_holds.ensures c.if-not-wiring_holds.false) (held c.readings_hold.ensures c.if-not-readings_hold.false) c.if-values.true in
    rw c.counts-counts.ensures (record { termed = r.1.termed })

pub returns-then-values-clause-number : goal.returns-then-values-clause-number
returns-then-values-clause-number c = (number_none _ _ _ c.counts-counts.ensures (held c.sizes_hold.ensures c.if-not-sizes_hold.false) c.if-not-sizes.false (held c.wiring_holds.ensures c.if-not-wiring_holds.false) (held c.readings_hold.ensures c.if-not-readings_hold.false) c.if-values.true).0

pub returns-then-values-clause-accepted : goal.returns-then-values-clause-accepted
returns-then-values-clause-accepted c = let e = c.counts-counts.ensures in
    let r = number_none (network_in c.args.self) _ _ e (held c.sizes_hold.ensures c.if-not-sizes_hold.false) c.if-not-sizes.false (held c.wiring_holds.ensures c.if-not-wiring_holds.false) (held c.readings_hold.ensures c.if-not-readings_hold.false) c.if-values.true in
    record { counts = e; wiring = refl; readings = refl; term_index = refl; term_coefficient = refl; accepted = rw e r.1 }

pub returns-else-values-clause-number : goal.returns-else-values-clause-number
returns-else-values-clause-number c = number_own_reading _ _ _ c.counts-counts.ensures (held c.sizes_hold.ensures c.if-not-sizes_hold.false) c.if-not-sizes.false (held c.wiring_holds.ensures c.if-not-wiring_holds.false) (held c.readings_hold.ensures c.if-not-readings_hold.false) c.if-values.false
