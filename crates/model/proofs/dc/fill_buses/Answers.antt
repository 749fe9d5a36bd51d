-- `model::dc::fill_buses` meets its contract: a law for each return. Assumes nothing.
use mathlib.Core.Path.{◌≡◌, refl, ap}
use native.Mathlib.Omega.{arith}
use Rattle.std.specs.Prelude.{Err}
use Rattle.network.specs.declared.Counts.{Counts}
use Rattle.sequence.proofs.Answers.{refused}
use Rattle.model.proofs.Calls.{numbered, bus_refused, bus_short, bus_done}
use Rattle.model.proofs.dc.fill_buses.Goals as goal

pub returns-in_err-site : goal.returns-in_err-site
returns-in_err-site g c f h = let e : c.from_residual.result ≡ Err c.in_err-site.field-0.0 = grind arith in
    rw e (bus_refused _ _ _ (numbered _ c.in_err-site.ensures.number) (refused c.in_err-site.field-0.0))

pub returns-then-out-buses : goal.returns-then-out-buses
returns-then-out-buses g c f h = let s = c.in_ok-site.ensures in
    bus_short _ _ _ (numbered _ s.number) refl (rw s.accepted.counts at c.if-out-buses.true)

pub returns : goal.returns
returns g c f h = let s = c.in_ok-site.ensures in
    bus_done _ _ _ (numbered _ s.number) refl (rw s.accepted.counts at c.if-out-buses.false) (ap (λ (k : Counts). k.buses) s.accepted.counts)
    (rw (s.accepted.counts, s.accepted.wiring, s.accepted.readings) at (h _ _ _ _ c.if-out-buses.false c.fill.ensures))
