-- `model::dc::current_flow_offset` meets its contract: a law for each return. Assumes nothing.
use mathlib.Core.Path.{◌≡◌, refl}
use native.Mathlib.Omega.{arith}
use Rattle.std.specs.Prelude.{Err}
use Rattle.sequence.proofs.Answers.{refused}
use Rattle.model.proofs.Calls.{numbered, element_refused, element_stops, element_done}
use Rattle.model.proofs.dc.current_flow_offset.Goals as goal

pub returns-in_err-site : goal.returns-in_err-site
returns-in_err-site c = let e : c.from_residual.result ≡ Err c.in_err-site.field-0.0 = grind arith in
    rw e (element_refused _ _ _ _ _ _ _ (numbered _ c.in_err-site.ensures.number) (refused c.in_err-site.field-0.0))

pub returns-in_err-accept_element : goal.returns-in_err-accept_element
returns-in_err-accept_element c = let e : c.from_residual-in_err-accept_element.result ≡ Err c.in_err-accept_element.field-0.0 = grind arith in
    let s = c.in_ok-site.ensures in
    rw e (element_stops _ _ _ _ _ _ _ (numbered _ s.number) refl (rw s.accepted.counts at c.in_err-accept_element.ensures.number) (refused c.in_err-accept_element.field-0.0))

pub returns : goal.returns
returns c = let s = c.in_ok-site.ensures in
    let i = c.in_ok-accept_element.ensures in
    element_done _ _ _ _ _ _ c.args.out.now (numbered _ s.number) refl (rw s.accepted.counts at i.number) refl i.accepted.1
    (rw (s.accepted.counts, s.accepted.readings) at c.flow_offset_at.ensures)
