-- `model::dc::evaluate` meets its contract: a law for each return. Assumes nothing.
use mathlib.Core.Path.{◌≡◌, refl, sym, ◌∙◌}
use native.Mathlib.Omega.{arith}
use Rattle.std.specs.Prelude.{Err}
use lib.ListN.{length, get_or}
use Rattle.sequence.proofs.Answers.{refused}
use Rattle.model.proofs.Calls.{element_refused, element_stops, element_done, own_tests_lem, own_sizes, both_equal}
use Rattle.model.proofs.dc.evaluate.Goals as goal

pub returns-in_err-site : goal.returns-in_err-site
returns-in_err-site c = let e : c.from_residual.result ≡ Err c.in_err-site.field-0.0 = grind arith in
    rw e (element_refused _ _ _ _ _ _ _ (own_tests_lem _ c.flows_and_powers-sizes.ensures c.both_within-values.ensures c.in_err-site.ensures.number) (refused c.in_err-site.field-0.0))

pub returns-in_err-accept_element : goal.returns-in_err-accept_element
returns-in_err-accept_element c = let e : c.from_residual-in_err-accept_element.result ≡ Err c.in_err-accept_element.field-0.0 = grind arith in
    let s = c.in_ok-site.ensures in
    rw e (element_stops _ _ _ _ _ _ _ (own_tests_lem _ c.flows_and_powers-sizes.ensures c.both_within-values.ensures s.number) refl (rw s.accepted.counts at c.in_err-accept_element.ensures.number) (refused c.in_err-accept_element.field-0.0))

pub evaluate_at-requires-clause-f_len : goal.evaluate_at-requires-clause-f_len
evaluate_at-requires-clause-f_len c = let s = c.in_ok-site.ensures in
    let o = sym c.flows_and_powers-sizes.ensures ∙ own_sizes _ _ _ s.number refl in
    rw s.accepted.counts (both_equal (length c.args.f.now) (get_or c.args.lent.wiring.now 1 0) (length c.args.pg.now) (get_or c.args.lent.wiring.now 2 0) o).0

pub evaluate_at-requires-clause-pg_len : goal.evaluate_at-requires-clause-pg_len
evaluate_at-requires-clause-pg_len c = let s = c.in_ok-site.ensures in
    let o = sym c.flows_and_powers-sizes.ensures ∙ own_sizes _ _ _ s.number refl in
    rw s.accepted.counts (both_equal (length c.args.f.now) (get_or c.args.lent.wiring.now 1 0) (length c.args.pg.now) (get_or c.args.lent.wiring.now 2 0) o).1

pub returns : goal.returns
returns c = let s = c.in_ok-site.ensures in
    let i = c.in_ok-accept_element.ensures in
    element_done _ _ _ _ _ _ c.args.out.now (own_tests_lem _ c.flows_and_powers-sizes.ensures c.both_within-values.ensures s.number) refl (rw s.accepted.counts at i.number) refl i.accepted.1
    (rw (s.accepted.counts, s.accepted.wiring, s.accepted.term_index, s.accepted.term_coefficient) at c.evaluate_at.ensures)
