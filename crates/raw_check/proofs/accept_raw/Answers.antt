-- `raw_check::accept_raw` meets its contract: the network's tests with the vectors' lengths, then their words and the raw objective. Assumes nothing.
use mathlib.Core.Path.{sym, ap, ◌∙◌}
use mathlib.Core.Bool.{Bool, true, cond}
use Rattle.std.proofs.lemmas.Result.{err_from_is_err_and}
use Rattle.solution_check.proofs.Own.{before_refused, before_accepted}
use Rattle.raw_check.proofs.Raw.{raw_accepted}
use Rattle.raw_check.proofs.accept_raw.Goals as goal

pub returns-in_err-site-clause-number : goal.returns-in_err-site-clause-number
returns-in_err-site-clause-number c = let p = err_from_is_err_and c.from_residual.result c.from_residual.ensures.1 in
    rw (p.1, p.2) (before_refused _ _ _ _ c.raw_is_long-sizes.ensures _ c.in_err-site.ensures.number)

pub returns-then-not-raw_holds-clause-number : goal.returns-then-not-raw_holds-clause-number
returns-then-not-raw_holds-clause-number c = sym (ap (λ (v : Bool). cond v 0 3) (sym c.raw_holds.ensures ∙ c.if-not-raw_holds.true))
    ∙ (before_accepted _ _ _ _ c.raw_is_long-sizes.ensures c.in_ok-site.ensures.number).1

pub invariant_of-result : goal.invariant_of-result
invariant_of-result c = let a = c.in_ok-site.ensures in
    let r = raw_accepted _ _ _ a.accepted.accepted (before_accepted _ _ _ true c.raw_is_long-sizes.ensures a.number).0 in
    record {
      raw_laid = record {
        placed = c.of-lay.ensures.placed;
        bounded = c.of-lay.ensures.bounded;
        columns_long = rw (a.accepted.wiring, a.accepted.readings) r.columns_long;
        rows_long = rw (a.accepted.wiring, a.accepted.readings) r.rows_long;
      };
    }
