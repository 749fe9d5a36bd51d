-- `model::dc::row_kind` meets its contract: a law for each return. Assumes nothing.
use mathlib.Core.Path.{◌≡◌, refl, ap, ◌∙◌}
use native.Mathlib.Omega.{arith}
use Rattle.std.specs.Prelude.{Err}
use Rattle.sequence.proofs.Answers.{refused}
use Rattle.model.specs.Rows.{kind_of}
use Rattle.model.proofs.Calls.{numbered, kind_refused, kind_out, kind_done}
use Rattle.model.proofs.dc.row_kind.Goals as goal

pub returns-in_err-site : goal.returns-in_err-site
returns-in_err-site c = let e : c.from_residual.result ≡ Err c.in_err-site.field-0.0 = grind arith in
    rw e (kind_refused _ _ (numbered _ c.in_err-site.ensures.number) (refused c.in_err-site.field-0.0))

pub returns-then-site-row : goal.returns-then-site-row
returns-then-site-row c = let s = c.in_ok-site.ensures in
    kind_out _ _ (numbered _ s.number) refl (rw s.accepted.counts at c.if-site-row.true)

pub returns : goal.returns
returns c = let s = c.in_ok-site.ensures in
    kind_done _ _ (numbered _ s.number) refl (rw s.accepted.counts at c.if-site-row.false)
    (c.kind.ensures ∙ ap kind_of (rw (s.accepted.counts, s.accepted.wiring, s.accepted.readings) at c.row_limits.ensures))
