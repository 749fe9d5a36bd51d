-- `job_book::Change::accept` meets its contract, test by test. Assumes nothing.
use Rattle.sequence.proofs.Lists.{failed, held}
use Rattle.job_book.proofs.Own.{value_refused, kind_refused, index_refused, own_passed}
use Rattle.job_book.proofs.Change.accept.Goals as goal

pub returns-then-not-within-clause-number : goal.returns-then-not-within-clause-number
returns-then-not-within-clause-number c = value_refused _ _ _ _ (rw c.raw_limit.ensures.0 at (failed c.within.ensures c.if-not-within.true))

pub returns-then-not-is_kind-clause-number : goal.returns-then-not-is_kind-clause-number
returns-then-not-is_kind-clause-number c = kind_refused _ _ _ _ (rw c.raw_limit.ensures.0 at (held c.within.ensures c.if-not-within.false)) (failed c.is_kind.ensures.0 c.if-not-is_kind.true)

pub returns-then-self-field_size-clause-number : goal.returns-then-self-field_size-clause-number
returns-then-self-field_size-clause-number c = own_passed _ _ _ _ (rw c.raw_limit.ensures.0 at (held c.within.ensures c.if-not-within.false)) (held c.is_kind.ensures.0 c.if-not-is_kind.false) (rw (c.field_size.ensures, c.field_of-field.ensures) at c.if-self-field_size.true)

pub returns-else-self-field_size-clause-number : goal.returns-else-self-field_size-clause-number
returns-else-self-field_size-clause-number c = index_refused _ _ _ _ (rw c.raw_limit.ensures.0 at (held c.within.ensures c.if-not-within.false)) (held c.is_kind.ensures.0 c.if-not-is_kind.false) (rw (c.field_size.ensures, c.field_of-field.ensures) at c.if-self-field_size.false)
