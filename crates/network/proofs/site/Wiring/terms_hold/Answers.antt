-- `network::site::Wiring::terms_hold` meets its contract. The loop's invariant: the row's first place, and that each row passed holds. Assumes nothing.
use mathlib.Core.Path.{◌≡◌, refl, sym}
use native.Mathlib.Omega.{arith}
use Rattle.sequence.proofs.Lists.{failed, held, every_none, every_more, every_fails, before_none, before_more, before_within}
use Rattle.network.specs.Layout.{row_terms, term_start}
use Rattle.network.specs.Numbers.{terms_hold}
use Rattle.network.proofs.site.Wiring.terms_hold.Goals as goal

pub row_holds-requires : goal.row_holds-requires
unfolding term_start
row_holds-requires c = let h = before_within (row_terms c.args.self.now.counts c.args.self.now.words.now) c.loop-q.q c.args.self.now.counts.rows (omega arith) in (omega arith, c.loop-q.invariant.2, omega arith)

pub returns-then-not-row_holds : goal.returns-then-not-row_holds
unfolding terms_hold
returns-then-not-row_holds c = sym (every_fails _ c.loop-q.q _ (omega arith) (failed c.row_holds.ensures c.if-not-row_holds.true))

pub overflow_add-at : goal.overflow_add-at
overflow_add-at c = let h = before_within (row_terms c.args.self.now.counts c.args.self.now.words.now) c.loop-q.q c.args.self.now.counts.rows (omega arith) in
    omega (arith, c.row_terms-at.ensures.0)

pub loop-q-preserved : goal.loop-q-preserved
loop-q-preserved c = (omega arith, refl, rw (before_more, ← c.loop-q.invariant.2, c.row_terms-at.ensures.0), every_more _ c.loop-q.q c.loop-q.invariant.3 (held c.row_holds.ensures c.if-not-row_holds.false))

pub returns : goal.returns
unfolding terms_hold
returns c = let e : c.loop-q.q ≡ c.args.self.now.counts.rows = omega arith in
    sym (rw e at c.loop-q.invariant.3)

pub loop-q-init : goal.loop-q-init
loop-q-init c = (omega arith, refl, before_none _, every_none _)
