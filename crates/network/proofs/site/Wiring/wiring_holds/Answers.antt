-- `network::site::Wiring::wiring_holds` meets its contract, test by test. Assumes nothing.
use Prim.Native.Nat.{ℕ, suc, ◌<◌, ◌≤◌}
use native.Mathlib.Omega.{arith}
use borrow.Author.Tests.{lt-ltb, le-ltb}
use Rattle.sequence.proofs.Lists.{failed, held}
use Rattle.network.specs.Numbers.{wiring_holds}
use Rattle.network.proofs.site.Wiring.wiring_holds.Goals as goal

below_of : {a b : ℕ} → a ≤ b → a < suc b
below_of h = omega arith

pub returns-then-self-gt1 : goal.returns-then-self-gt1
unfolding wiring_holds
returns-then-self-gt1 c = rw (le-ltb _ _ c.if-self-gt1.true)

pub returns-then-self-gt2 : goal.returns-then-self-gt2
unfolding wiring_holds
returns-then-self-gt2 c = rw (lt-ltb _ _ (below_of c.if-self-gt1.false), le-ltb _ _ c.if-self-gt2.true)

pub returns-then-not-parts_hold : goal.returns-then-not-parts_hold
unfolding wiring_holds
returns-then-not-parts_hold c = rw (lt-ltb _ _ (below_of c.if-self-gt1.false), lt-ltb _ _ (below_of c.if-self-gt2.false), failed c.parts_hold.ensures c.if-not-parts_hold.true)

pub returns : goal.returns
unfolding wiring_holds
returns c = rw (lt-ltb _ _ (below_of c.if-self-gt1.false), lt-ltb _ _ (below_of c.if-self-gt2.false), held c.parts_hold.ensures c.if-not-parts_hold.false) c.terms_hold.ensures
