-- `network::check::few_counts` meets its contract, test by test. Assumes nothing.
use native.Mathlib.Omega.{arith}
use borrow.Author.Tests.{le-leb, lt-leb}
use Rattle.network.specs.Numbers.{few}
use Rattle.network.proofs.check.few_counts.Goals as goal

pub returns-then-c-gt256 : goal.returns-then-c-gt256
unfolding few
returns-then-c-gt256 c = let k = c.args.c in rw (lt-leb k.buses 256 (omega (arith, c.if-c-gt256.true)))

pub returns-then-c-gt512 : goal.returns-then-c-gt512
unfolding few
returns-then-c-gt512 c = let k = c.args.c in rw (le-leb k.buses 256 (omega (arith, c.if-c-gt256.false)), lt-leb k.branches 512 (omega (arith, c.if-c-gt512.true)))

pub returns-then-c-gt256-2 : goal.returns-then-c-gt256-2
unfolding few
returns-then-c-gt256-2 c = let k = c.args.c in rw (le-leb k.buses 256 (omega (arith, c.if-c-gt256.false)), le-leb k.branches 512 (omega (arith, c.if-c-gt512.false)), lt-leb k.generators 256 (omega (arith, c.if-c-gt256-2.true)))

pub returns-then-c-gt16 : goal.returns-then-c-gt16
unfolding few
returns-then-c-gt16 c = let k = c.args.c in rw (le-leb k.buses 256 (omega (arith, c.if-c-gt256.false)), le-leb k.branches 512 (omega (arith, c.if-c-gt512.false)), le-leb k.generators 256 (omega (arith, c.if-c-gt256-2.false)), lt-leb k.references 16 (omega (arith, c.if-c-gt16.true)))

pub returns-then-c-gt1024 : goal.returns-then-c-gt1024
unfolding few
returns-then-c-gt1024 c = let k = c.args.c in rw (le-leb k.buses 256 (omega (arith, c.if-c-gt256.false)), le-leb k.branches 512 (omega (arith, c.if-c-gt512.false)), le-leb k.generators 256 (omega (arith, c.if-c-gt256-2.false)), le-leb k.references 16 (omega (arith, c.if-c-gt16.false)), lt-leb k.segments 1024 (omega (arith, c.if-c-gt1024.true)))

pub returns-then-c-gt64 : goal.returns-then-c-gt64
unfolding few
returns-then-c-gt64 c = let k = c.args.c in rw (le-leb k.buses 256 (omega (arith, c.if-c-gt256.false)), le-leb k.branches 512 (omega (arith, c.if-c-gt512.false)), le-leb k.generators 256 (omega (arith, c.if-c-gt256-2.false)), le-leb k.references 16 (omega (arith, c.if-c-gt16.false)), le-leb k.segments 1024 (omega (arith, c.if-c-gt1024.false)), lt-leb k.rows 64 (omega (arith, c.if-c-gt64.true)))

pub returns : goal.returns
unfolding few
returns c = let k = c.args.c in rw (le-leb k.buses 256 (omega (arith, c.if-c-gt256.false)), le-leb k.branches 512 (omega (arith, c.if-c-gt512.false)), le-leb k.generators 256 (omega (arith, c.if-c-gt256-2.false)), le-leb k.references 16 (omega (arith, c.if-c-gt16.false)), le-leb k.segments 1024 (omega (arith, c.if-c-gt1024.false)), le-leb k.rows 64 (omega (arith, c.if-c-gt64.false)))
