-- `susceptance::link_ends` meets its contract: every end is at a bus. Assumes nothing.
use Rattle.std.proofs.Common.{rules}
use mathlib.Core.Path.{◌≡◌}
use native.Mathlib.Omega.{arith}
use Rattle.susceptance.specs.Incidence.{end_at}
use Rattle.susceptance.proofs.Incidence.{end_bound}
use Rattle.susceptance.proofs.link_ends.Goals as goal

pub link-requires-clause-keyed : goal.link-requires-clause-keyed
link-requires-clause-keyed c i k l p =
    let e : k ≡ end_at c.args.c c.args.wiring.now i = search rules in
    omega (arith, e, end_bound c.args.c c.args.wiring.now c.requires.wired i l)
