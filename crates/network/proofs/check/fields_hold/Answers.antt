-- `network::check::fields_hold` meets its contract: the first reading, then all later ones. Assumes nothing.
use mathlib.Core.Path.{sym, ap, ◌∙◌}
use mathlib.Core.Bool.{Bool, ◌&&◌}
use mathlib.Core.List.{List}
use Prim.Native.Nat.{◌-◌}
use native.Mathlib.Omega.{arith}
use lib.ListN.{length, drop, length-drop}
use lib.Seq.{take_all}
use lib.Ieee.{Float}
use Rattle.float64.specs.Values.{raw_limit}
use Rattle.sequence.proofs.Lists.{failed, held}
use Rattle.network.specs.Numbers.{all_within}
use Rattle.network.proofs.Fields.{fields_flat}
use Rattle.network.proofs.check.fields_hold.Goals as goal

pub returns-then-not-in_range : goal.returns-then-not-in_range
returns-then-not-in_range c = let r = c.args.readings.now in
    let h = rw (c.base_low.ensures, c.base_high.ensures) at (failed c.in_range.ensures c.if-not-in_range.true) in
    sym (ap (λ (b : Bool). b && all_within raw_limit (drop 1 r)) h) ∙ fields_flat c.args.c r c.requires

pub returns : goal.returns
returns c = let r : List Float = c.args.readings.now in
    let h = rw (c.base_low.ensures, c.base_high.ensures) at (held c.in_range.ensures c.if-not-in_range.false) in
    rw (c.raw_limit.ensures.0, take_all (length r - 1) (drop 1 r) (omega (arith, length-drop 1 r))) at c.all_within.ensures
    ∙ sym (ap (λ (b : Bool). b && all_within raw_limit (drop 1 r)) h) ∙ fields_flat c.args.c r c.requires
