-- The blocks whose columns are short: at most 512 columns, of at most three slots.
-- Main results: `few_turns`, `few_slots`. Assumes nothing.
use mathlib.Core.Path.{◌≡◌}
use mathlib.Core.Bool.{true}
use Prim.Native.Nat.{ℕ, ◌≤◌}
use native.Mathlib.Omega.{arith}
use lib.ListN.{length}
use Rattle.network.specs.declared.Counts.{Counts}
use Rattle.network.specs.Layout.{Few}
use Rattle.kkt_index.specs.declared.Block.{Block}
use Rattle.kkt_index.specs.declared.Block.TheVariants.{Va, Pg, Flow, Psh, Cost, LamLb, LamUb, GammaLb, GammaUb, RhoLb, RhoUb, MuLb, MuUb, Segments, Linear, NuBal, NuFlow, Eta}
use Rattle.kkt.specs.Slots.{Site, columns, turns_of}
use Rattle.kkt.specs.Walks.{is_short}

pub few_turns : (c : Counts) (b : Block) → Few c → turns_of c b ≤ 512
few_turns c Va h = omega (arith, h.buses)
few_turns c Pg h = omega (arith, h.generators)
few_turns c Flow h = omega (arith, h.branches)
few_turns c Psh h = omega (arith, h.buses)
few_turns c Cost h = omega (arith, h.generators)
few_turns c LamLb h = omega (arith, h.branches)
few_turns c LamUb h = omega (arith, h.branches)
few_turns c GammaLb h = omega (arith, h.branches)
few_turns c GammaUb h = omega (arith, h.branches)
few_turns c RhoLb h = omega (arith, h.generators)
few_turns c RhoUb h = omega (arith, h.generators)
few_turns c MuLb h = omega (arith, h.buses)
few_turns c MuUb h = omega (arith, h.buses)
few_turns c Segments h = omega (arith, h.generators)
few_turns c Linear h = omega (arith, h.rows)
few_turns c NuBal h = omega (arith, h.buses)
few_turns c NuFlow h = omega (arith, h.branches)
few_turns c Eta h = omega (arith, h.references)

pub few_slots : (s : Site) (b : Block) (i : ℕ) → is_short b ≡ true → length (columns s b i) ≤ 3
unfolding columns
few_slots s Va i h = absurd (cc)
few_slots s Pg i h = absurd (cc)
few_slots s Flow i h = omega arith
few_slots s Psh i h = omega arith
few_slots s Cost i h = absurd (cc)
few_slots s LamLb i h = omega arith
few_slots s LamUb i h = omega arith
few_slots s GammaLb i h = omega arith
few_slots s GammaUb i h = omega arith
few_slots s RhoLb i h = omega arith
few_slots s RhoUb i h = omega arith
few_slots s MuLb i h = omega arith
few_slots s MuUb i h = omega arith
few_slots s Segments i h = absurd (cc)
few_slots s Linear i h = absurd (cc)
few_slots s NuBal i h = absurd (cc)
few_slots s NuFlow i h = omega arith
few_slots s Eta i h = omega arith
