-- `kkt_index::KktIdx::start` meets its contract, block by block. Assumes nothing.
use mathlib.Core.Path.{refl}
use Rattle.kkt_index.specs.declared.Block.TheVariants.{Va, Pg, Flow, Psh, Cost, LamLb, LamUb, GammaLb, GammaUb, RhoLb, RhoUb, MuLb, MuUb, Segments, Linear, NuBal, NuFlow, Eta}
use Rattle.kkt_index.proofs.KktIdx.start.Goals as goal

pub returns-in-Va : goal.returns-in-Va
returns-in-Va c = rw c.in-Va.is (refl, c.requires Va)

pub returns-in-Pg : goal.returns-in-Pg
returns-in-Pg c = rw c.in-Pg.is (refl, c.requires Pg)

pub returns-in-Flow : goal.returns-in-Flow
returns-in-Flow c = rw c.in-Flow.is (refl, c.requires Flow)

pub returns-in-Psh : goal.returns-in-Psh
returns-in-Psh c = rw c.in-Psh.is (refl, c.requires Psh)

pub returns-in-Cost : goal.returns-in-Cost
returns-in-Cost c = rw c.in-Cost.is (refl, c.requires Cost)

pub returns-in-LamLb : goal.returns-in-LamLb
returns-in-LamLb c = rw c.in-LamLb.is (refl, c.requires LamLb)

pub returns-in-LamUb : goal.returns-in-LamUb
returns-in-LamUb c = rw c.in-LamUb.is (refl, c.requires LamUb)

pub returns-in-GammaLb : goal.returns-in-GammaLb
returns-in-GammaLb c = rw c.in-GammaLb.is (refl, c.requires GammaLb)

pub returns-in-GammaUb : goal.returns-in-GammaUb
returns-in-GammaUb c = rw c.in-GammaUb.is (refl, c.requires GammaUb)

pub returns-in-RhoLb : goal.returns-in-RhoLb
returns-in-RhoLb c = rw c.in-RhoLb.is (refl, c.requires RhoLb)

pub returns-in-RhoUb : goal.returns-in-RhoUb
returns-in-RhoUb c = rw c.in-RhoUb.is (refl, c.requires RhoUb)

pub returns-in-MuLb : goal.returns-in-MuLb
returns-in-MuLb c = rw c.in-MuLb.is (refl, c.requires MuLb)

pub returns-in-MuUb : goal.returns-in-MuUb
returns-in-MuUb c = rw c.in-MuUb.is (refl, c.requires MuUb)

pub returns-in-Segments : goal.returns-in-Segments
returns-in-Segments c = rw c.in-Segments.is (refl, c.requires Segments)

pub returns-in-Linear : goal.returns-in-Linear
returns-in-Linear c = rw c.in-Linear.is (refl, c.requires Linear)

pub returns-in-NuBal : goal.returns-in-NuBal
returns-in-NuBal c = rw c.in-NuBal.is (refl, c.requires NuBal)

pub returns-in-NuFlow : goal.returns-in-NuFlow
returns-in-NuFlow c = rw c.in-NuFlow.is (refl, c.requires NuFlow)

pub returns-in-Eta : goal.returns-in-Eta
returns-in-Eta c = rw c.in-Eta.is (refl, c.requires Eta)
