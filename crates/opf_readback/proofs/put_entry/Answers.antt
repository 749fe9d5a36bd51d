-- `opf_readback::put_entry` meets its contract, entry by entry. Assumes nothing.
use native.Mathlib.Nat.{le_of_eq}
use native.Mathlib.Omega.{arith}
use mathlib.Core.Path.{refl, sym, ◌∙◌}
use Rattle.opf_layout.specs.Layout.{active_of}
use Rattle.opf_readback.specs.Readback.{read_at}
use Rattle.opf_readback.proofs.Entries.{block_long, rank_room, long_of, entry_is, turned_entry, picked_entry, lower_entry, duals_entry, values_entry, objective_entry, one_word}
use Rattle.opf_readback.proofs.put_entry.Goals as goal

pub copy_from_slice-requires : goal.copy_from_slice-requires
copy_from_slice-requires c = omega (arith, long_of c.args.point.now c.in-Va.is c.requires, block_long _ _ c.columns.ensures)

pub copy_from_slice-requires-in-Pg : goal.copy_from_slice-requires-in-Pg
copy_from_slice-requires-in-Pg c = omega (arith, long_of c.args.point.now c.in-Pg.is c.requires, block_long _ _ c.columns-in-Pg.ensures)

pub copy_from_slice-requires-in-Flow : goal.copy_from_slice-requires-in-Flow
copy_from_slice-requires-in-Flow c = omega (arith, long_of c.args.point.now c.in-Flow.is c.requires, block_long _ _ c.columns-in-Flow.ensures)

pub put_sheds-requires-clause-block_long : goal.put_sheds-requires-clause-block_long
unfolding active_of
put_sheds-requires-clause-block_long c = rank_room _ _ _ _ (long_of c.args.point.now c.in-Psh.is c.requires) c.columns-in-Psh.ensures (le_of_eq refl)

pub put_turned-requires : goal.put_turned-requires
put_turned-requires c = omega (arith, long_of c.args.point.now c.in-NuBal.is c.requires, block_long _ _ c.rows.ensures)

pub put_flagged-requires-clause-block_long : goal.put_flagged-requires-clause-block_long
unfolding active_of
put_flagged-requires-clause-block_long c = rank_room _ _ _ _ (long_of c.args.point.now c.in-LamUb.is c.requires) c.rows-in-LamUb.ensures (le_of_eq refl)

pub put_flagged-requires-in-LamLb-clause-block_long : goal.put_flagged-requires-in-LamLb-clause-block_long
unfolding active_of
put_flagged-requires-in-LamLb-clause-block_long c = rank_room _ _ _ _ (long_of c.args.point.now c.in-LamLb.is c.requires) c.rows-in-LamLb.ensures (le_of_eq refl)

pub put_flagged-requires-in-RhoUb-clause-block_long : goal.put_flagged-requires-in-RhoUb-clause-block_long
unfolding active_of
put_flagged-requires-in-RhoUb-clause-block_long c = rank_room _ _ _ _ (long_of c.args.point.now c.in-RhoUb.is c.requires) c.rows-in-RhoUb.ensures (le_of_eq refl)

pub put_flagged-requires-in-RhoLb-clause-block_long : goal.put_flagged-requires-in-RhoLb-clause-block_long
unfolding active_of
put_flagged-requires-in-RhoLb-clause-block_long c = rank_room _ _ _ _ (long_of c.args.point.now c.in-RhoLb.is c.requires) c.rows-in-RhoLb.ensures (le_of_eq refl)

pub put_sheds-requires-in-MuUb-clause-block_long : goal.put_sheds-requires-in-MuUb-clause-block_long
unfolding active_of
put_sheds-requires-in-MuUb-clause-block_long c = rank_room _ _ _ _ (long_of c.args.point.now c.in-MuUb.is c.requires) c.rows-in-MuUb.ensures (le_of_eq refl)

pub put_lower-requires-clause-balance_long : goal.put_lower-requires-clause-balance_long
put_lower-requires-clause-balance_long c = omega (arith, long_of c.args.point.now c.in-MuLb.is c.requires, block_long _ _ c.rows-in-MuLb.ensures)

pub put_lower-requires-clause-block_long : goal.put_lower-requires-clause-block_long
unfolding active_of
put_lower-requires-clause-block_long c = rank_room _ _ _ _ (long_of c.args.point.now c.in-MuLb.is c.requires) c.rows-in-MuLb-2.ensures (le_of_eq refl)

pub put_flagged-requires-in-GammaUb-clause-block_long : goal.put_flagged-requires-in-GammaUb-clause-block_long
unfolding active_of
put_flagged-requires-in-GammaUb-clause-block_long c = rank_room _ _ _ _ (long_of c.args.point.now c.in-GammaUb.is c.requires) c.rows-in-GammaUb.ensures (le_of_eq refl)

pub put_flagged-requires-in-GammaLb-clause-block_long : goal.put_flagged-requires-in-GammaLb-clause-block_long
unfolding active_of
put_flagged-requires-in-GammaLb-clause-block_long c = rank_room _ _ _ _ (long_of c.args.point.now c.in-GammaLb.is c.requires) c.rows-in-GammaLb.ensures (le_of_eq refl)

pub copy_from_slice-requires-in-Epigraph : goal.copy_from_slice-requires-in-Epigraph
unfolding active_of
copy_from_slice-requires-in-Epigraph c = omega (arith, long_of c.args.point.now c.in-Epigraph.is c.requires, block_long _ _ c.columns-in-Epigraph.ensures)

pub copy_from_slice-requires-in-SegmentDual : goal.copy_from_slice-requires-in-SegmentDual
copy_from_slice-requires-in-SegmentDual c = omega (arith, long_of c.args.point.now c.in-SegmentDual.is c.requires, block_long _ _ c.rows-in-SegmentDual.ensures)

pub put_duals-requires-clause-equal_long : goal.put_duals-requires-clause-equal_long
unfolding active_of
put_duals-requires-clause-equal_long c = le_of_eq (sym (block_long _ _ c.rows-in-LinearDual.ensures))

pub put_duals-requires-clause-limit_long : goal.put_duals-requires-clause-limit_long
unfolding active_of
put_duals-requires-clause-limit_long c = le_of_eq (sym (block_long _ _ c.rows-in-LinearDual-2.ensures))

pub put_values-requires-clause-f_len : goal.put_values-requires-clause-f_len
put_values-requires-clause-f_len c = (block_long _ _ c.columns-in-LinearValue.ensures, block_long _ _ c.columns-in-LinearValue-2.ensures)

pub objective_of-requires : goal.objective_of-requires
objective_of-requires c = block_long _ _ c.columns-in-Objective.ensures

pub returns-in-Va : goal.returns-in-Va
unfolding read_at active_of
returns-in-Va c = entry_is c.args.point.now c.in-Va.is (c.copy_from_slice.ensures.after ∙ c.columns.ensures)

pub returns-in-Pg : goal.returns-in-Pg
unfolding read_at active_of
returns-in-Pg c = entry_is c.args.point.now c.in-Pg.is (c.copy_from_slice-in-Pg.ensures.after ∙ c.columns-in-Pg.ensures)

pub returns-in-Flow : goal.returns-in-Flow
unfolding read_at active_of
returns-in-Flow c = entry_is c.args.point.now c.in-Flow.is (c.copy_from_slice-in-Flow.ensures.after ∙ c.columns-in-Flow.ensures)

pub returns-in-Psh : goal.returns-in-Psh
unfolding read_at active_of
returns-in-Psh c = entry_is c.args.point.now c.in-Psh.is (picked_entry _ _ _ _ _ c.put_sheds.ensures (long_of c.args.point.now c.in-Psh.is c.requires) c.columns-in-Psh.ensures (le_of_eq refl))

pub returns-in-NuBal : goal.returns-in-NuBal
unfolding read_at
returns-in-NuBal c = entry_is c.args.point.now c.in-NuBal.is (turned_entry _ _ c.put_turned.ensures (long_of c.args.point.now c.in-NuBal.is c.requires) c.rows.ensures)

pub returns-in-LamUb : goal.returns-in-LamUb
unfolding read_at active_of
returns-in-LamUb c = entry_is c.args.point.now c.in-LamUb.is (picked_entry _ _ _ _ _ c.put_flagged.ensures (long_of c.args.point.now c.in-LamUb.is c.requires) c.rows-in-LamUb.ensures (le_of_eq refl))

pub returns-in-LamLb : goal.returns-in-LamLb
unfolding read_at active_of
returns-in-LamLb c = entry_is c.args.point.now c.in-LamLb.is (picked_entry _ _ _ _ _ c.put_flagged-in-LamLb.ensures (long_of c.args.point.now c.in-LamLb.is c.requires) c.rows-in-LamLb.ensures (le_of_eq refl))

pub returns-in-RhoUb : goal.returns-in-RhoUb
unfolding read_at active_of
returns-in-RhoUb c = entry_is c.args.point.now c.in-RhoUb.is (picked_entry _ _ _ _ _ c.put_flagged-in-RhoUb.ensures (long_of c.args.point.now c.in-RhoUb.is c.requires) c.rows-in-RhoUb.ensures (le_of_eq refl))

pub returns-in-RhoLb : goal.returns-in-RhoLb
unfolding read_at active_of
returns-in-RhoLb c = entry_is c.args.point.now c.in-RhoLb.is (picked_entry _ _ _ _ _ c.put_flagged-in-RhoLb.ensures (long_of c.args.point.now c.in-RhoLb.is c.requires) c.rows-in-RhoLb.ensures (le_of_eq refl))

pub returns-in-MuUb : goal.returns-in-MuUb
unfolding read_at active_of
returns-in-MuUb c = entry_is c.args.point.now c.in-MuUb.is (picked_entry _ _ _ _ _ c.put_sheds-in-MuUb.ensures (long_of c.args.point.now c.in-MuUb.is c.requires) c.rows-in-MuUb.ensures (le_of_eq refl))

pub returns-in-MuLb : goal.returns-in-MuLb
unfolding read_at active_of
returns-in-MuLb c = entry_is c.args.point.now c.in-MuLb.is (lower_entry _ _ _ _ _ _ c.put_lower.ensures (long_of c.args.point.now c.in-MuLb.is c.requires) c.rows-in-MuLb.ensures c.rows-in-MuLb-2.ensures (le_of_eq refl))

pub returns-in-GammaUb : goal.returns-in-GammaUb
unfolding read_at active_of
returns-in-GammaUb c = entry_is c.args.point.now c.in-GammaUb.is (picked_entry _ _ _ _ _ c.put_flagged-in-GammaUb.ensures (long_of c.args.point.now c.in-GammaUb.is c.requires) c.rows-in-GammaUb.ensures (le_of_eq refl))

pub returns-in-GammaLb : goal.returns-in-GammaLb
unfolding read_at active_of
returns-in-GammaLb c = entry_is c.args.point.now c.in-GammaLb.is (picked_entry _ _ _ _ _ c.put_flagged-in-GammaLb.ensures (long_of c.args.point.now c.in-GammaLb.is c.requires) c.rows-in-GammaLb.ensures (le_of_eq refl))

pub returns-in-Epigraph : goal.returns-in-Epigraph
unfolding read_at active_of
returns-in-Epigraph c = entry_is c.args.point.now c.in-Epigraph.is (c.copy_from_slice-in-Epigraph.ensures.after ∙ c.columns-in-Epigraph.ensures)

pub returns-in-SegmentDual : goal.returns-in-SegmentDual
unfolding read_at active_of
returns-in-SegmentDual c = entry_is c.args.point.now c.in-SegmentDual.is (c.copy_from_slice-in-SegmentDual.ensures.after ∙ c.rows-in-SegmentDual.ensures)

pub returns-in-LinearDual : goal.returns-in-LinearDual
unfolding read_at active_of
returns-in-LinearDual c = let p = c.args.point.now in
    let s = p.site in
    entry_is p c.in-LinearDual.is (duals_entry s.grid.plan.counts s.grid.plan.wiring.now s.grid.plan.readings.now s.term_index.now s.term_coefficient.now p.raw.x.now p.raw.z.now p.raw.objective c.put_duals.ensures (long_of c.args.point.now c.in-LinearDual.is c.requires) c.rows-in-LinearDual.ensures c.rows-in-LinearDual-2.ensures)

pub returns-in-LinearValue : goal.returns-in-LinearValue
unfolding read_at
returns-in-LinearValue c = let p = c.args.point.now in
    let s = p.site in
    entry_is p c.in-LinearValue.is (values_entry s.grid.plan.counts s.grid.plan.wiring.now s.grid.plan.readings.now s.term_index.now s.term_coefficient.now p.raw.x.now p.raw.z.now p.raw.objective c.put_values.ensures (long_of c.args.point.now c.in-LinearValue.is c.requires) c.columns-in-LinearValue.ensures c.columns-in-LinearValue-2.ensures)

pub returns-in-Objective : goal.returns-in-Objective
unfolding read_at
returns-in-Objective c = let p = c.args.point.now in
    let s = p.site in
    entry_is p c.in-Objective.is (objective_entry s.grid.plan.counts s.grid.plan.wiring.now s.grid.plan.readings.now s.term_index.now s.term_coefficient.now p.raw.x.now p.raw.z.now p.raw.objective (one_word _ _ (long_of c.args.point.now c.in-Objective.is c.requires)) c.objective_of.ensures c.columns-in-Objective.ensures)
