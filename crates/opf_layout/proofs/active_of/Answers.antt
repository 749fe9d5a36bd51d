-- `opf_layout::active_of` meets its contract: each count is its walk's. Assumes nothing.
use Rattle.opf_layout.specs.Layout.{active_of}
use Rattle.opf_layout.proofs.active_of.Goals as goal

pub returns : goal.returns
unfolding active_of
returns c = let inequal = c.count_inequalities.ensures in
    let equal = c.count_equalities.ensures in
    let piece = c.piece_count.ensures in
    let phase = c.count_flags-3.ensures in
    let shed = c.count_sheds.ensures in
    let gen = c.count_flags-2.ensures in
    let line = c.count_flags.ensures in (
      rw (inequal.0, equal.0, piece.0, phase.0, shed.0, gen.0, line.0),
      record {
        few = c.args.plan.now.wiring_laid.few;
        few_lines = line.1;
        few_generators = gen.1;
        few_sheds = shed.1;
        few_phases = phase.1;
        few_pieces = piece.1;
        few_equalities = equal.1;
        few_inequalities = inequal.1;
      },
    )
