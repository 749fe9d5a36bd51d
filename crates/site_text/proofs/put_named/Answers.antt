-- `site_text::put_named` meets its contract: the lines of a triplet more, or none. Assumes nothing.
use mathlib.Core.Path.{refl, sym, ◌∙◌}
use Rattle.kkt_index.specs.Index.{start_in}
use Rattle.change_table.specs.Table.{cells_of, cells_at}
use native.Mathlib.Omega.{arith}
use Rattle.site_text.proofs.Named.{begin, named_turn, other_turn}
use Rattle.site_text.proofs.put_named.Goals as goal
use Rattle.site_text.proofs.put_named.Goals.{then-is_named, else-is_named}

pub loop-t-init : goal.loop-t-init
loop-t-init c = let a = c.args in (begin (cells_at (start_in a.places.now.index) (cells_of a.places.now.wiring.counts a.places.now.wiring.words.now a.f a.i)) a.rows.now a.cols.now a.values.now a.text.now, omega arith)

pub loop-t-preserved : goal.loop-t-preserved
loop-t-preserved c = let a = c.args in
    let few = c.requires.count_in_bounds in
    let l = c.loop-t-test.true in
    let i = c.loop-t.invariant in
    elim c.if-is_named.branch [
      | then-is_named w ↦ rw w.text-is (
        named_turn (cells_at (start_in a.places.now.index) (cells_of a.places.now.wiring.counts a.places.now.wiring.words.now a.f a.i)) a.rows.now a.cols.now a.values.now c.loop-t.t (omega (arith, few, l)) (omega (arith, few, l)) (omega (arith, few, l)) i.0 (sym w.if-is_named.true ∙ c.is_named.ensures) w.put_triplet_line.ensures.wrote,
        omega (arith, i.1, w.put_triplet_line.ensures.most),
      )
      | else-is_named w ↦ rw w.text-is (
        other_turn (cells_at (start_in a.places.now.index) (cells_of a.places.now.wiring.counts a.places.now.wiring.words.now a.f a.i)) a.rows.now a.cols.now a.values.now c.loop-t.t (omega (arith, few, l)) (omega (arith, few, l)) (omega (arith, few, l)) i.0 (sym w.if-is_named.false ∙ c.is_named.ensures) refl,
        omega (arith, i.1),
      )
    ]
