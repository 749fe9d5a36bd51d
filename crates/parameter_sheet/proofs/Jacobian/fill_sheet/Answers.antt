-- `Jacobian::fill_sheet` meets its contract: a column more each turn, through the part that begins at its place. Assumes nothing.
use Prim.Native.Nat.{ℕ, ◌+◌, ◌*◌, ◌-◌, ◌≤◌}
use mathlib.Core.Path.{◌≡◌, sym, ap, ◌∙◌}
use mathlib.Core.List.{List}
use native.Mathlib.Nat.{le_of_eq, le_trans, zero-mul, suc-mul}
use native.Mathlib.Numerals.{add-one}
use native.Mathlib.Omega.{arith}
use lib.Ieee.{Float}
use borrow.Rule.Slice.PartMut.{put_mid}
use lib.ListN.{length, get_or}
use Rattle.parameter_column.specs.Columns.{column_words}
use Rattle.sens_snap.proofs.Stores.{no_run, run_front, fronted}
use Rattle.parameter_sheet.specs.Sheet.{jacobian}
use Rattle.parameter_sheet.proofs.Filling.{column_fits, part_back, column_long}
use Rattle.parameter_sheet.proofs.Jacobian.fill_sheet.Goals as goal

pub loop-element-init : goal.loop-element-init
loop-element-init c = (sym (zero-mul _), no_run _ _ _)

pub loop-element-preserved : goal.loop-element-preserved
loop-element-preserved c = let a = c.args in
    let j = a.self.now in
    let s = j.site in
    let p = s.point.grid.plan in
    let l = c.loop-element in
    let f : l.at + a.self.now.index.dim ≤ length l.sheet = rw (l.invariant.0, l.invariant.1.kept) (column_fits a.self.now.index.dim l.element-index (length a.columns.now) (length a.sheet.now) c.loop-element-test.true c.requires.dim_in_bounds) in
    let g = column_words p.counts p.wiring.now s.term_index.now s.term_coefficient.now s.point.pieces p.readings.now s.point.sheet.now j.parameter (get_or a.columns.now l.element-index 0) in
    let n = rw j.same_pieces at (column_long p.counts p.wiring.now s.term_index.now s.term_coefficient.now p.readings.now s.point.sheet.now j.index j.parameter (get_or a.columns.now l.element-index 0) j.indexes) in
    let e = rw c.wide.ensures.0 at c.fill_column.ensures in
    let q = ap (λ (y : List Float). put_mid l.at ((l.at + a.self.now.index.dim) - l.at) l.sheet y) e ∙ part_back l.at a.self.now.index.dim l.sheet g n f in
    (rw (l.invariant.0, add-one) (sym (suc-mul l.element-index a.self.now.index.dim)), run_front a.self.now.index.dim l.invariant.1 n q)

pub returns : goal.returns
unfolding jacobian
returns c = let a = c.args in
    let l = c.loop-element in
    let e : l.element-index ≡ length a.columns.now = omega (arith, c.loop-element-test.false) in
    let r = rw e at l.invariant.1 in
    r.is ∙ fronted _ _ (le_trans (le_of_eq (r.long ∙ l.invariant.0 ∙ ap (λ (y : ℕ). y * a.self.now.index.dim) e)) c.requires.dim_in_bounds)
