-- `opf_readback::columns` meets its contract: the block lies within x, from its start on. Assumes nothing.
use mathlib.Core.Path.{sym, ap, ◌∙◌}
use Prim.Native.Nat.{ℕ, ◌+◌}
use native.Mathlib.Omega.{arith}
use Rattle.opf_layout.specs.declared.Active.{Active}
use Rattle.opf_layout.specs.Layout.{column_size}
use Rattle.opf_layout.proofs.Counting.{narrow}
use Rattle.opf_readback.proofs.Entries.{column_room, columns_block}
use Rattle.opf_readback.proofs.columns.Goals as goal

pub column-from-requires : goal.column-from-requires
column-from-requires c = let h = c.args.point.now.raw_laid in
    narrow _ _ _ h.bounded h.placed

pub slice_bounds-result-end : goal.slice_bounds-result-end
slice_bounds-result-end c = let p = c.args.point.now in
    let s = c.column_size-size.ensures ∙ ap (λ (a : Active). column_size p.site.grid.plan.counts a c.args.b) p.raw_laid.placed.active_is in
    omega (arith, c.column-from.ensures, s, column_room p.raw_laid c.args.b)

pub returns : goal.returns
returns c = let p = c.args.point.now in
    let s = c.column_size-size.ensures ∙ ap (λ (a : Active). column_size p.site.grid.plan.counts a c.args.b) p.raw_laid.placed.active_is in
    columns_block p.raw_laid p.site.term_index.now p.site.term_coefficient.now p.raw.objective c.args.b c.column-from.ensures.0 (ap (λ (n : ℕ). c.column-from.result + n) (sym s))
