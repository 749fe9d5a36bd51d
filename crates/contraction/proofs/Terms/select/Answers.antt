-- `contraction::Terms::select` meets its contract. At each row, t terms have been added. Assumes nothing.
use mathlib.Core.Path.{◌≡◌, refl, sym, ◌∙◌}
use Prim.Native.Nat.{◌<◌}
use native.Mathlib.Nat.{zero-add}
use native.Mathlib.Omega.{arith}
use lib.ListN.{length, get_or, length-set}
use lib.Seq.{ext_get_or}
use Rattle.std.proofs.lemmas.List.{get_or-replicate}
use lib.Ieee.{Float, nan, binary64, add}
use Rattle.sequence.proofs.Lists.{turns_none, turns_more, made_length, made_at}
use Rattle.sequence.proofs.Fronts.{changed}
use Rattle.contraction.specs.Contraction.{selection_word}
use Rattle.contraction.proofs.Columns.{below_of}
use Rattle.contraction.proofs.Terms.select.Goals as goal

pub loop-t-init : goal.loop-t-init
unfolding selection_word
loop-t-init c = (λ r h. rw (c.fill.ensures.after (λ y e. e)) (get_or-replicate _ r _ nan (rw c.fill.ensures.len at h) ∙ turns_none _ _), refl)

pub loop-t-preserved : goal.loop-t-preserved
unfolding selection_word
loop-t-preserved c = let l = c.loop-t in
    let w = get_or c.args.self.weights.now l.t nan in
    let k = get_or c.args.self.rows.now l.t 0 in
    let h : k < length l.column = omega (arith, below_of c.args.self.run l.t c.loop-t-test.true, c.requires, c.fill.ensures.len) in
    (λ r i. changed (λ (x : Float). add binary64 x w) l.column k r nan h ∙ rw (turns_more, zero-add, l.invariant.0 r i), simp length-set l.invariant.1)

pub returns : goal.returns
returns c = let l = c.loop-t in
    let e : l.t ≡ length c.args.self.rows.now = omega arith in
    let m : length l.column ≡ length c.args.column.now = l.invariant.1 ∙ c.fill.ensures.len in
    ext_get_or nan _ _ (m ∙ sym (made_length _ _)) (λ r h. (rw e at l.invariant.0) r (rw l.invariant.1 at h) ∙ sym (made_at _ _ r nan (rw m at h)))
