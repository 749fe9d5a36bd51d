-- `contraction::contract_columns` meets its contract. The loop's invariant: each element's first c words are stored. Assumes nothing.
use mathlib.Core.Path.{◌≡◌, refl, ◌∙◌}
use mathlib.Core.List.{List}
use Prim.Native.Nat.{ℕ}
use native.Mathlib.Omega.{arith}
use Rattle.sequence.specs.Lists.{each, front}
use Rattle.contraction.proofs.Strides.{rows_none, rows_more, rows_front}
use Rattle.contraction.proofs.contract_columns.Goals as goal

-- no element has no word

no_words : {A : Type 0} (n : ℕ) (f : ℕ → List A) (out : List A) → n ≡ 0 → out ≡ front (each n f) out
unfolding front each
no_words n f out e = rw e

pub returns-then-solved-eq0 : goal.returns-then-solved-eq0
returns-then-solved-eq0 c = no_words _ _ _ c.if-solved-eq0.true

pub loop-c-init : goal.loop-c-init
loop-c-init c = (rows_none _ _ _ _, refl)

pub loop-c-preserved : goal.loop-c-preserved
loop-c-preserved c = let l = c.loop-c in
    (c.adjoint_column.ensures ∙ rw l.invariant.0 (rows_more _ _ _ _ _ c.loop-c-test.true), omega arith)

pub returns : goal.returns
returns c = let l = c.loop-c in
    let e : l.c ≡ c.args.parameter.columns = omega arith in
    (rw e at l.invariant.0) ∙ rows_front _ _ _ _ c.requires.columns_in_bounds
