-- `sens_snap::duals::snap_linear_into` meets its contract: a row more each turn. Assumes nothing.
-- the places of a row's three words
use Prim.Native.Nat.{ℕ, ◌+◌, ◌*◌, ◌≤◌, ◌<◌}
use mathlib.Core.Path.{◌≡◌, refl, ◌∙◌}
use native.Mathlib.Omega.{arith}
use mir.Syntax.{w64}
use mir.Val.{Fits}
use Rattle.snapping.specs.Snap.{dual_words}
use Rattle.snapping.proofs.Words.{dual_long}
use Rattle.sens_snap.proofs.Stores.{no_run, run_front, fronted, three}
use Rattle.sens_snap.proofs.duals.snap_linear_into.Goals as goal

fits : {q to : ℕ} (a : ℕ) → q < to → to ≤ 64 → a ≤ 2 → Fits w64 (3 * q + a) × Fits w64 ((3 * q + a) * 8)
fits a h k l = (omega arith, omega arith)

first : {q to : ℕ} → q < to → to ≤ 64 → Fits w64 (3 * q) × Fits w64 (3 * q * 8)
first h k = (omega arith, omega arith)

inside : {q to rows n m : ℕ} (a : ℕ) → q < to → to ≡ rows → 3 * rows ≤ n → m ≡ n → a ≤ 2 → 3 * q + a < m
inside a h e k l b = omega arith

pub loop-q-init : goal.loop-q-init
loop-q-init c = (no_run _ _ _, omega arith, refl, omega (arith, c.args.site.now.point.grid.plan.readings_laid.few))

pub loop-q-preserved : goal.loop-q-preserved
unfolding dual_words
loop-q-preserved c = let l = c.loop-q in
    let z : 3 * (l.q + 1) ≡ 3 * l.q + 3 = omega arith in
    let d = c.snap_linear_at-d.result in
    (rw z (run_front 3 l.invariant.0 refl (three l.out (3 * l.q) d.upper d.lower d.equality ∙ rw c.snap_linear_at-d.ensures)), omega arith, l.invariant.2, l.invariant.3)

pub returns-clause-out_after : goal.returns-clause-out_after
returns-clause-out_after c = let l = c.loop-q in
    let e : l.q ≡ c.args.site.now.point.grid.plan.counts.rows = omega arith in
    let r = rw e at l.invariant.0 in
    let d = dual_long c.args.site.now.point.grid.plan.counts c.args.site.now.point.grid.plan.wiring.now c.args.site.now.term_index.now c.args.site.now.term_coefficient.now c.args.site.now.point.pieces c.args.site.now.point.grid.plan.readings.now c.args.site.now.point.sheet.now in r.is ∙ fronted _ _ (omega (arith, d))

pub returns-clause-sheet_len : goal.returns-clause-sheet_len
returns-clause-sheet_len c = let d = dual_long c.args.site.now.point.grid.plan.counts c.args.site.now.point.grid.plan.wiring.now c.args.site.now.term_index.now c.args.site.now.term_coefficient.now c.args.site.now.point.pieces c.args.site.now.point.grid.plan.readings.now c.args.site.now.point.sheet.now in
    d
