-- `sequence::laying::lay` refuses where the sheets are short. Assumes nothing.
use Prim.Native.Nat.{◌<◌}
use native.Mathlib.Omega.{arith}
use borrow.Author.Tests.{lt-ltb}
use lib.ListN.{length}
use Rattle.sequence.specs.Sheets.{room}
use Rattle.sequence.proofs.Sheets.{lays_refused}
use Rattle.sequence.proofs.laying.lay.Goals as goal
use Rattle.sequence.proofs.laying.lay.Goals.{then-most-cap, else-most-cap}

pub returns-then-cap-limit : goal.returns-then-cap-limit
returns-then-cap-limit g c ts h l = let a = c.args in
    let s : room a.rows.now a.cols.now a.values.now < length ts = elim c.if-most-cap.branch [
      | then-most-cap w ↦ omega (arith, w.limit-is, w.if-most-cap.true, c.if-cap-limit.true)
      | else-most-cap w ↦ omega (arith, w.limit-is, w.counted-limit.ensures ts h, c.room-cap.ensures, c.if-cap-limit.true)
    ] in
    lays_refused ts _ _ _ (rw (lt-ltb (room a.rows.now a.cols.now a.values.now) (length ts) s)) (λ z. absurd (omega arith))
