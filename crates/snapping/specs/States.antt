-- The state in which snapping finds a bus, and an inequality with its dual, by 01's tests in the Rust's order; values follow from the state.
-- Main definitions: `bus_state`, `limit_state`. Assumes nothing.
use Rattle.std.specs.Prelude.{cond, Float}
use Rattle.std.specs.Float.{binary64}
use Rattle.std.specs.Float.Ieee.{sub, lt}
use Rattle.float64.specs.Values.{nought, tolerance}
use Rattle.snapping.specs.declared.BusState.{BusState}
use Rattle.snapping.specs.declared.BusState.TheVariants.{Fixed, AtZero, AtCap, Between}
use Rattle.snapping.specs.declared.LimitState.{LimitState}
use Rattle.snapping.specs.declared.LimitState.TheVariants.{Slack, NotPositive, Kept}

-- "the matrix fixes the bus if cap < tolerance"; then shed < tolerance; then cap - shed < tolerance
abbrev pub bus_state : Float → Float → BusState
bus_state cap shed =
    cond (lt cap tolerance) Fixed (cond (lt shed tolerance) AtZero (cond (lt (sub binary64 cap shed) tolerance) AtCap Between))

-- one of four values, by the state
abbrev pub by_state : BusState → Float → Float → Float → Float → Float
by_state Fixed f z c b = f
by_state AtZero f z c b = z
by_state AtCap f z c b = c
by_state Between f z c b = b

-- "angles and segments are zeroed only above it": slack > tolerance; then the dual's `max` with 0
abbrev pub limit_state : Float → Float → LimitState
limit_state slack dual = cond (lt tolerance slack) Slack (cond (lt nought dual) Kept NotPositive)

-- the snapped dual
abbrev pub limit_value : LimitState → Float → Float
limit_value Slack dual = nought
limit_value NotPositive dual = nought
limit_value Kept dual = dual
