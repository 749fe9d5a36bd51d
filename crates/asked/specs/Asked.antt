-- What is asked for by number: a number past the last stands for something that is not served.
-- Main definitions: `parameter_asked`, `operand_asked`, `mode_asked`, `scaling`. Assumes nothing.
use Rattle.std.specs.Prelude.{ℕ, true, not, List, [], ◌∷◌, Option, Some, None, Float}
use Rattle.float64.specs.Values.{base_low, base_high, in_range}
use Rattle.sequence.specs.Answers.{Filled, filled, test, first_of}
use Rattle.interface.specs.Scales.{scale_call}
use Rattle.interface.specs.declared.Power.TheVariants.{Reactive}
use Rattle.interface.specs.declared.Operand.{Operand}
use Rattle.interface.specs.declared.Operand.TheVariants.{Price}
use Rattle.interface.specs.declared.Parameter.{Parameter}
use Rattle.interface.specs.declared.Parameter.TheVariants.{Demand}
use Rattle.interface.specs.declared.Mode.{Mode}
use Rattle.interface.specs.declared.Mode.TheVariants.{Auto}

abbrev pub parameter_asked : Option Parameter → Parameter
parameter_asked (Some p) = p
parameter_asked None = Demand Reactive

abbrev pub operand_asked : Option Operand → Operand
operand_asked (Some o) = o
operand_asked None = Price Reactive

abbrev pub mode_asked : Option Mode → Mode
mode_asked (Some m) = m
mode_asked None = Auto

-- ---- the unit scale by numbers

-- an operand or a parameter that is none: 4, but for a base outside its limits
unfoldable pub unknown_number : Float → ℕ
unknown_number base = first_of (test 3 (not (in_range base_low base_high base)) ∷ test 4 true ∷ [])

abbrev pub unknown_scale : Float → List Float → Filled Float
unknown_scale base sheet = filled (unknown_number base) 0 sheet

abbrev pub known_scale : Operand → Option Parameter → Float → List Float → Filled Float
known_scale o (Some p) base sheet = scale_call o p base sheet
known_scale o None base sheet = unknown_scale base sheet

abbrev pub scaling : Option Operand → Option Parameter → Float → List Float → Filled Float
scaling (Some o) p base sheet = known_scale o p base sheet
scaling None p base sheet = unknown_scale base sheet
