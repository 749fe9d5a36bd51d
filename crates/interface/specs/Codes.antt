-- Numbers for operands, parameters and modes: the order of the Rust's declarations, inner variants within, the last named turning first.
-- Main definitions: `operand_of`, `parameter_of`, `mode_of`, and the number of each value. Assumes nothing.
use Rattle.std.specs.Prelude.{◌≡◌, ℕ, ◌+◌, ◌*◌, List, [], ◌∷◌, Option, Some, None, Result, MatchResult, map, get_or}
use Rattle.interface.specs.declared.Power.{Power}
use Rattle.interface.specs.declared.Power.TheVariants.{Active, Reactive}
use Rattle.interface.specs.declared.End.{End}
use Rattle.interface.specs.declared.End.TheVariants.{From, To}
use Rattle.interface.specs.declared.VoltageKind.{VoltageKind}
use Rattle.interface.specs.declared.VoltageKind.TheVariants.{Magnitude, Angle, Squared, ProductReal, ProductImag}
use Rattle.interface.specs.declared.CostTerm.{CostTerm}
use Rattle.interface.specs.declared.CostTerm.TheVariants.{Quadratic, Linear}
use Rattle.interface.specs.declared.GB.{GB}
use Rattle.interface.specs.declared.GB.TheVariants.{Conductance, Susceptance}
use Rattle.interface.specs.declared.Bound.{Bound}
use Rattle.interface.specs.declared.Bound.TheVariants.{Min, Max}
use Rattle.interface.specs.declared.TapKind.{TapKind}
use Rattle.interface.specs.declared.TapKind.TheVariants.{Ratio, PhaseShift}
use Rattle.interface.specs.declared.Operand.{Operand}
use Rattle.interface.specs.declared.Operand.TheVariants.{Price, Dispatch, Flow, Voltage}
use Rattle.interface.specs.declared.Parameter.{Parameter}
use Rattle.interface.specs.declared.Parameter.TheVariants.{Demand, Cost, LineLimit, SeriesAdmittance, ShuntAdmittance, VoltageBound, GenBound, Transformer, Switching, ConstraintLimit}
use Rattle.interface.specs.declared.Mode.{Mode}
use Rattle.interface.specs.declared.Mode.TheVariants.{Forward, Adjoint, Auto}
use Rattle.interface.specs.declared.codes.UnknownCode.{UnknownCode}

-- every operand, in the order of the numbers 0 to 12
abbrev pub operands : List Operand
operands =
    Price Active ∷ Price Reactive ∷ Dispatch Active ∷ Dispatch Reactive
    ∷ Flow Active From ∷ Flow Active To ∷ Flow Reactive From ∷ Flow Reactive To
    ∷ Voltage Magnitude ∷ Voltage Angle ∷ Voltage Squared ∷ Voltage ProductReal ∷ Voltage ProductImag ∷ []

-- every parameter, in the order of the numbers 0 to 18
abbrev pub parameters : List Parameter
parameters =
    Demand Active ∷ Demand Reactive ∷ Cost Quadratic ∷ Cost Linear ∷ LineLimit
    ∷ SeriesAdmittance Conductance ∷ SeriesAdmittance Susceptance ∷ ShuntAdmittance Conductance ∷ ShuntAdmittance Susceptance
    ∷ VoltageBound Min ∷ VoltageBound Max
    ∷ GenBound Active Min ∷ GenBound Active Max ∷ GenBound Reactive Min ∷ GenBound Reactive Max
    ∷ Transformer Ratio ∷ Transformer PhaseShift ∷ Switching ∷ ConstraintLimit ∷ []

-- every mode, in the order of the numbers 0 to 2
abbrev pub modes : List Mode
modes = Forward ∷ Adjoint ∷ Auto ∷ []

-- the operand that stands at a number; past the last, none is known
abbrev pub operand_of : ℕ → Option Operand
operand_of code = get_or (map Some operands) code None

-- the parameter, likewise
abbrev pub parameter_of : ℕ → Option Parameter
parameter_of code = get_or (map Some parameters) code None

-- the mode, likewise
abbrev pub mode_of : ℕ → Option Mode
mode_of code = get_or (map Some modes) code None

-- what decoding a number gives: the value that it stands for, or the number itself where it stands for none
abbrev pub Decodes : {A : Type 0} → ℕ → Option A → Result A UnknownCode → Type 0
Decodes code value r = MatchResult r (λ a. value ≡ Some a) (λ e. (value ≡ None) × (e.0 ≡ code))

-- ---- a variant's place in its declaration

-- "Active or reactive power"
abbrev power_code : Power → ℕ
power_code Active = 0
power_code Reactive = 1

-- "Which end of a branch a flow is measured at"
abbrev end_code : End → ℕ
end_code From = 0
end_code To = 1

-- "How a voltage operand is represented"
abbrev voltage_code : VoltageKind → ℕ
voltage_code Magnitude = 0
voltage_code Angle = 1
voltage_code Squared = 2
voltage_code ProductReal = 3
voltage_code ProductImag = 4

-- "the quadratic `cq` or the linear `cl`"
abbrev cost_code : CostTerm → ℕ
cost_code Quadratic = 0
cost_code Linear = 1

-- "Conductance `g` or susceptance `b`"
abbrev part_code : GB → ℕ
part_code Conductance = 0
part_code Susceptance = 1

-- "A min or max bound"
abbrev bound_code : Bound → ℕ
bound_code Min = 0
bound_code Max = 1

-- "the tap ratio or the phase-shift angle"
abbrev tap_code : TapKind → ℕ
tap_code Ratio = 0
tap_code PhaseShift = 1

-- ---- the number of each value

-- of an operand: those declared before it, and its place among its own
abbrev pub operand_code : Operand → ℕ
operand_code (Price p) = power_code p
operand_code (Dispatch p) = 2 + power_code p
operand_code (Flow p e) = 4 + 2 * power_code p + end_code e
operand_code (Voltage k) = 8 + voltage_code k

-- of a parameter, likewise
abbrev pub parameter_code : Parameter → ℕ
parameter_code (Demand p) = power_code p
parameter_code (Cost t) = 2 + cost_code t
parameter_code LineLimit = 4
parameter_code (SeriesAdmittance g) = 5 + part_code g
parameter_code (ShuntAdmittance g) = 7 + part_code g
parameter_code (VoltageBound b) = 9 + bound_code b
parameter_code (GenBound p b) = 11 + 2 * power_code p + bound_code b
parameter_code (Transformer t) = 15 + tap_code t
parameter_code Switching = 17
parameter_code ConstraintLimit = 18

-- of a mode: 0 forward, 1 adjoint, 2 auto
abbrev pub mode_code : Mode → ℕ
mode_code Forward = 0
mode_code Adjoint = 1
mode_code Auto = 2
