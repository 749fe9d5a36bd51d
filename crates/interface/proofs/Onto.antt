-- Every operand, parameter and mode has a number: what stands at its number is the value itself.
-- Main results: `operand_of_code`, `parameter_of_code`, `mode_of_code`. Assumes nothing.
use mathlib.Core.Path.{◌≡◌, refl}
use Rattle.std.specs.Prelude.{Some}
use Rattle.interface.specs.declared.Power.TheVariants.{Active, Reactive}
use Rattle.interface.specs.declared.End.TheVariants.{From, To}
use Rattle.interface.specs.declared.VoltageKind.TheVariants.{Magnitude, Angle, Squared, ProductReal, ProductImag}
use Rattle.interface.specs.declared.CostTerm.TheVariants.{Quadratic, Linear}
use Rattle.interface.specs.declared.GB.TheVariants.{Conductance, Susceptance}
use Rattle.interface.specs.declared.Bound.TheVariants.{Min, Max}
use Rattle.interface.specs.declared.TapKind.TheVariants.{Ratio, PhaseShift}
use Rattle.interface.specs.declared.Operand.{Operand}
use Rattle.interface.specs.declared.Operand.TheVariants.{Price, Dispatch, Flow, Voltage}
use Rattle.interface.specs.declared.Parameter.{Parameter}
use Rattle.interface.specs.declared.Parameter.TheVariants.{Demand, Cost, LineLimit, SeriesAdmittance, ShuntAdmittance, VoltageBound, GenBound, Transformer, Switching, ConstraintLimit}
use Rattle.interface.specs.declared.Mode.{Mode}
use Rattle.interface.specs.declared.Mode.TheVariants.{Forward, Adjoint, Auto}
use Rattle.interface.specs.Codes.{operand_of, parameter_of, mode_of, operand_code, parameter_code, mode_code}

pub operand_of_code : (o : Operand) → operand_of (operand_code o) ≡ Some o
operand_of_code (Price Active) = refl
operand_of_code (Price Reactive) = refl
operand_of_code (Dispatch Active) = refl
operand_of_code (Dispatch Reactive) = refl
operand_of_code (Flow Active From) = refl
operand_of_code (Flow Active To) = refl
operand_of_code (Flow Reactive From) = refl
operand_of_code (Flow Reactive To) = refl
operand_of_code (Voltage Magnitude) = refl
operand_of_code (Voltage Angle) = refl
operand_of_code (Voltage Squared) = refl
operand_of_code (Voltage ProductReal) = refl
operand_of_code (Voltage ProductImag) = refl

pub parameter_of_code : (p : Parameter) → parameter_of (parameter_code p) ≡ Some p
parameter_of_code (Demand Active) = refl
parameter_of_code (Demand Reactive) = refl
parameter_of_code (Cost Quadratic) = refl
parameter_of_code (Cost Linear) = refl
parameter_of_code LineLimit = refl
parameter_of_code (SeriesAdmittance Conductance) = refl
parameter_of_code (SeriesAdmittance Susceptance) = refl
parameter_of_code (ShuntAdmittance Conductance) = refl
parameter_of_code (ShuntAdmittance Susceptance) = refl
parameter_of_code (VoltageBound Min) = refl
parameter_of_code (VoltageBound Max) = refl
parameter_of_code (GenBound Active Min) = refl
parameter_of_code (GenBound Active Max) = refl
parameter_of_code (GenBound Reactive Min) = refl
parameter_of_code (GenBound Reactive Max) = refl
parameter_of_code (Transformer Ratio) = refl
parameter_of_code (Transformer PhaseShift) = refl
parameter_of_code Switching = refl
parameter_of_code ConstraintLimit = refl

pub mode_of_code : (m : Mode) → mode_of (mode_code m) ≡ Some m
mode_of_code Forward = refl
mode_of_code Adjoint = refl
mode_of_code Auto = refl
