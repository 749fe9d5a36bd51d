-- The element family of each operand and parameter: the Rust's `axis`, case by case.
-- Main definitions: `operand_axis`, `parameter_axis`. Assumes nothing.
use Rattle.interface.specs.declared.VoltageKind.{VoltageKind}
use Rattle.interface.specs.declared.VoltageKind.TheVariants.{Magnitude, Angle, Squared, ProductReal, ProductImag}
use Rattle.interface.specs.declared.Operand.{Operand}
use Rattle.interface.specs.declared.Operand.TheVariants.{Price, Dispatch, Flow, Voltage}
use Rattle.interface.specs.declared.Parameter.{Parameter}
use Rattle.interface.specs.declared.Parameter.TheVariants.{Demand, Cost, LineLimit, SeriesAdmittance, ShuntAdmittance, VoltageBound, GenBound, Transformer, Switching, ConstraintLimit}
use Rattle.interface.specs.declared.Axis.{Axis}
use Rattle.interface.specs.declared.Axis.TheVariants.{Bus, Branch, Generator, Constraint}

-- "The W-space voltage products `wr`/`wi` live on branches; the polar/squared voltages .. on buses"
abbrev pub voltage_axis : VoltageKind → Axis
voltage_axis Magnitude = Bus
voltage_axis Angle = Bus
voltage_axis Squared = Bus
voltage_axis ProductReal = Branch
voltage_axis ProductImag = Branch

-- "The element family this operand's rows index"
abbrev pub operand_axis : Operand → Axis
operand_axis (Price p) = Bus
operand_axis (Dispatch p) = Generator
operand_axis (Flow p e) = Branch
operand_axis (Voltage k) = voltage_axis k

-- "The element family this parameter's columns index"
abbrev pub parameter_axis : Parameter → Axis
parameter_axis (Demand p) = Bus
parameter_axis (Cost t) = Generator
parameter_axis LineLimit = Branch
parameter_axis (SeriesAdmittance g) = Branch
parameter_axis (ShuntAdmittance g) = Bus
parameter_axis (VoltageBound b) = Bus
parameter_axis (GenBound p b) = Generator
parameter_axis (Transformer t) = Branch
parameter_axis Switching = Branch
parameter_axis ConstraintLimit = Constraint
