-- From per-unit to served units: the Rust's scale of each operand and parameter, and the public call.
-- Main definitions: `unit_scale`, `scale_call`. Assumes nothing.
use Rattle.std.specs.Prelude.{ℕ, not, List, [], ◌∷◌, Float}
use Rattle.std.specs.Float.{binary64}
use Rattle.std.specs.Float.Ieee.{div}
use Rattle.float64.specs.Values.{one, base_low, base_high, in_range}
use Rattle.sequence.specs.Answers.{test, first_of, short, Filled, fills}
use Rattle.interface.specs.declared.Operand.{Operand}
use Rattle.interface.specs.declared.Operand.TheVariants.{Price, Dispatch, Flow, Voltage}
use Rattle.interface.specs.declared.Parameter.{Parameter}
use Rattle.interface.specs.declared.Parameter.TheVariants.{Demand, Cost, LineLimit, SeriesAdmittance, ShuntAdmittance, VoltageBound, GenBound, Transformer, Switching, ConstraintLimit}

-- "Nodal objective values divide by the base, power quantities multiply .., voltages are already per-unit"
abbrev pub operand_scale : Operand → Float → Float
operand_scale (Price p) base = div binary64 one base
operand_scale (Dispatch p) base = base
operand_scale (Flow p e) base = base
operand_scale (Voltage k) base = one

-- "Power quantities are MW/MVAr; the W-space voltage bound, the costs, and the admittances keep their per-unit convention"
abbrev pub parameter_scale : Parameter → Float → Float
parameter_scale (Demand p) base = base
parameter_scale LineLimit base = base
parameter_scale (GenBound p b) base = base
parameter_scale ConstraintLimit base = base
parameter_scale (VoltageBound b) base = one
parameter_scale (Cost t) base = one
parameter_scale (SeriesAdmittance g) base = one
parameter_scale (ShuntAdmittance g) base = one
parameter_scale (Transformer t) base = one
parameter_scale Switching base = one

-- "`op_scale / par_scale`, in factors of the system base power"
abbrev pub unit_scale : Operand → Parameter → Float → Float
unit_scale o p base = div binary64 (operand_scale o base) (parameter_scale p base)

-- 3: "base_mva: 0.001 to 1,000,000"; 7: "a lent output shorter than the result"
unfoldable pub scale_number : Float → List Float → List Float → ℕ
scale_number base result sheet =
    first_of (test 3 (not (in_range base_low base_high base)) ∷ test 7 (short result sheet) ∷ [])

-- "`served_unit_scale` (every operand and parameter)": one double
abbrev pub scale_call : Operand → Parameter → Float → List Float → Filled Float
scale_call o p base sheet = fills (scale_number base (unit_scale o p base ∷ []) sheet) (unit_scale o p base ∷ []) sheet
