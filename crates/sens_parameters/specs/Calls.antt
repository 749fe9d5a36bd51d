-- `parameter_jacobian` as a call: 01's number, the count of columns, and the sheet afterwards. The last q + 1 words of the solution sheet are not looked at.
-- Main definitions: `served_of`, `own_tests`, `jacobian_call`. Assumes nothing.
use Rattle.std.specs.Prelude.{ℕ, Bool, true, false, cond, not, ◌&&◌, List, [], ◌∷◌, ◌++◌, length, get_or, eqb, ltb, Option, Some, None, Float}
use Rattle.sequence.specs.Lists.{every, some, front}
use Rattle.sequence.specs.Answers.{Test, test, first_of, short, Filled, filled}
use Rattle.interface.specs.declared.Power.{Power}
use Rattle.interface.specs.declared.Power.TheVariants.{Active, Reactive}
use Rattle.interface.specs.declared.CostTerm.{CostTerm}
use Rattle.interface.specs.declared.CostTerm.TheVariants as terms
use Rattle.interface.specs.declared.GB.{GB}
use Rattle.interface.specs.declared.GB.TheVariants as parts
use Rattle.interface.specs.declared.Parameter.{Parameter}
use Rattle.interface.specs.declared.Parameter.TheVariants.{Demand, Cost, LineLimit, SeriesAdmittance, ShuntAdmittance, VoltageBound, GenBound, Transformer, Switching, ConstraintLimit}
use Rattle.network.specs.declared.Counts.{Counts}
use Rattle.network.specs.Layout.{segments_at}
use Rattle.network.specs.Numbers.{Network}
use Rattle.solution.specs.Sheet.{pieces}
use Rattle.solution_check.specs.Tests.{counted, pieces_of, solution_tests}
use Rattle.parameter_column.specs.declared.Served.{Served}
use Rattle.parameter_column.specs.declared.Served.TheVariants as served
use Rattle.parameter_column.specs.Columns.{elements}
use Rattle.parameter_sheet.specs.Sheet.{jacobian}

-- ---- "only active demand, the two costs, line limit, susceptance, switching and constraint limit are" served

abbrev pub demand_of : Power → Option Served
demand_of Active = Some served.Demand
demand_of Reactive = None

abbrev pub cost_of : CostTerm → Option Served
cost_of terms.Quadratic = Some served.CostQuadratic
cost_of terms.Linear = Some served.CostLinear

abbrev pub series_of : GB → Option Served
series_of parts.Conductance = None
series_of parts.Susceptance = Some served.BranchSusceptance

abbrev pub served_of : Parameter → Option Served
served_of (Demand p) = demand_of p
served_of (Cost t) = cost_of t
served_of LineLimit = Some served.LineLimit
served_of (SeriesAdmittance g) = series_of g
served_of (ShuntAdmittance g) = None
served_of (VoltageBound b) = None
served_of (GenBound p b) = None
served_of (Transformer t) = None
served_of Switching = Some served.Switching
served_of ConstraintLimit = Some served.ConstraintLimit

-- ---- the call's own tests

-- "5: column not below its length"
unfoldable pub columns_hold : Counts → Served → List ℕ → Bool
columns_hold c k is = every (λ t. ltb (get_or is t 0) (elements c k)) (length is)

abbrev pub is_cost : Served → Bool
is_cost served.Demand = false
is_cost served.CostQuadratic = true
is_cost served.CostLinear = true
is_cost served.LineLimit = false
is_cost served.BranchSusceptance = false
is_cost served.Switching = false
is_cost served.ConstraintLimit = false

-- "6: `Cost` asked of a generator with piecewise cost"
unfoldable pub some_piecewise : Counts → List ℕ → List ℕ → Bool
some_piecewise c w is = some (λ t. not (eqb (segments_at c w (get_or is t 0)) 0)) (length is)

-- 5 or 6 of a parameter's columns, or 0
unfoldable pub columns_number : Counts → List ℕ → Served → List ℕ → ℕ
columns_number c w k is = first_of (test 5 (not (columns_hold c k is)) ∷ test 6 (is_cost k && some_piecewise c w is) ∷ [])

abbrev pub columns_of : Network → List Float → Served → List ℕ → List Float
columns_of N s k is = jacobian (counted N) N.wiring N.indexes N.coefficients (pieces_of N) N.readings s k is

abbrev pub result_of : Network → List Float → Option Served → List ℕ → List Float
result_of N s (Some k) is = columns_of N s k is
result_of N s None is = []

-- "4: parameter not served, with at least one column"
abbrev pub own_tests : Network → List Float → Option Served → List ℕ → List Float → List Test
own_tests N s (Some k) is sheet =
    test 5 (not (columns_hold (counted N) k is)) ∷ test 6 (is_cost k && some_piecewise (counted N) N.wiring is) ∷ test 7 (short (columns_of N s k is) sheet) ∷ []
own_tests N s None is sheet = test 4 (not (eqb (length is) 0)) ∷ []

unfoldable pub jacobian_number : Network → List Float → Option Served → List ℕ → List Float → ℕ
jacobian_number N s k is sheet = first_of (solution_tests false N s ++ own_tests N s k is sheet)

-- the number of a served parameter on an accepted network
unfoldable pub served_number : Counts → List ℕ → List ℕ → List Float → List Float → List Float → Served → List ℕ → List Float → ℕ
served_number c w ti tc r s k is sheet =
    first_of (test 5 (not (columns_hold c k is)) ∷ test 6 (is_cost k && some_piecewise c w is) ∷ test 7 (short (jacobian c w ti tc (pieces c w) r s k is) sheet) ∷ [])

-- on 0 the columns fill the front, and the count is of columns; else the count is 0 and nothing is written
unfoldable pub columns_filled : ℕ → List ℕ → List Float → List Float → Filled Float
columns_filled number is result sheet = cond (eqb number 0) (filled 0 (length is) (front result sheet)) (filled number 0 sheet)

-- the columns where the sheet holds them, and number 7 where it is short
abbrev pub columns_laid : List ℕ → List Float → List Float → Filled Float
columns_laid is result sheet = columns_filled (cond (short result sheet) 7 0) is result sheet

abbrev pub jacobian_call : Network → List Float → Parameter → List ℕ → List Float → Filled Float
jacobian_call N s p is sheet = columns_filled (jacobian_number N s (served_of p) is sheet) is (result_of N s (served_of p) is) sheet
