-- sens/dc.rs's `operand_selector` as a call: for each element of an operand the one row of the system that it reads, with weight 1.
-- Main definitions: `served_of`, `selection`, `selector_call`. Assumes nothing.
use Rattle.std.specs.Prelude.{ℕ, ◌+◌, Bool, true, cond, ◌||◌, List, [], ◌∷◌, ◌++◌, eqb, Option, Some, None, Float}
use Rattle.float64.specs.Values.{one}
use Rattle.sequence.specs.Lists.{made, front}
use Rattle.sequence.specs.Answers.{Test, test, first_of, short}
use Rattle.interface.specs.declared.Power.{Power}
use Rattle.interface.specs.declared.Power.TheVariants.{Active, Reactive}
use Rattle.interface.specs.declared.End.{End}
use Rattle.interface.specs.declared.End.TheVariants.{From, To}
use Rattle.interface.specs.declared.VoltageKind.{VoltageKind}
use Rattle.interface.specs.declared.VoltageKind.TheVariants as voltages
use Rattle.interface.specs.declared.Operand.{Operand}
use Rattle.interface.specs.declared.Operand.TheVariants.{Price, Dispatch, Flow, Voltage}
use Rattle.network.specs.declared.Counts.{Counts}
use Rattle.network.specs.Numbers.{Network, network_tests}
use Rattle.solution.specs.Sheet.{pieces}
use Rattle.solution_check.specs.Tests.{counted}
use Rattle.kkt_index.specs.declared.Block.{Block}
use Rattle.kkt_index.specs.declared.Block.TheVariants as blocks
use Rattle.kkt_index.specs.Index.{linear_row_count, block_start}
use Rattle.sens_operands.specs.declared.Reported.{Reported}
use Rattle.sens_operands.specs.declared.Reported.TheVariants as reported

-- ---- "active price, active dispatch, active flow at the from end, angle"

abbrev pub price_of : Power → Option Reported
price_of Active = Some reported.Price
price_of Reactive = None

abbrev pub dispatch_of : Power → Option Reported
dispatch_of Active = Some reported.Dispatch
dispatch_of Reactive = None

abbrev pub end_of : End → Option Reported
end_of From = Some reported.Flow
end_of To = None

abbrev pub flow_of : Power → End → Option Reported
flow_of Active e = end_of e
flow_of Reactive e = None

abbrev pub voltage_of : VoltageKind → Option Reported
voltage_of voltages.Magnitude = None
voltage_of voltages.Angle = Some reported.Angle
voltage_of voltages.Squared = None
voltage_of voltages.ProductReal = None
voltage_of voltages.ProductImag = None

abbrev pub served_of : Operand → Option Reported
served_of (Price p) = price_of p
served_of (Dispatch p) = dispatch_of p
served_of (Flow p e) = flow_of p e
served_of (Voltage k) = voltage_of k

-- the block whose rows are read
abbrev pub block_of : Reported → Block
block_of reported.Price = blocks.NuBal
block_of reported.Dispatch = blocks.Pg
block_of reported.Flow = blocks.Flow
block_of reported.Angle = blocks.Va

-- "`operand_len`": how many elements an operand has
abbrev pub elements : Counts → Reported → ℕ
elements c reported.Price = c.buses
elements c reported.Dispatch = c.generators
elements c reported.Flow = c.branches
elements c reported.Angle = c.buses

-- ---- the selector: its sign, how many entries each element has, and the entries

pub record Selection : Type 0 where
  pub sign : List Float
  pub counts : List ℕ
  pub rows : List ℕ
  pub weights : List Float

abbrev pub selection : List Float → List ℕ → List ℕ → List Float → Selection
selection s k r w = record { sign = s; counts = k; rows = r; weights = w }

-- "`Selector::new`": one entry for each element, with weight 1; the sign is 1
abbrev pub unit_rows : ℕ → ℕ → Selection
unit_rows start n = selection (one ∷ []) (made (λ i. 1) n) (made (λ i. start + i) n) (made (λ i. one) n)

abbrev pub start_of : Counts → List ℕ → List Float → Reported → ℕ
start_of c w r k = block_start c (pieces c w) (linear_row_count c w r) (block_of k)

abbrev pub selector_of : Counts → List ℕ → List Float → Reported → Selection
selector_of c w r k = unit_rows (start_of c w r k) (elements c k)

-- one of four lent sheets is short
abbrev pub short_of : Selection → Selection → Bool
short_of x s = short x.sign s.sign || short x.counts s.counts || short x.rows s.rows || short x.weights s.weights

abbrev pub fronts : Selection → Selection → Selection
fronts x s = selection (front x.sign s.sign) (front x.counts s.counts) (front x.rows s.rows) (front x.weights s.weights)

-- ---- the call

pub record Selected : Type 0 where
  pub number : ℕ
  pub count : ℕ
  pub left : Selection

abbrev pub selected : ℕ → ℕ → Selection → Selected
selected n k s = record { number = n; count = k; left = s }

-- a served operand on an accepted network
unfoldable pub served_laid : Counts → List ℕ → List Float → Reported → Selection → Selected
served_laid c w r k s = cond (short_of (selector_of c w r k) s) (selected 7 0 s) (selected 0 (elements c k) (fronts (selector_of c w r k) s))

-- "4: operand not served"; "7: a lent output shorter than the result"
abbrev pub own_tests : Counts → List ℕ → List Float → Option Reported → Selection → List Test
own_tests c w r (Some k) s = test 7 (short_of (selector_of c w r k) s) ∷ []
own_tests c w r None s = test 4 true ∷ []

unfoldable pub selector_number : Network → Option Reported → Selection → ℕ
selector_number N k s = first_of (network_tests N true true ++ own_tests (counted N) N.wiring N.readings k s)

-- on 0 the selector is in front of the sheets, and the count is of entries; else nothing moves
unfoldable pub laid : ℕ → Counts → List ℕ → List Float → Option Reported → Selection → Selected
laid number c w r (Some k) s = cond (eqb number 0) (selected 0 (elements c k) (fronts (selector_of c w r k) s)) (selected number 0 s)
laid number c w r None s = selected number 0 s

abbrev pub selector_call : Network → Operand → Selection → Selected
selector_call N o s = laid (selector_number N (served_of o) s) (counted N) N.wiring N.readings (served_of o) s
