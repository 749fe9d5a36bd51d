-- What each public call answers and leaves, for every input: numbers in 01's order, counts, and the words of its sheets. Assumes nothing.
use Rattle.std.specs.Prelude.{ℕ, Bool, true, cond, ◌&&◌, List, [], ◌∷◌, ◌++◌, length, eqb, ltb, leb, Float, Result, Ok, Err}
use Rattle.float64.specs.Values.{within, raw_limit, sheet_limit}
use Rattle.sequence.specs.Lists.{made}
use Rattle.sequence.specs.declared.Refusal.{Refusal}
use Rattle.sequence.specs.Answers.{Test, test, first_of, short, Filled, fills, refusal_number}
use Rattle.sequence.specs.declared.Triplet.{Triplet}
use Rattle.sequence.specs.Sheets.{Laid, lays, short_list}
use Rattle.network.specs.declared.Counts.{Counts}
use Rattle.model.specs.declared.RowKind as declared
use Rattle.model.specs.Kinds.{kind_number}
use Rattle.network.specs.Layout.{counts_of}
use Rattle.network.specs.Numbers.{Network, network_tests, all_within}
use Rattle.model.specs.Quantities.{shed_cap, flow_offset, phase, network_at, fixed_at, generator_cost, evaluate}
use Rattle.model.specs.Rows.{row_limits, kind_of}
use Rattle.susceptance.specs.Susceptance.{susceptance_coo}

-- the network's counts
abbrev pub counted : Network → Counts
counted N = counts_of N.wiring

-- an element's index is below its count, and the sheet has room for one number
abbrev pub element_tests : ℕ → ℕ → ℕ → List Test
element_tests count i room = test 5 (leb count i) ∷ test 7 (ltb room 1) ∷ []

-- a call for one number of an element: index i of `count` of them; a call's own sizes and values hold or not
unfoldable pub element_number : Network → Bool → Bool → ℕ → ℕ → ℕ → ℕ
element_number N sizes values i count room = first_of (network_tests N sizes values ++ element_tests count i room)

abbrev pub element_call : Network → Bool → Bool → ℕ → ℕ → Float → List Float → Filled Float
element_call N sizes values i count x sheet = fills (element_number N sizes values i count (length sheet)) (x ∷ []) sheet

abbrev pub shed_cap_call : Network → ℕ → List Float → Filled Float
shed_cap_call N i sheet = element_call N true true i (counted N).buses (shed_cap (counted N) N.wiring N.readings i) sheet

abbrev pub flow_offset_call : Network → ℕ → List Float → Filled Float
flow_offset_call N e sheet = element_call N true true e (counted N).branches (flow_offset (counted N) N.readings e) sheet

-- the power is a raw reading
abbrev pub generator_cost_call : Network → ℕ → Float → List Float → Filled Float
generator_cost_call N j p sheet =
    element_call N true (within raw_limit p) j (counted N).generators (generator_cost (counted N) N.wiring N.readings j p) sheet

-- flows and dispatch are sheet readings, as many as there are branches and generators
abbrev pub evaluate_call : Network → ℕ → List Float → List Float → List Float → Filled Float
evaluate_call N q f pg sheet =
    element_call N (eqb (length f) (counted N).branches && eqb (length pg) (counted N).generators) (all_within sheet_limit f && all_within sheet_limit pg) q (counted N).rows
    (evaluate (counted N) N.wiring N.indexes N.coefficients q f pg) sheet

-- which limits a row has: the call's number, and the number of the row's kind
unfoldable pub row_kind_number : Network → ℕ → ℕ
row_kind_number N q = first_of (network_tests N true true ++ test 5 (leb (counted N).rows q) ∷ [])

pub record KindAnswer : Type 0 where
  pub number : ℕ
  pub kind : ℕ

abbrev pub row_kind : ℕ → ℕ → KindAnswer
row_kind n k = record { number = n; kind = k }

-- what a call that hands this back says: kind 0 where it refuses
abbrev pub kind_answered : Result declared.RowKind Refusal → KindAnswer
kind_answered (Ok k) = row_kind 0 (kind_number k)
kind_answered (Err e) = row_kind (refusal_number e) 0

unfoldable pub row_kind_call : Network → ℕ → KindAnswer
unfolding row_kind_number
row_kind_call N q =
    cond (eqb (row_kind_number N q) 0) (row_kind 0 (kind_of (row_limits (counted N) N.wiring N.readings q))) (row_kind (row_kind_number N q) 0)

-- a call for a number for every bus
unfoldable pub sheet_number : Network → List Float → List Float → ℕ
sheet_number N result sheet = first_of (network_tests N true true ++ test 7 (short result sheet) ∷ [])

abbrev pub bus_call : Network → (ℕ → Float) → List Float → Filled Float
bus_call N f sheet = fills (sheet_number N (made f (counted N).buses) sheet) (made f (counted N).buses) sheet

abbrev pub phase_call : Network → List Float → Filled Float
phase_call N sheet = bus_call N (phase (counted N) N.wiring N.readings) sheet

abbrev pub network_call : Network → List Float → Filled Float
network_call N sheet = bus_call N (network_at (counted N) N.wiring N.readings) sheet

abbrev pub fixed_call : Network → List Float → Filled Float
fixed_call N sheet = bus_call N (fixed_at (counted N) N.wiring N.readings) sheet

-- the susceptance list in three sheets
unfoldable pub list_number : Network → List Triplet → List ℕ → List ℕ → List Float → ℕ
list_number N ts rows cols values = first_of (network_tests N true true ++ test 7 (short_list ts rows cols values) ∷ [])

abbrev pub susceptance_call : Network → List ℕ → List ℕ → List Float → Laid
susceptance_call N rows cols values =
    lays (list_number N (susceptance_coo (counted N) N.wiring N.readings) rows cols values) (susceptance_coo (counted N) N.wiring N.readings) rows cols values
