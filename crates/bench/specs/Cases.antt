-- Document 01's "Bench network", B1 to B11, as one array of cases: each a network and a sheet, what is asked of them, and what must come out. A double is asked and told by its bits, a test by 1 or 0.
-- B1 to B3 are asked of the port's definitions and of the two books'.
-- Main definitions: `Question`, `Case`, `asked`, `cases`, `agree`. Assumes nothing.
use Rattle.std.specs.Prelude.{ℕ, suc, ◌+◌, Bool, true, false, cond, ◌&&◌, ◌||◌, List, [], ◌∷◌, ◌++◌, map, length, take, set, eqb, Float}
use Rattle.std.specs.Float.{binary64}
use Rattle.std.specs.Float.Ieee.{neg, div, eq, to_bits}
use Rattle.float64.specs.Values.{nought, whole, tolerance}
use Rattle.sequence.specs.Lists.{each, when}
use Rattle.sequence.specs.declared.Triplet.{Triplet}
use Rattle.network.specs.declared.Counts.{Counts}
use Rattle.network.specs.Layout.{counts_of, reading}
use Rattle.model.specs.Rows.{row_limits, is_equality}
use Rattle.solution.specs.NetworkB.{wiring_b, readings_b, sheet_b}
use Rattle.solution.specs.Sheet.{pieces, solved}
use Rattle.kkt_index.specs.declared.Block.TheVariants.{Va, MuLb, MuUb, NuBal, NuFlow, Eta}
use Rattle.kkt_index.specs.Index.{linear_row_count, block_start, dim}
use Rattle.snapping.specs.Expr.{Expr, eval}
use Rattle.snapping.specs.Snap.{shed_of, mu_lb_of, mu_ub_of, gamma_ub_of}
use Rattle.kkt.specs.Slots.Rule.{first_place}
use Rattle.kkt.specs.Matrix.{kkt_matrix_list}
use Rattle.opf_layout.specs.declared.OpfColumn.{OpfColumn}
use Rattle.opf_layout.specs.declared.OpfRow.TheVariants.{LineUb, LineLb, PhaseUb, PhaseLb}
use Rattle.opf_layout.specs.Layout.{sheds, active_of, columns, nvar, ncon, row_size, row_start}
use Rattle.opf_assembly.specs.Assembly.{a_triplets, p_triplets, column_elements}
use Rattle.parameter_column.specs.declared.Served.TheVariants.{Demand}
use Rattle.parameter_column.specs.Columns.{column_words}
use Rattle.site_text.specs.Text.{printed}
use Rattle.books.specs.Forms.{Place, Form}
use Rattle.books.specs.Convex.{Entry, Gradient, matrix_of}
use Rattle.books.specs.Manual as manual
use Rattle.books.specs.Matrix.{same_place, cell_values, site_of, value}
use Rattle.books_residual.specs.Residual.{Row, residual}
use Rattle.books_program.specs.Rows.{Rowed, site, rowed}
use Rattle.books_program.specs.Program.{term_values, constant, variable, has_column}

pub data Question : Type 0 where
  -- dim, and where nu_bal and eta start
  blocks : Question
  -- how many triplets the matrix has, and its first four: row, column, value
  matrix : Question
  -- the assembly's columns, rows, triplets of A and of P; of the thermal and the angle limits, upper and lower, the first row and how many there are
  program : Question
  -- of the book's residual: how many rows it has, and where nu_bal and eta start
  book_blocks : Question
  -- of the book's matrix: how many values are not zero, and in the column of bus 0's angle those at nu_flow 0, nu_bal 0 and 1, eta 0
  book_matrix : Question
  -- of the manual's program: how many rows, entries of A and entries of P it has
  book_program : Question
  -- of a bus: how many columns the assembly has, whether one is its own, and the triplets in the rows mu_lb and mu_ub of the matrix: those of a fixed bus are both 1
  shedding : ℕ → Question
  -- of a branch: gamma_ub, snapped
  angle : ℕ → Question
  -- of a bus: shed, mu_lb and mu_ub, snapped
  shed : ℕ → Question
  -- of a linear row: whether it is an equality
  equality : ℕ → Question
  -- of a bus: its demand's column
  column : ℕ → Question
  -- what `sitechange` prints for these bytes
  change : List ℕ → Question

pub record Case : Type 0 where
  pub wiring : List ℕ
  pub readings : List Float
  pub sheet : List Float
  pub question : Question
  pub answer : List ℕ

abbrev pub case : List ℕ → List Float → List Float → Question → List ℕ → Case
case w r s q a = record { wiring = w; readings = r; sheet = s; question = q; answer = a }

-- ---- what is asked

abbrev pub bit : Bool → ℕ
bit b = cond b 1 0

abbrev pub bits : Float → ℕ
bits x = to_bits binary64 x

unfoldable pub flat : List Triplet → List ℕ
flat [] = []
flat (t ∷ ts) = t.row ∷ t.col ∷ bits t.value ∷ flat ts

-- the triplets in two rows
unfoldable pub in_rows : ℕ → ℕ → List Triplet → List Triplet
in_rows a b [] = []
in_rows a b (t ∷ ts) = when (eqb t.row a || eqb t.row b) (t ∷ []) ++ in_rows a b ts

-- where a row of the residual stands
unfoldable pub place_in : Place → List Row → ℕ
place_in p [] = 0
place_in p (x ∷ xs) = cond (same_place x.0 p) 0 (suc (place_in p xs))

-- how many entries have a value that is not zero
unfoldable pub nonzero : (Form → Float) → List Entry → ℕ
nonzero v [] = 0
nonzero v (x ∷ xs) = cond (eq (v x.what) nought) 0 1 + nonzero v xs

-- how many constraints have a row
unfoldable pub present : List Rowed → ℕ
present [] = 0
present (x ∷ xs) = bit x.present + present xs

-- how many values a gradient has at these variables
unfoldable pub valued : (Form → Float) → Gradient → List Place → ℕ
valued v g [] = 0
valued v g (p ∷ ps) = length (term_values v g p) + valued v g ps

unfoldable pub row_entries : (Form → Float) → List Place → List Rowed → ℕ
row_entries v ps [] = 0
row_entries v ps (x ∷ xs) = cond x.present (valued v x.constraint.gradient ps) 0 + row_entries v ps xs

module _ (c : Counts) (w : List ℕ) (r s : List Float) where
  -- the books' residual and matrix, the references' multipliers 0
  abbrev pub book_rows : List Row
  book_rows = residual (site_of c w r [] [] s)

  abbrev pub worth : Form → Float
  worth x = value c w r [] [] s (λ k. nought) x

  abbrev pub book_entries : List Entry
  book_entries = matrix_of (manual.program (site_of c w r [] [] s))

  abbrev pub cell : Place → Place → List Float
  cell a b = cell_values worth book_entries a b

  -- the assembly's columns, as the manual's variables
  unfoldable pub variables : List OpfColumn → List Place
  variables [] = []
  variables (k ∷ ks) =
      each (column_elements c k) (λ j. when (has_column c w r [] [] k j) (variable c w r [] [] k j ∷ [])) ++ variables ks

  abbrev pub list : List Triplet
  list = kkt_matrix_list first_place c w r [] [] s

  abbrev pub figure : Expr → ℕ
  figure x = bits (eval (reading c r) (solved c (pieces c w) s) x)

  abbrev pub told : Question → List ℕ
  told blocks =
      dim c (pieces c w) (linear_row_count c w r)
      ∷ block_start c (pieces c w) (linear_row_count c w r) NuBal
      ∷ block_start c (pieces c w) (linear_row_count c w r) Eta
      ∷ []
  told matrix = length list ∷ flat (take 4 list)
  told program =
      nvar c (active_of c w r)
      ∷ ncon c (active_of c w r)
      ∷ length (a_triplets c w r [] [])
      ∷ length (p_triplets c w r)
      ∷ row_start c (active_of c w r) LineUb ∷ row_size c (active_of c w r) LineUb
      ∷ row_start c (active_of c w r) LineLb ∷ row_size c (active_of c w r) LineLb
      ∷ row_start c (active_of c w r) PhaseUb ∷ row_size c (active_of c w r) PhaseUb
      ∷ row_start c (active_of c w r) PhaseLb ∷ row_size c (active_of c w r) PhaseLb
      ∷ []
  told book_blocks = length book_rows ∷ place_in (NuBal, 0) book_rows ∷ place_in (Eta, 0) book_rows ∷ []
  told book_matrix =
      nonzero worth book_entries
      ∷ map bits (cell (NuFlow, 0) (Va, 0) ++ (cell (NuBal, 0) (Va, 0) ++ (cell (NuBal, 1) (Va, 0) ++ cell (Eta, 0) (Va, 0))))
  told book_program =
      length (variables columns)
      ∷ present (rowed c w r [] [])
      ∷ row_entries (constant c w r [] []) (variables columns) (rowed c w r [] [])
      ∷ length (manual.program (site c w r [] [])).hessian
      ∷ []
  told (shedding i) =
      nvar c (active_of c w r)
      ∷ bit (sheds c w r i)
      ∷ flat (in_rows (block_start c (pieces c w) (linear_row_count c w r) MuLb + i) (block_start c (pieces c w) (linear_row_count c w r) MuUb + i) list)
  told (angle e) = figure (gamma_ub_of c w e) ∷ []
  told (shed i) = figure (shed_of w i) ∷ figure (mu_lb_of w i) ∷ figure (mu_ub_of w i) ∷ []
  told (equality q) = bit (is_equality (row_limits c w r q)) ∷ []
  told (column i) = map bits (column_words c w [] [] (pieces c w) r s Demand i)
  told (change b) = printed b

abbrev pub asked : Case → List ℕ
asked x = told (counts_of x.wiring) x.wiring x.readings x.sheet x.question

-- ---- network B, with what the cases change of it

-- allow_shed 1
abbrev shed_on : List ℕ
shed_on = set wiring_b 7 1

-- bus 1's demand
abbrev demand_b : Float → List Float
demand_b x = set readings_b 16 x

-- the tolerance as angmax; both angles 0, and gamma_ub 1
abbrev near_readings : List Float
near_readings = set readings_b 7 tolerance

abbrev near_sheet : List Float
near_sheet = set (set sheet_b 1 (whole 0)) 16 (whole 1)

-- bus 1's shed demand
abbrev shed_sheet : List Float
shed_sheet = set sheet_b 5 tolerance

-- 10^-7, 1 divided by 10,000,000
abbrev small : Float
small = div binary64 (whole 1) (whole 10000000)

abbrev four : ℕ
four = 0x4010_0000_0000_0000

abbrev less_four : ℕ
less_four = 0xc010_0000_0000_0000

abbrev one : ℕ
one = 0x3ff0_0000_0000_0000

abbrev less_one : ℕ
less_one = 0xbff0_0000_0000_0000

-- one linear row with both limits, and nothing else
abbrev one_row : List ℕ
one_row = 0 ∷ 0 ∷ 0 ∷ 0 ∷ 0 ∷ 1 ∷ 0 ∷ 0 ∷ 1 ∷ 3 ∷ 0 ∷ 0 ∷ []

-- ---- the array

unfoldable pub cases : List Case
cases =
    -- B1: dim 20; nu_bal starts at 16, eta at 19
    case wiring_b readings_b sheet_b blocks (20 ∷ 16 ∷ 19 ∷ [])
    -- B2: 45 triplets, the first four (18,0,-4), (16,0,-4), (17,0,4), (19,0,1)
    ∷ case wiring_b readings_b sheet_b matrix (45 ∷ 18 ∷ 0 ∷ less_four ∷ 16 ∷ 0 ∷ less_four ∷ 17 ∷ 0 ∷ four ∷ 19 ∷ 0 ∷ one ∷ [])
    -- B3: 4 columns, 10 rows, 17 triplets of A, 1 of P; the thermal rows are 4 and 5, the angle rows 8 and 9
    ∷ case wiring_b readings_b sheet_b program (4 ∷ 10 ∷ 17 ∷ 1 ∷ 4 ∷ 1 ∷ 5 ∷ 1 ∷ 8 ∷ 1 ∷ 9 ∷ 1 ∷ [])
    -- B1 to B3 of the books: the same figures, where nu_flow starts at 18
    ∷ case wiring_b readings_b sheet_b book_blocks (20 ∷ 16 ∷ 19 ∷ [])
    ∷ case wiring_b readings_b sheet_b book_matrix (45 ∷ less_four ∷ less_four ∷ four ∷ one ∷ [])
    ∷ case wiring_b readings_b sheet_b book_program (4 ∷ 10 ∷ 17 ∷ 1 ∷ [])
    -- B4: shedding on, demand 10^-7: a column, yet fixed. At the tolerance itself: a column, not fixed. At 0: no column, fixed
    ∷ case shed_on (demand_b small) sheet_b (shedding 1) (5 ∷ 1 ∷ 13 ∷ 5 ∷ one ∷ 15 ∷ 15 ∷ one ∷ [])
    ∷ case shed_on (demand_b tolerance) sheet_b (shedding 1) (5 ∷ 1 ∷ 13 ∷ 5 ∷ one ∷ 15 ∷ 15 ∷ 0x3eb0_c6f7_a0b5_ed8d ∷ [])
    ∷ case shed_on (demand_b (whole 0)) sheet_b (shedding 1) (4 ∷ 0 ∷ 13 ∷ 5 ∷ one ∷ 15 ∷ 15 ∷ one ∷ [])
    -- B5: angmax equal to the tolerance, both angles 0, gamma_ub 1: kept
    ∷ case wiring_b near_readings near_sheet (angle 0) (one ∷ [])
    -- B6: cap 1, shed equal to the tolerance: shed kept, both mu 0
    ∷ case shed_on readings_b shed_sheet (shed 1) (0x3eb0_c6f7_a0b5_ed8d ∷ 0 ∷ 0 ∷ [])
    -- B7: limits -0 and +0: equality, either way round
    ∷ case one_row (whole 100 ∷ nought ∷ neg nought ∷ []) [] (equality 0) (1 ∷ [])
    ∷ case one_row (whole 100 ∷ neg nought ∷ nought ∷ []) [] (equality 0) (1 ∷ [])
    -- B8: demand column of bus 1: row 17 is -1, all others 0
    ∷ case wiring_b readings_b sheet_b (column 1)
    (0 ∷ 0 ∷ 0 ∷ 0 ∷ 0 ∷ 0 ∷ 0 ∷ 0 ∷ 0 ∷ 0 ∷ 0 ∷ 0 ∷ 0 ∷ 0 ∷ 0 ∷ 0 ∷ 0 ∷ less_one ∷ 0 ∷ 0 ∷ [])
    -- B9: all counts 0: dim 0, empty list
    ∷ case (0 ∷ 0 ∷ 0 ∷ 0 ∷ 0 ∷ 0 ∷ 0 ∷ 0 ∷ 0 ∷ []) (whole 100 ∷ []) (whole 0 ∷ []) blocks (0 ∷ 0 ∷ 0 ∷ [])
    ∷ case (0 ∷ 0 ∷ 0 ∷ 0 ∷ 0 ∷ 0 ∷ 0 ∷ 0 ∷ 0 ∷ []) (whole 100 ∷ []) (whole 0 ∷ []) matrix (0 ∷ [])
    -- B10: change kind 10: number 4. Kind 2, index 1: number 5
    ∷ case wiring_b readings_b sheet_b (change (0 ∷ 0 ∷ 0 ∷ 160 ∷ 0 ∷ 0 ∷ 0 ∷ 0 ∷ 0 ∷ 0 ∷ 24 ∷ 64 ∷ [])) (52 ∷ 32 ∷ 48 ∷ 10 ∷ [])
    ∷ case wiring_b readings_b sheet_b (change (1 ∷ 0 ∷ 0 ∷ 32 ∷ 0 ∷ 0 ∷ 0 ∷ 0 ∷ 0 ∷ 0 ∷ 24 ∷ 64 ∷ [])) (53 ∷ 32 ∷ 48 ∷ 10 ∷ [])
    -- B11: fmax to 6: "0 45", "6 6 401c000000000000", "7 7 4014000000000000"
    ∷ case wiring_b readings_b sheet_b (change (0 ∷ 0 ∷ 0 ∷ 32 ∷ 0 ∷ 0 ∷ 0 ∷ 0 ∷ 0 ∷ 0 ∷ 24 ∷ 64 ∷ []))
    (48 ∷ 32 ∷ 52 ∷ 53 ∷ 10
    ∷ 54 ∷ 32 ∷ 54 ∷ 32 ∷ 52 ∷ 48 ∷ 49 ∷ 99 ∷ 48 ∷ 48 ∷ 48 ∷ 48 ∷ 48 ∷ 48 ∷ 48 ∷ 48 ∷ 48 ∷ 48 ∷ 48 ∷ 48 ∷ 10
    ∷ 55 ∷ 32 ∷ 55 ∷ 32 ∷ 52 ∷ 48 ∷ 49 ∷ 52 ∷ 48 ∷ 48 ∷ 48 ∷ 48 ∷ 48 ∷ 48 ∷ 48 ∷ 48 ∷ 48 ∷ 48 ∷ 48 ∷ 48 ∷ 10
    ∷ [])
    ∷ []

-- ---- the test

unfoldable pub same : List ℕ → List ℕ → Bool
same [] [] = true
same [] (y ∷ ys) = false
same (x ∷ xs) [] = false
same (x ∷ xs) (y ∷ ys) = eqb x y && same xs ys

-- every case comes out as it must
unfoldable pub agree : List Case → Bool
agree [] = true
agree (x ∷ xs) = same (asked x) x.answer && agree xs
