-- B1 to B11: one test computed over the array of cases, and one law that turns it into the rule at each case.
-- Main results: `bench`, `comes_out`. Assumes nothing.
use Prim.Native.Nat.{ℕ}
use mathlib.Core.Path.{◌≡◌, refl, ap₂}
use mathlib.Core.Bool.{true}
use mathlib.Core.List.{List, [], ◌∷◌}
use lib.Dec.{eqb}
use lib.Ieee.{of_int, of_bits, to_bits, neg, add, sub, mul, div, eq, lt, le}
use borrow.Author.Tests.{eqb-true}
use Rattle.float64.specs.Values.{whole, tolerance, raw_limit, sheet_limit, parameter_limit, base_low, base_high, finite, magnitude, within, in_range, max_zero}
use Rattle.sequence.specs.Answers.{first_of, marked, fills}
use Rattle.sequence.specs.Lists.{before, every, some, each, when, made, turns, front}
use Rattle.sequence.specs.Sheets.{emit, put1, puts, lays}
use Rattle.sequence.proofs.Lists.{and_left, and_right}
use Rattle.sequence.specs.Facts.{All}
use Rattle.sequence.specs.Facts.All.{done, ◌&◌}
use Rattle.words.specs.Words.{joined}
use Rattle.network.specs.Layout.{part_start, wire, field_start, place, reading, segment_start, term_start}
use Rattle.network.specs.Numbers.{few, lengths_hold, sums_hold, sizes_hold, part_holds, flow_terms_hold, generation_terms_hold, terms_hold, wiring_holds, in_rank, field_holds, all_within, readings_hold, network_number}
use Rattle.model.specs.Quantities.{shed_cap}
use Rattle.model.specs.Rows.{row_limits}
use Rattle.solution.specs.Sheet.{piece_rank, entry_start, solved}
use Rattle.kkt_index.specs.Index.{linear_start, block_start, dim}
use Rattle.solution_check.specs.Tests.{solution_long, solution_holds}
use Rattle.snapping.specs.Snap.{snap_sheet, plain_words}
use Rattle.kkt.specs.Matrix.{emitted, kkt_matrix_list}
use Rattle.kkt.specs.Slots.{branch_parts, reference_slot, columns, slots}
use Rattle.sens_dc.specs.Calls.{matrix_number}
use Rattle.change_table.specs.Table.{named_cells, among}
use Rattle.job_book.specs.Book.{own_tests, outcome_by_number, number_of, step}
use Rattle.opf_layout.specs.Layout.{active_rank, sheds, equality_rank, inequality_rank, active_of, column_start, nvar, row_start, ncon}
use Rattle.opf_assembly.specs.Assembly.{triplets_by, a_entries, quad_triplets}
use Rattle.parameter_column.specs.Columns.{word_of, valued, column_words}
use Rattle.site_text.specs.Text.{printed, first_line, triplet_line, triplets_in, places}
use Rattle.books.specs.Convex.{against, constraint_entries, hessian_entries}
use Rattle.books.specs.Manual.{program, constraints, bbus_to}
use Rattle.books.specs.Matrix.{cell_values}
use Rattle.books_residual.specs.Residual.{residual}
use Rattle.books_program.specs.Rows.{rowed}
use Rattle.books_program.specs.Program.{term_values}
use Rattle.bench.specs.Cases.{Case, flat, in_rows, place_in, nonzero, present, valued as counted, row_entries, variables, asked, cases, same, agree}

pub bench : agree cases ≡ true
unfolding agree same cases flat in_rows printed first_line triplet_line triplets_in places of_int of_bits to_bits neg add sub mul div eq lt le whole tolerance raw_limit sheet_limit parameter_limit base_low base_high finite magnitude within in_range max_zero first_of marked fills before every some each when made turns front emit put1 puts lays joined part_start wire field_start place reading segment_start term_start few lengths_hold sums_hold sizes_hold part_holds flow_terms_hold generation_terms_hold terms_hold wiring_holds in_rank field_holds all_within readings_hold network_number shed_cap row_limits piece_rank entry_start solved linear_start block_start dim solution_long solution_holds emitted kkt_matrix_list branch_parts reference_slot columns slots matrix_number named_cells among own_tests outcome_by_number number_of step active_rank sheds equality_rank inequality_rank active_of column_start nvar row_start ncon triplets_by a_entries quad_triplets word_of valued column_words place_in nonzero present counted row_entries variables snap_sheet plain_words against constraint_entries hessian_entries program constraints bbus_to cell_values residual rowed term_values
bench = refl

-- ---- from the test to the rule

same_is : (xs ys : List ℕ) → same xs ys ≡ true → xs ≡ ys
unfolding same
same_is [] [] e = refl
same_is [] (y ∷ ys) e = cc
same_is (x ∷ xs) [] e = cc
same_is (x ∷ xs) (y ∷ ys) e =
    ap₂ ◌∷◌ (eqb-true x y (and_left (eqb x y) (same xs ys) e)) (same_is xs ys (and_right (eqb x y) (same xs ys) e))

each_agrees : (xs : List Case) → agree xs ≡ true → All (λ (x : Case). asked x ≡ x.answer) xs
unfolding agree
each_agrees [] e = done
each_agrees (x ∷ xs) e = same_is (asked x) x.answer (and_left _ (agree xs) e) & each_agrees xs (and_right (same (asked x) x.answer) _ e)

-- at each case the definitions give what document 01 says
pub comes_out : All (λ (x : Case). asked x ≡ x.answer) cases
comes_out = each_agrees cases bench
