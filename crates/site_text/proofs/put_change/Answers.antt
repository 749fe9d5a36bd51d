-- `site_text::put_change` meets its contract: its first line, and an accepted change's triplets. Assumes nothing.
use mathlib.Core.Path.{refl, ap}
use mathlib.Core.List.{List, []}
use native.Mathlib.Omega.{arith}
use lib.Ieee.{of_int, of_bits}
use Rattle.float64.specs.Values.{whole}
use Rattle.sequence.specs.Lists.{made}
use Rattle.sequence.specs.declared.Triplet.{Triplet}
use Rattle.sequence.proofs.Answers.{refused}
use Rattle.words.specs.Words.{joined}
use Rattle.network.specs.Layout.{counts_of}
use Rattle.solution.specs.NetworkB.{wiring_b, readings_b}
use Rattle.kkt.specs.Slots.Rule.{first_place}
use Rattle.change_table.specs.Table.{named_cells}
use Rattle.job_book.specs.Book.{step}
use Rattle.site_text.specs.Text.{given_b, words_b, triplet_line, triplets_in}
use Rattle.site_text.proofs.Answers.{text_refused, TakenB, taken_b, text_taken}
use Rattle.site_text.proofs.put_change.Goals as goal
use Rattle.site_text.proofs.put_change.Goals.{In-Ok}

-- what the accepted change says
accepted : (c : In-Ok) → TakenB c.args.asked c.change_b-answer.new.rows c.change_b-answer.new.cols c.change_b-answer.new.values c.in-Ok.count
unfolding made whole of_int of_bits
accepted c = taken_b _ _ _ _ c.in-Ok.ensures.answered refl

pub put_named_b-requires-clause-kind : goal.put_named_b-requires-clause-kind
put_named_b-requires-clause-kind c = (accepted (goal.at.put_named_b-requires-clause-kind c).In-Ok).kind

pub put_named_b-requires-clause-index : goal.put_named_b-requires-clause-index
put_named_b-requires-clause-index c = (accepted (goal.at.put_named_b-requires-clause-index c).In-Ok).index

pub put_named_b-requires-clause-count_in_bounds : goal.put_named_b-requires-clause-count_in_bounds
put_named_b-requires-clause-count_in_bounds c = let f = (accepted (goal.at.put_named_b-requires-clause-count_in_bounds c).In-Ok).few in (omega (arith, f, c.change_b-answer.auto), omega (arith, f, c.change_b-answer.auto), omega (arith, f, c.change_b-answer.auto))

pub put_named_b-requires-clause-count_in_bounds_2 : goal.put_named_b-requires-clause-count_in_bounds_2
put_named_b-requires-clause-count_in_bounds_2 c = let f = (accepted (goal.at.put_named_b-requires-clause-count_in_bounds_2 c).In-Ok).few in omega (arith, f, c.put_first_line.ensures, c.requires)

pub returns-in-Ok-clause-wrote : goal.returns-in-Ok-clause-wrote
unfolding made whole of_int of_bits
returns-in-Ok-clause-wrote c = let a = c.args in
    let t = accepted (goal.at.returns-in-Ok-clause-wrote c).In-Ok in
    text_taken (step given_b first_place (λ W h. []) words_b a.asked) a.asked c.in-Ok.ensures.answered refl
    (ap (λ (ts : List Triplet). joined triplet_line (triplets_in (named_cells (counts_of wiring_b) wiring_b readings_b a.asked.kind a.asked.index) ts)) t.list)
    (rw c.in-Ok.is at c.put_first_line.ensures.wrote) c.put_named_b.ensures.wrote

pub returns-in-Ok-clause-most : goal.returns-in-Ok-clause-most
returns-in-Ok-clause-most c = let f = (accepted (goal.at.returns-in-Ok-clause-most c).In-Ok).few in omega (arith, f, c.put_first_line.ensures.most, c.put_named_b.ensures.most)

pub returns-in_default-clause-wrote : goal.returns-in_default-clause-wrote
unfolding made whole of_int of_bits
returns-in_default-clause-wrote c = let a = c.args in
    text_refused (step given_b first_place (λ W h. []) words_b a.asked) a.asked c.in_default.ensures.answered (refused _) (rw c.in_default.is at c.put_first_line.ensures.wrote)
