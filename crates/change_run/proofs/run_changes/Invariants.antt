-- `change_run::run_changes` meets its contract: the loop goes by the run's last change. Assumes nothing.
use mathlib.Core.List.{[]}
use Rattle.kkt.specs.Slots.Rule.{first_place}
use Rattle.job_book.specs.Book.{given, words}
use Rattle.change_run.proofs.Run.{Going}
use Rattle.change_run.proofs.run_changes.Given as goal

abbrev pub invariant-loop-i : goal.invariant-loop-i
invariant-loop-i l = Going (given l.wiring l.term_index l.term_coefficient l.solution) first_place (λ W h. []) (words l.initial.readings l.initial.rows l.initial.cols l.initial.values) l.changes l.initial.numbers l.initial.counted l.i (words l.readings l.rows l.cols l.values) l.numbers l.counted
