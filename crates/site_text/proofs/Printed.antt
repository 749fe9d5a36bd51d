-- The printed text by the input's length. Main results: `printed_other`, `printed_change`. Assumes nothing.
use mathlib.Core.Path.{◌≡◌}
use mathlib.Core.List.{List, []}
use Prim.Native.Nat.{ℕ}
use lib.ListN.{length}
use borrow.Author.Tests.{eq-eqb, ne_eqb}
use Rattle.words.specs.Words.{at32}
use Rattle.kkt.specs.Slots.Rule.{first_place}
use Rattle.job_book.specs.declared.Change.{Change}
use Rattle.job_book.specs.Book.{change, step}
use Rattle.site_text.specs.Text.{given_b, words_b, first_line, answered, printed}

pub printed_other : (input : List ℕ) → (length input ≡ 12 → ⊥) → first_line 1 0 ≡ printed input
unfolding printed
printed_other input h = rw (ne_eqb (length input) 12 h)

pub printed_change : (input : List ℕ) {asked : Change} {head low high : ℕ} → length input ≡ 12 → asked ≡ change head low high → head ≡ at32 input 0 → low ≡ at32 input 4 → high ≡ at32 input 8
    → answered (step given_b first_place (λ W h. []) words_b asked) asked ≡ printed input
unfolding printed
printed_change input h e a b d = rw (e, a, b, d, eq-eqb (length input) 12 h)
