-- A small case by computation: two elements over two rows and one parameter column, where the system's matrix is the identity.
-- Main results: `selection` (a row that is met twice adds up), `forward`, `adjoint`, whose words are the same. Assumes nothing.
use mathlib.Core.Path.{◌≡◌, refl}
use mathlib.Core.List.{List, [], ◌∷◌}
use lib.Ieee.{Float, neg, add, mul, ne, of_int, of_bits}
use Rattle.float64.specs.Values.{nought, whole}
use Rattle.sequence.specs.Lists.{before, each, made, turns}
use Rattle.model.specs.Quantities.{term_sum}
use Rattle.interface.specs.declared.Mode.TheVariants.{Forward, Adjoint}
use Rattle.contraction.specs.Contraction.{Selector, selector, entry_start, selection_word, selection_column, selection_sheet, column, forward_word, gathered, adjoint_word, contracted_row, contracted}

abbrev one : Selector
one = selector (neg (whole 1)) (1 ∷ 2 ∷ []) (0 ∷ 1 ∷ 1 ∷ []) (whole 1 ∷ whole 1 ∷ whole 1 ∷ [])

abbrev parameter : List Float
parameter = whole 3 ∷ whole 5 ∷ []

abbrev words : List Float
words = neg (whole 3) ∷ neg (whole 10) ∷ []

pub selection : selection_sheet one 2 ≡ whole 1 ∷ nought ∷ nought ∷ whole 2 ∷ []
unfolding selection_sheet selection_column selection_word entry_start before each made turns whole of_int of_bits neg add
selection = refl

-- the parameter column solves itself
pub forward : contracted Forward one 2 1 parameter parameter ≡ words
unfolding contracted contracted_row column forward_word term_sum entry_start before each made turns whole of_int of_bits neg add mul
forward = refl

-- and so does the selection sheet
pub adjoint : contracted Adjoint one 2 1 parameter (selection_sheet one 2) ≡ words
unfolding contracted contracted_row column adjoint_word gathered selection_sheet selection_column selection_word entry_start before each made turns whole of_int of_bits neg add mul ne
adjoint = refl
