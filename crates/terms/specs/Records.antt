-- Terms as records in bytes: twelve each, the index and then the double, the lowest byte first.
-- Main definition: `term_at`. Assumes nothing.
use Rattle.std.specs.Prelude.{ℕ, ◌+◌, ◌*◌, ◌<◌, List}
use native.Mathlib.Omega.{arith}
use Rattle.std.specs.Float.{binary64}
use Rattle.std.specs.Float.Ieee.{of_bits}
use Rattle.words.specs.Words.{at32, at64}
use Rattle.terms.specs.declared.Term.{Term}

-- the record of the twelve bytes from a place on
abbrev pub term_from : List ℕ → ℕ → Term
term_from b i = record { index = at32 b i; coefficient = of_bits binary64 (at64 b (i + 4)) }

abbrev pub term_at : List ℕ → ℕ → Term
term_at b i = term_from b (12 * i)

pub twelve : 0 < 12
twelve = Prim.omega arith
