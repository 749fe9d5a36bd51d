-- `terms::take_apart` meets its contract. The loop's invariant: storing the terms from i on gives what storing them all in the first arrays gives. Assumes nothing.
use Rattle.std.proofs.Common.{◌≡◌, ℕ, ◌<◌, length, get_or}
use lib.Ieee.{nan}
use Rattle.terms.specs.Terms.{none}
use Rattle.terms.proofs.take_apart.Given as goal

abbrev pub invariant-loop-i : goal.invariant-loop-i
invariant-loop-i l =
    (length l.columns.indexes ≡ 1024) × (length l.columns.coefficients ≡ 1024)
    × ((k : ℕ) → k < l.i → get_or l.columns.indexes k 0 ≡ (get_or l.terms k none).index)
    × ((k : ℕ) → k < l.i → get_or l.columns.coefficients k nan ≡ (get_or l.terms k none).coefficient)
