-- The tests of a change itself, by which of them holds first. Main results: `value_refused`, `kind_refused`, `index_refused`, `own_passed`. Assumes nothing.
use mathlib.Core.Path.{◌≡◌}
use mathlib.Core.Bool.{true, false}
use Prim.Native.Nat.{ℕ, suc, ◌<◌, ◌≤◌}
use lib.Ieee.{Float}
use native.Mathlib.Omega.{arith}
use borrow.Author.Tests.{le-leb, lt-leb}
use Rattle.float64.specs.Values.{within, raw_limit}
use Rattle.sequence.specs.Answers.{first_of}
use Rattle.network.specs.declared.Counts.{Counts}
use Rattle.network.specs.Layout.{size}
use Rattle.change_table.specs.Table.{is_kind, field_of}
use Rattle.job_book.specs.Book.{own_tests}

module _ (c : Counts) (kind i : ℕ) (v : Float) where
  pub value_refused : within raw_limit v ≡ false → 3 ≡ first_of (own_tests c kind i v)
  unfolding first_of own_tests
  value_refused h = rw h

  pub kind_refused : within raw_limit v ≡ true → is_kind kind ≡ false → 4 ≡ first_of (own_tests c kind i v)
  unfolding first_of own_tests
  kind_refused h k = rw (h, k)

  pub index_refused : within raw_limit v ≡ true → is_kind kind ≡ true → size c (field_of kind) ≤ i → 5 ≡ first_of (own_tests c kind i v)
  unfolding first_of own_tests
  index_refused h k l = rw (h, k, lt-leb (suc i) (size c (field_of kind)) (omega (arith, l)))

  pub own_passed : within raw_limit v ≡ true → is_kind kind ≡ true → i < size c (field_of kind) → 0 ≡ first_of (own_tests c kind i v)
  unfolding first_of own_tests
  own_passed h k l = rw (h, k, le-leb _ _ l)
