-- The returns of `read_dc_solution`, one law for each.
-- Main results: `read_refused`, `read_short`, `read_done`. Assumes nothing.
use mathlib.Core.Path.{◌≡◌, sym, ◌∙◌}
use mathlib.Core.List.{List}
use Prim.Native.Nat.{ℕ, ◌≤◌, ◌<◌}
use lib.ListN.{length}
use lib.Ieee.{Float}
use Rattle.sequence.specs.Lists.{front}
use Rattle.sequence.specs.Answers.{first_of, filled}
use Rattle.network.specs.Numbers.{Network}
use Rattle.solution.specs.Sheet.{pieces, sheet_length}
use Rattle.solution_check.specs.Tests.{counted}
use Rattle.sens_snap.proofs.Returns.{own_refused, own_short, own_done}
use Rattle.raw_check.specs.Tests.{raw_long, raw_holds, raw_tests}
use Rattle.opf_readback.proofs.Entries.{read_long}
use Rattle.problem.specs.Calls.{read_of, read_number, read_call}

module _ (N : Network) (x z : List Float) (raw : Float) (sheet : List Float) {k : ℕ} (e : k ≡ first_of (raw_tests N x z raw)) where
  long : length (read_of N x z raw) ≡ sheet_length (counted N) (pieces (counted N) N.wiring)
  long = read_long (counted N) N.wiring N.readings N.indexes N.coefficients x z raw

  pub read_refused : (k ≡ 0 → ⊥) → filled k 0 sheet ≡ read_call N x z raw sheet
  unfolding read_number
  read_refused h = own_refused N (raw_long N x z) (raw_holds x z raw) (read_of N x z raw) sheet e h

  pub read_short : k ≡ 0 → length sheet < sheet_length (counted N) (pieces (counted N) N.wiring) → filled 7 0 sheet ≡ read_call N x z raw sheet
  unfolding read_number
  read_short q l = own_short N (raw_long N x z) (raw_holds x z raw) (read_of N x z raw) sheet e q long l

  pub read_done : k ≡ 0 → {n : ℕ} → n ≡ sheet_length (counted N) (pieces (counted N) N.wiring) → n ≤ length sheet → {new : List Float} → new ≡ front (read_of N x z raw) sheet → filled 0 n new ≡ read_call N x z raw sheet
  unfolding read_number
  read_done q m l h = own_done N (raw_long N x z) (raw_holds x z raw) (read_of N x z raw) sheet e q (long ∙ sym m) l h
