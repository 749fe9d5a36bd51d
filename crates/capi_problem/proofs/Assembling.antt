-- `assemble_opf` in typed sheets: its counts are small, and go into one word with its number.
-- Main results: `number_of`, `passed`, `roomy`, `few`; `counts_small`, `unpacks`, `packs`. Assumes nothing.
use mathlib.Core.Path.{◌≡◌, refl, sym, ap, ◌∙◌}
use mathlib.Core.Bool.{Bool, true, false, not, ◌&&◌}
use mathlib.Core.List.{[], ◌∷◌}
use Prim.Native.Nat.{ℕ, ◌/◌, ◌%◌, ◌≤◌}
use native.Mathlib.Omega.{arith}
use lib.Dec.{eqb}
use borrow.Author.Tests.{eqb-true}
use Rattle.sequence.specs.Answers.{test, first_of, marked}
use Rattle.sequence.proofs.Answers.{front_passed}
use Rattle.network.specs.Layout.{counts_of}
use Rattle.network.specs.Numbers.{Network, network_tests, sizes_hold, wiring_holds, readings_hold}
use Rattle.decoding.proofs.Answered.{last_passed, passed_network}
use Rattle.opf_problem.specs.Calls.{Parts, parts_of, Program, short_program, Assembled, assembled, assembles, assemble_number, assemble_call}
use Rattle.capi_problem.specs.Assembled.{packed_both, packed_program, packing}
use Rattle.capi_problem.proofs.Lengths.{Short, parts_few}

-- ---- what the call answers, by its number

module _ (m : ℕ) (x : Parts) (s : Program) where
  by_number : (b : Bool) → eqb m 0 ≡ b → (assembles m x s).number ≡ m
  unfolding assembles
  by_number true e = rw e (sym (eqb-true m 0 e))
  by_number false e = rw e

  pub number_of : (assembles m x s).number ≡ m
  number_of = by_number (eqb m 0) refl

  by_counts : (b : Bool) → eqb m 0 ≡ b → (m ≡ 0 → Short x) → ((assembles m x s).a_count ≤ 12304) × ((assembles m x s).p_count ≤ 256)
  unfolding assembles
  by_counts true e h = rw e ((h (eqb-true m 0 e)).a, (h (eqb-true m 0 e)).p)
  by_counts false e h = rw e (omega arith, omega arith)

module _ (N : Network) where
  abbrev x : Parts
  x = parts_of N

  -- 0 says that the network is accepted, and that every part has room
  pub passed : (s : Program) → assemble_number N x s ≡ 0 → first_of (network_tests N true true) ≡ 0
  unfolding assemble_number marked
  passed s z = front_passed (network_tests N true true) (test 7 (short_program x s) ∷ []) tt z

  pub roomy : (s : Program) → assemble_number N x s ≡ 0 → short_program x s ≡ false
  unfolding assemble_number marked
  roomy s z = last_passed (network_tests N true true) tt (short_program x s) z

  pub few : first_of (network_tests N true true) ≡ 0 → Short x
  few z = parts_few N (passed_network N true true z)

  -- the counts are no greater than the longest lists
  pub counts_small : (s : Program) {n k l : ℕ} {t : Program} → assembled n k l t ≡ assemble_call N s → (k ≤ 12304) × (l ≤ 256)
  counts_small s e =
      let h = by_counts (assemble_number N x s) x s (eqb (assemble_number N x s) 0) refl (λ z. few (passed s z)) in
      (rw (ap (λ (a : Assembled). a.a_count) e) h.0, rw (ap (λ (a : Assembled). a.p_count) e) h.1)

  number_small : (s : Program) → assemble_number N x s ≤ 7
  unfolding assemble_number first_of
  number_small s =
      go (not (sizes_hold N && true)) (not (wiring_holds (counts_of N.wiring) N.wiring N.indexes)) (not (readings_hold (counts_of N.wiring) N && true)) (short_program x s)
    where
      go : (a b c d : Bool) → first_of (test 1 a ∷ test 2 b ∷ test 3 c ∷ test 7 d ∷ []) ≤ 7
      go true b c d = omega arith
      go false true c d = omega arith
      go false false true d = omega arith
      go false false false true = omega arith
      go false false false false = omega arith

  -- the word loses nothing: number and counts are its parts
  pub unpacks : (s : Program) {n k l : ℕ} {t : Program} → assembled n k l t ≡ assemble_call N s
      → (packed_both n k l % 256 ≡ n) × (packed_both n k l / 256 % 0x100_0000 ≡ k) × (packed_both n k l / 0x1_0000_0000 ≡ l)
  unpacks s {n} {k} {l} e =
      let m : n ≡ assemble_number N x s = ap (λ (a : Assembled). a.number) e ∙ number_of (assemble_number N x s) x s in
      let h = counts_small s e in
      let small : n ≤ 7 = omega (arith, m, number_small s) in
      (omega (arith, h.0), omega (arith, h.0), omega (arith, h.0))

-- a call's answer, with its number and counts in one word
pub packs : {n k l a : ℕ} {t : Program} {o : Assembled} → a ≡ packed_both n k l → assembled n k l t ≡ o → packed_program a t ≡ packing o
packs {t = t} e q = ap (λ (w : ℕ). packed_program w t) e ∙ ap packing q
