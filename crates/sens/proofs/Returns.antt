-- The returns of the first and the third call, one law for each; sizes and values of the third call where the network's sizes hold.
-- Main results: `selection_short`, `selection_done`; `first_number_lem`, `first_accepted`, `first_refused`, `first_forward`, `first_adjoint`; `third_number_lem`, `third_accepted`, `third_refused`, `third_short`, `third_done`. Assumes nothing.
use mathlib.Core.Path.{◌≡◌, refl, sym, ap, ◌∙◌}
use mathlib.Core.Bool.{Bool, true, false, cond}
use mathlib.Core.List.{List, [], ◌∷◌, ◌++◌}
use Prim.Native.Nat.{ℕ, ◌*◌, ◌≤◌, ◌<◌, zero-le}
use native.Mathlib.Nat.{le_of_eq}
use native.Mathlib.Omega.{arith}
use lib.Dec.{T, leb}
use lib.ListN.{length}
use lib.Ieee.{Float}
use borrow.Author.Tests.{leb-true, leb-false, lt-ltb, le-ltb, eqb-true, ne_eqb}
use Rattle.sequence.specs.Lists.{front}
use Rattle.sequence.specs.Answers.{Test, test, first_of, marked, short, filled, fills}
use Rattle.sequence.proofs.Lists.{and_left, and_right}
use Rattle.sequence.proofs.Answers.{first_stands, first_passes, fills_refused, fills_done}
use Rattle.network.specs.Numbers.{Network, sizes_hold}
use Rattle.interface.specs.declared.Mode.{Mode}
use Rattle.interface.specs.declared.Mode.TheVariants.{Forward, Adjoint, Auto}
use Rattle.contraction.specs.Contraction.{Selector, elements, selection_sheet, sides, contracted}
use Rattle.contraction.proofs.Columns.{contracted_long, selection_long}
use Rattle.selector_check.specs.Tests.{dim_of, is_auto, selector_tests, Selected}
use Rattle.selector_check.proofs.Selecting.{own_sides}
use Rattle.solution_check.proofs.Own.{apart}
use Rattle.sens.specs.Calls.{count_fits, first_sheet, first_tests, first_number, FirstAccepted, fills_if, first_call, solved_long, third_long, third_holds, third_tests, third_sheet, third_number, third_call, ThirdAccepted}

module _ (N : Network) (sizes values : Bool) (mode : Mode) (S : Selector) where
  selector_marked : T (marked (selector_tests N sizes values mode S))
  unfolding marked
  selector_marked = tt

  -- one of the selector's tests holds, or none does, whatever tests follow
  tests_stand : (ts : List Test) {k : ℕ} → k ≡ first_of (selector_tests N sizes values mode S) → (k ≡ 0 → ⊥) → first_of (selector_tests N sizes values mode S ++ ts) ≡ k
  tests_stand ts e h = first_stands (selector_tests N sizes values mode S) ts selector_marked (λ z. h (e ∙ z)) ∙ sym e

  tests_pass : (ts : List Test) {k : ℕ} → k ≡ first_of (selector_tests N sizes values mode S) → k ≡ 0 → first_of (selector_tests N sizes values mode S ++ ts) ≡ first_of ts
  tests_pass ts e h = first_passes (selector_tests N sizes values mode S) ts selector_marked (sym e ∙ h)

-- ---- a sheet that is filled where it holds the result

laid_short : (result sheet : List Float) (n : ℕ) → length result ≡ n → leb n (length sheet) ≡ false → filled 7 0 sheet ≡ fills_if result sheet
laid_short result sheet n e h =
    let l : length sheet < length result = rw e (leb-false n (length sheet) h) in
    fills_refused result sheet (rw (lt-ltb (length sheet) (length result) l)) (λ q. absurd (omega arith))

laid_done : (result sheet : List Float) (n : ℕ) → length result ≡ n → leb n (length sheet) ≡ true → {new : List Float} → new ≡ front result sheet → filled 0 n new ≡ fills_if result sheet
laid_done result sheet n e h {new} g =
    let l : length result ≤ length sheet = rw e (leb-true n (length sheet) h) in
    rw (g, ← e) (fills_done result sheet (rw (le-ltb (length sheet) (length result) l)))

-- the selection sheet
module _ (S : Selector) (dim : ℕ) (sheet : List Float) where
  pub selection_short : leb (dim * elements S) (length sheet) ≡ false → filled 7 0 sheet ≡ fills_if (selection_sheet S dim) sheet
  selection_short h = laid_short (selection_sheet S dim) sheet (dim * elements S) (selection_long S dim) h

  pub selection_done : leb (dim * elements S) (length sheet) ≡ true → {new : List Float} → new ≡ front (selection_sheet S dim) sheet → filled 0 (dim * elements S) new ≡ fills_if (selection_sheet S dim) sheet
  selection_done h g = laid_done (selection_sheet S dim) sheet (dim * elements S) (selection_long S dim) h g

-- ---- the first call

module _ (N : Network) (mode : Mode) (S : Selector) (columns : ℕ) where
  pub first_number_lem : {k d : ℕ} {b : Bool} → (sizes_hold N ≡ true → d ≡ dim_of N) → b ≡ count_fits mode d columns → k ≡ first_of (selector_tests N b true mode S) → k ≡ first_of (first_tests N mode S columns)
  first_number_lem f g e = e ∙ own_sides N mode S (λ s. rw (f s) at g) (λ s l. refl)

  pub first_accepted : {d : ℕ} {b : Bool} → (sizes_hold N ≡ true → d ≡ dim_of N) → b ≡ count_fits mode d columns → Selected N b mode S → FirstAccepted N mode S columns
  first_accepted f g s = record { sized = s.sized; fits = sym (rw (f s.sized) at g) ∙ s.own; resolved = s.resolved; entered = s.entered }

  -- the count is a `usize`, and no call that is accepted is `Auto`
  pub forward_count : FirstAccepted N mode S columns → mode ≡ Forward → {d : ℕ} → d ≡ dim_of N → d * columns ≤ 0xffff_ffff_ffff_ffff
  forward_count h m f = rw f (leb-true (dim_of N * columns) 0xffff_ffff_ffff_ffff (rw m at h.fits))

  pub never_auto : FirstAccepted N mode S columns → mode ≡ Auto → ⊥
  never_auto h m = apart true refl (rw m at h.resolved)

  module _ (selection : List Float) {k : ℕ} (e : k ≡ first_of (first_tests N mode S columns)) where
    first_left : k ≡ 0 → first_number N mode S columns selection ≡ cond (short (first_sheet mode S (dim_of N)) selection) 7 0
    unfolding first_number first_of
    first_left z = tests_pass N (count_fits mode (dim_of N) columns) true mode S (test 7 (short (first_sheet mode S (dim_of N)) selection) ∷ []) e z

    pub first_refused : (k ≡ 0 → ⊥) → filled k 0 selection ≡ first_call N mode S columns selection
    unfolding first_call first_number
    first_refused h = rw (tests_stand N (count_fits mode (dim_of N) columns) true mode S (test 7 (short (first_sheet mode S (dim_of N)) selection) ∷ []) e h, ne_eqb k 0 h)

    pub first_forward : k ≡ 0 → mode ≡ Forward → {d : ℕ} → d ≡ dim_of N → filled 0 (d * columns) selection ≡ first_call N mode S columns selection
    unfolding first_call front
    first_forward z m f = rw (first_left z, m, le-ltb (length selection) 0 zero-le, f)

    pub first_adjoint : k ≡ 0 → mode ≡ Adjoint → {d : ℕ} → d ≡ dim_of N → fills_if (selection_sheet S d) selection ≡ first_call N mode S columns selection
    unfolding first_call fills
    first_adjoint z m f = rw (first_left z, m, f, selection_long)

-- ---- the third call

solved_sides : (mode : Mode) (dim columns elements n : ℕ) → is_auto mode ≡ false → solved_long mode dim columns elements n ≡ true → n ≡ dim * sides mode columns elements
solved_sides Forward dim columns elements n a e = eqb-true n (dim * columns) e
solved_sides Adjoint dim columns elements n a e = eqb-true n (dim * elements) e
solved_sides Auto dim columns elements n a e = absurd (apart true refl a)

module _ (N : Network) (mode : Mode) (S : Selector) (columns : ℕ) (parameter solved : List Float) where
  abbrev long : ℕ → Bool
  long d = third_long mode d columns (elements S) (length parameter) (length solved)

  -- the number that the code finds with its own dim
  pub third_number_lem : {k d : ℕ} {b v : Bool} → (sizes_hold N ≡ true → d ≡ dim_of N) → b ≡ long d → (d * columns ≤ length parameter → v ≡ third_holds (d * columns) parameter solved)
      → k ≡ first_of (selector_tests N b v mode S) → k ≡ first_of (third_tests N mode S columns parameter solved)
  third_number_lem f g h e =
      e ∙ own_sides N mode S (λ s. rw (f s) at g) (λ s l. (rw (f s) at h) (leb-true (dim_of N * columns) (length parameter) (and_left _ (solved_long mode (dim_of N) columns (elements S) (length solved)) l)))

  pub third_accepted : {d : ℕ} {b : Bool} → (sizes_hold N ≡ true → d ≡ dim_of N) → b ≡ long d → Selected N b mode S → ThirdAccepted N mode S columns parameter solved
  third_accepted f g s =
      let l : long (dim_of N) ≡ true = sym (rw (f s.sized) at g) ∙ s.own in
      let p = and_left (leb (dim_of N * columns) (length parameter)) (solved_long mode (dim_of N) columns (elements S) (length solved)) l in
      let q = and_right (leb (dim_of N * columns) (length parameter)) (solved_long mode (dim_of N) columns (elements S) (length solved)) l in
      record {
        sized = s.sized;
        entered = s.entered;
        sided = record {
          in_parameter = leb-true (dim_of N * columns) (length parameter) p;
          in_solved = le_of_eq (sym (solved_sides mode (dim_of N) columns (elements S) (length solved) s.resolved q));
        };
      }

  module _ (out : List Float) {k : ℕ} (e : k ≡ first_of (third_tests N mode S columns parameter solved)) where
    abbrev result : List Float
    result = third_sheet N mode S columns parameter solved

    result_long : length result ≡ elements S * columns
    result_long = contracted_long mode S (dim_of N) columns parameter solved

    pub third_refused : (k ≡ 0 → ⊥) → filled k 0 out ≡ third_call N mode S columns parameter solved out
    unfolding third_call third_number
    third_refused h = fills_refused result out (tests_stand N _ _ mode S _ e h) h

    third_left : k ≡ 0 → fills_if result out ≡ third_call N mode S columns parameter solved out
    unfolding third_call third_number first_of
    third_left z = ap (λ (n : ℕ). fills n result out) (sym (tests_pass N _ _ mode S (test 7 (short result out) ∷ []) e z))

    pub third_short : k ≡ 0 → leb (elements S * columns) (length out) ≡ false → filled 7 0 out ≡ third_call N mode S columns parameter solved out
    third_short z h = laid_short result out (elements S * columns) result_long h ∙ third_left z

    pub third_done : k ≡ 0 → leb (elements S * columns) (length out) ≡ true → {d : ℕ} {new : List Float} → d ≡ dim_of N → new ≡ front (contracted mode S d columns parameter solved) out
        → filled 0 (elements S * columns) new ≡ third_call N mode S columns parameter solved out
    third_done z h f g = laid_done result out (elements S * columns) result_long h (rw f at g) ∙ third_left z
