-- What an accepted call leaves in the sheets: its list, on which the matrix call would write nothing new.
-- Main results: `list_left`, `list_stands`. Assumes nothing.
use Prim.Native.Nat.{ℕ, ◌≤◌}
use mathlib.Core.Path.{◌≡◌, refl, sym, ap, ◌∙◌}
use mathlib.Core.Bool.{false}
use mathlib.Core.List.{List, [], ◌∷◌}
use native.Mathlib.Omega.{arith}
use lib.ListN.{length, drop, length-map}
use lib.Seq.{drop-append_seam}
use lib.Ieee.{Float}
use borrow.Author.Tests.{ltb-false}
use Rattle.sequence.specs.Lists.{front}
use Rattle.sequence.specs.declared.Triplet.{Triplet}
use Rattle.sequence.specs.Sheets.{rows_of, cols_of, values_of, laid, lays, lays_if, room, short_list}
use Rattle.sequence.proofs.Lists.{front_length}
use Rattle.sequence.proofs.Fronts.{take_front}
use Rattle.kkt.specs.Slots.{Rule}
use Rattle.sens_dc.proofs.Returns.{matrix_laid}
use Rattle.job_book.specs.declared.Change.{Change}
use Rattle.job_book.specs.Book.{Given, Words, fronts, network_of, matrix_of, changed}
use Rattle.job_book.specs.Run.{triplets, list_in, Stands}
use Rattle.job_book.proofs.Steps.{Taken}
use Rattle.job_book.proofs.Readings.{still_accepted}

-- a front laid over itself
front_twice : {A : Type 0} (new old : List A) → front new (front new old) ≡ front new old
unfolding front
front_twice new old = rw (drop-append_seam new (drop (length new) old))

triplets_of : (ts : List Triplet) → triplets (rows_of ts) (cols_of ts) (values_of ts) ≡ ts
unfolding triplets
triplets_of [] = refl
triplets_of (t ∷ ts) = ap (λ (us : List Triplet). t ∷ us) (triplets_of ts)

module _ (ts : List Triplet) (r : List Float) (W : Words) where
  list_in_lem : list_in (length ts) (fronts ts r W) ≡ ts
  list_in_lem =
      rw (take_front (rows_of ts) W.rows (length ts) (simp length-map), take_front (cols_of ts) W.cols (length ts) (simp length-map), take_front (values_of ts) W.values (length ts) (simp length-map))
      (triplets_of ts)

  module _ (fits : short_list ts W.rows W.cols W.values ≡ false) where
    enough : length ts ≤ room W.rows W.cols W.values
    enough = ltb-false (room W.rows W.cols W.values) (length ts) fits

    still_fits : short_list ts (front (rows_of ts) W.rows) (front (cols_of ts) W.cols) (front (values_of ts) W.values) ≡ false
    still_fits =
        let n = enough in
        rw (front_length (rows_of ts) W.rows (rw length-map (omega arith)), front_length (cols_of ts) W.cols (rw length-map (omega arith)), front_length (values_of ts) W.values (rw length-map (omega arith)))
        fits

    lays_again : lays_if ts (front (rows_of ts) W.rows) (front (cols_of ts) W.cols) (front (values_of ts) W.values)
        ≡ laid 0 (length ts) (front (rows_of ts) W.rows) (front (cols_of ts) W.cols) (front (values_of ts) W.values)
    unfolding lays
    lays_again = rw (still_fits, front_twice (rows_of ts) W.rows, front_twice (cols_of ts) W.cols, front_twice (values_of ts) W.values)

module _ (G : Given) (rule : Rule) where
  -- the list of the words' readings, so many triplets long, is the sheets' front
  pub record Listed (k : ℕ) (W : Words) : Type 0 where
    pub count : k ≡ length (matrix_of G rule W.readings)
    pub list : list_in k W ≡ matrix_of G rule W.readings

  module _ (W : Words) (h : Change) (k : ℕ) (W₁ : Words) (t : Taken G rule W h k W₁) where
    pub list_left : Listed k W₁
    list_left = rw (t.count, t.left) (record { count = refl; list = list_in_lem (matrix_of G rule (changed G W.readings h)) (changed G W.readings h) W })

    pub list_stands : Stands G rule W₁.readings k W₁
    list_stands =
        let r : List Float = changed G W.readings h in
        let ts : List Triplet = matrix_of G rule r in
        let fits : short_list ts W.rows W.cols W.values ≡ false = t.passed.fits in
        rw (t.count, t.left)
        (sym (matrix_laid (network_of G r) G.solution ts (front (rows_of ts) W.rows) (front (cols_of ts) W.cols) (front (values_of ts) W.values) (still_accepted G rule t.passed) refl)
        ∙ lays_again ts r W fits)
