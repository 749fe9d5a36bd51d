-- The laws of decoding: which slices fit their arrays, and that a network with a slice that does not has number 1. Assumes nothing.
use mathlib.Core.Path.{◌≡◌, refl, sym, ◌∙◌}
use mathlib.Core.Bool.{Bool, true, false, ◌&&◌}
use mathlib.Core.List.{List}
use Prim.Native.Nat.{ℕ, ◌/◌, ◌≤◌}
use native.Mathlib.Omega.{arith}
use lib.ListN.{length}
use borrow.Author.Tests.{le-leb}
use Rattle.sequence.proofs.Lists.{and_left, and_right, made_length, never}
use Rattle.words.specs.Words.{word_at, double_at, words_of, doubles_of}
use Rattle.network.specs.Numbers.{Network, sizes_hold}
use Rattle.network.proofs.Tests.{sized_few, sized_wiring, sized_readings, sized_indexes, sized_coefficients}
use Rattle.std.specs.Prelude.{Option, None}
use Rattle.decoding.specs.Exports.{whole}
use Rattle.decoding.specs.Decoding.{fits, Read}

pub contrary : (p q : Bool) → (p ≡ true → q ≡ true) → q ≡ false → p ≡ false
contrary true q f e = never (sym e ∙ f refl)
contrary false q f e = refl

-- ---- one slice

pub fits_of : (k : ℕ) (b : List ℕ) (most : ℕ) → whole k b ≡ true → length b / k ≤ most → fits k b most ≡ true
fits_of k b most h l = rw (h, le-leb (length b / k) most l)

-- what an answered flag says of the slice
pub whole_of : (k : ℕ) (b : List ℕ) (most : ℕ) → fits k b most ≡ true → whole k b ≡ true
whole_of k b most e = and_left (whole k b) _ e

-- ---- the greatest lengths of a network's slices

pub wiring_few : (N : Network) → sizes_hold N ≡ true → length N.wiring ≤ 3033
wiring_few N e = let l = sized_wiring N e in let f = sized_few N e in omega (arith, l.long, f)

pub readings_few : (N : Network) → sizes_hold N ≡ true → length N.readings ≤ 8065
readings_few N e = let l = sized_readings N e in let f = sized_few N e in omega (arith, l.long, f)

pub indexes_few : (N : Network) → sizes_hold N ≡ true → length N.indexes ≤ 1024
indexes_few N e = let f = sized_few N e in omega (arith, sized_indexes N e, f)

-- ---- a network's four slices

module _ (w r i k : List ℕ) where
  abbrev pub network : Network
  network = record { wiring = words_of w; readings = doubles_of r; indexes = words_of i; coefficients = doubles_of k }

  abbrev pub wholes : Bool
  wholes = whole 4 w && (whole 8 r && (whole 4 i && whole 8 k))

  module _ (e : wholes && sizes_hold network ≡ true) where
    all : wholes ≡ true
    all = and_left wholes (sizes_hold network) e

    sized : sizes_hold network ≡ true
    sized = and_right wholes (sizes_hold network) e

    rest : whole 8 r && (whole 4 i && whole 8 k) ≡ true
    rest = and_right (whole 4 w) _ all

    last : whole 4 i && whole 8 k ≡ true
    last = and_right (whole 8 r) _ rest

    wiring_fits : (most : ℕ) → 3033 ≤ most → fits 4 w most ≡ true
    wiring_fits most l = fits_of 4 w most (and_left (whole 4 w) _ all) (omega (arith, l, wiring_few network sized, made_length (word_at w) (length w / 4)))

    readings_fit : (most : ℕ) → 8065 ≤ most → fits 8 r most ≡ true
    readings_fit most l = fits_of 8 r most (and_left (whole 8 r) _ rest) (omega (arith, l, readings_few network sized, made_length (double_at r) (length r / 8)))

    indexes_fit : (most : ℕ) → 1024 ≤ most → fits 4 i most ≡ true
    indexes_fit most l = fits_of 4 i most (and_left (whole 4 i) _ last) (omega (arith, l, indexes_few network sized, made_length (word_at i) (length i / 4)))

    coefficients_fit : (most : ℕ) → 1024 ≤ most → fits 8 k most ≡ true
    coefficients_fit most l =
        let f = sized_few network sized in
        fits_of 8 k most (and_right (whole 4 i) _ last) (omega (arith, l, sized_coefficients network sized, f, made_length (double_at k) (length k / 8)))

  -- a slice that arrays of the greatest lengths do not hold is ragged, or the sizes do not hold
  module _ (most : ℕ) where
    pub no_wiring : false ≡ fits 4 w most → 3033 ≤ most → wholes && sizes_hold network ≡ false
    no_wiring q l = contrary _ _ (λ e. wiring_fits e most l) (sym q)

    pub no_readings : false ≡ fits 8 r most → 8065 ≤ most → wholes && sizes_hold network ≡ false
    no_readings q l = contrary _ _ (λ e. readings_fit e most l) (sym q)

    pub no_indexes : false ≡ fits 4 i most → 1024 ≤ most → wholes && sizes_hold network ≡ false
    no_indexes q l = contrary _ _ (λ e. indexes_fit e most l) (sym q)

    pub no_coefficients : false ≡ fits 8 k most → 1024 ≤ most → wholes && sizes_hold network ≡ false
    no_coefficients q l = contrary _ _ (λ e. coefficients_fit e most l) (sym q)

pub unread : {A : Type 0} {ok : Bool} {N : Network} {Is : A → Type 0} {r : Option A} → r ≡ None → ok && sizes_hold N ≡ false → Read ok N r Is
unread e h = rw e (record { decoded = tt; refused = h })
