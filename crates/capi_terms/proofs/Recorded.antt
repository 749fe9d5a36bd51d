-- Three byte slices that hold a network whose terms are records: what fits where its sizes hold, and the network that was decoded. Assumes nothing.
use mathlib.Core.Path.{◌≡◌, sym}
use mathlib.Core.Bool.{Bool, true, false, ◌&&◌}
use mathlib.Core.List.{List}
use Prim.Native.Nat.{ℕ, ◌/◌}
use native.Mathlib.Omega.{arith}
use lib.ListN.{length}
use lib.Ieee.{Float}
use Rattle.sequence.proofs.Lists.{and_left, and_right, made_length}
use Rattle.words.specs.Words.{word_at, double_at, words_of, doubles_of}
use Rattle.network.specs.Numbers.{Network, sizes_hold}
use Rattle.terms.specs.declared.Term.{Term}
use Rattle.terms.specs.Terms.{network_of}
use Rattle.terms.proofs.Apart.{indexes_length}
use Rattle.decoding.specs.Exports.{whole}
use Rattle.decoding.specs.Decoding.{fits}
use Rattle.decoding.proofs.Decoded.{contrary, fits_of, whole_of, wiring_few, readings_few, indexes_few}
use Rattle.terms.specs.Records.{term_at}
use Rattle.capi_terms.specs.Records.{terms_of}

module _ (w r t : List ℕ) where
  abbrev pub network : Network
  network = network_of (words_of w) (doubles_of r) (terms_of t)

  abbrev pub wholes : Bool
  wholes = whole 4 w && (whole 8 r && whole 12 t)

  module _ (e : wholes && sizes_hold network ≡ true) where
    all : wholes ≡ true
    all = and_left wholes (sizes_hold network) e

    sized : sizes_hold network ≡ true
    sized = and_right wholes (sizes_hold network) e

    rest : whole 8 r && whole 12 t ≡ true
    rest = and_right (whole 4 w) _ all

    wiring_fits : fits 4 w 3033 ≡ true
    wiring_fits = fits_of 4 w 3033 (and_left (whole 4 w) _ all) (omega (arith, wiring_few network sized, made_length (word_at w) (length w / 4)))

    readings_fit : fits 8 r 8065 ≡ true
    readings_fit = fits_of 8 r 8065 (and_left (whole 8 r) _ rest) (omega (arith, readings_few network sized, made_length (double_at r) (length r / 8)))

    terms_fit : fits 12 t 1024 ≡ true
    terms_fit = fits_of 12 t 1024 (and_right (whole 8 r) _ rest) (omega (arith, indexes_few network sized, indexes_length (terms_of t), made_length (term_at t) (length t / 12)))

  -- a slice that does not fit is ragged, or the sizes do not hold
  pub no_wiring : false ≡ fits 4 w 3033 → wholes && sizes_hold network ≡ false
  no_wiring q = contrary _ _ wiring_fits (sym q)

  pub no_readings : false ≡ fits 8 r 8065 → wholes && sizes_hold network ≡ false
  no_readings q = contrary _ _ readings_fit (sym q)

  pub no_terms : false ≡ fits 12 t 1024 → wholes && sizes_hold network ≡ false
  no_terms q = contrary _ _ terms_fit (sym q)

  pub all_whole : true ≡ fits 4 w 3033 → true ≡ fits 8 r 8065 → true ≡ fits 12 t 1024 → wholes ≡ true
  all_whole p q s = rw (whole_of 4 w 3033 (sym p), whole_of 8 r 8065 (sym q), whole_of 12 t 1024 (sym s))

-- what was decoded, where it was all of the terms
pub taken : (t : List ℕ) {b : List ℕ} {s : List Term} → s ≡ terms_of b → true ≡ fits 12 b 1024 → b ≡ t → (s ≡ terms_of t) × (true ≡ fits 12 t 1024)
taken t h f e = (rw e at h, rw e at f)

pub same_network : {w w' : List ℕ} {r r' : List Float} {t t' : List Term} → w ≡ w' → r ≡ r' → t ≡ t' → network_of w r t ≡ network_of w' r' t'
same_network p q s = rw (p, q, s)
