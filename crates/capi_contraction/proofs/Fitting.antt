-- Slices that were decoded or not, beside a network: what the export's test says of them, and its answer on what was decoded.
-- Main results: `beside`, `left_out`, `right_out`, `missed`, `told_entries`, `told_sheets`. Assumes nothing.
use mathlib.Core.Path.{◌≡◌, refl}
use mathlib.Core.Bool.{Bool, true, false, ◌&&◌, and-false}
use mathlib.Core.List.{List}
use lib.Ieee.{Float}
use Rattle.std.specs.Prelude.{None}
use Rattle.network.specs.Numbers.{Network, sizes_hold}
use Rattle.contraction.specs.Contraction.{Selector}
use Rattle.decoding.specs.Exports.{Out}
use Rattle.decoding.specs.Decoding.{Read}

-- ---- two tests that are both asked

pub beside : {p q : Bool} → p ≡ true → q ≡ true → p && q ≡ true
beside e d = rw (e, d)

pub left_out : {p : Bool} (q : Bool) → p ≡ false → p && q ≡ false
left_out q e = rw e

pub right_out : (p : Bool) {q : Bool} → q ≡ false → p && q ≡ false
right_out p e = rw (e, and-false p)

-- ---- a network that was not decoded, in an export with slices of its own

missing : (ok own sized : Bool) → ok && sized ≡ false → (ok && own) && sized ≡ false
missing false own sized e = refl
missing true true sized e = e
missing true false sized e = refl

pub missed : {A : Type 0} {ok : Bool} {N : Network} {Is : A → Type 0} (own : Bool) → Read ok N None Is → (ok && own) && sizes_hold N ≡ false
missed {A} {ok} {N} own r = missing ok own (sizes_hold N) r.refused

-- ---- what was decoded is what the bytes say

pub told_entries : (g : Bool → Network → Selector → Out) {b : Bool} {M N : Network} {S S' : Selector} → b ≡ true → M ≡ N → S ≡ S' → g true M S ≡ g b N S'
told_entries g e q r = rw (e, q, r)

pub told_sheets : (g : Bool → Network → Selector → List Float → List Float → Out) {b : Bool} {M N : Network} {S S' : Selector} {P P' Y Y' : List Float}
    → b ≡ true → M ≡ N → S ≡ S' → P ≡ P' → Y ≡ Y' → g true M S P Y ≡ g b N S' P' Y'
told_sheets g e q r p y = rw (e, q, r, p, y)
