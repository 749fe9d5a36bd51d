-- The laws of the NaN: which patterns are its, and that only it differs from itself. Assumes nothing.
use mathlib.Core.Path.{◌≡◌, refl, sym, ◌∙◌, subst}
use mathlib.Core.Bool.{Bool, true, false, not}
use Prim.Native.Nat.{ℕ, ◌%◌, ◌≤◌, ◌<◌}
use lib.Dec.{T}
use lib.Ieee.{Float, nan, inf, fin, binary64, is_nan, nan_bits, of_bits, ne}
use lib.Ieee.Bits.{nan_bits_is, nan_bits_above}
use lib.Ieee.Compare.{differs_from_itself, nan_differs}
use borrow.Author.Tests.{lt-ltb, le-ltb}

is_nan_lem : (x : Float) → is_nan x ≡ true → x ≡ nan
unfolding is_nan
is_nan_lem nan e = refl
is_nan_lem (inf s) e = absurd (subst T (sym e) tt)
is_nan_lem (fin s m d) e = absurd (subst T (sym e) tt)

-- a pattern above the infinity's, with the sign's bit taken off, is a NaN's, and no other is
pub nan_above : (b : ℕ) → 0x7ff0_0000_0000_0000 < b % 0x8000_0000_0000_0000 → of_bits binary64 b ≡ nan
nan_above b h = is_nan_lem (of_bits binary64 b) (sym (nan_bits_is binary64 b) ∙ nan_bits_above binary64 b ∙ lt-ltb 0x7ff0_0000_0000_0000 (b % 0x8000_0000_0000_0000) h)

pub no_nan_below : (b : ℕ) → b % 0x8000_0000_0000_0000 ≤ 0x7ff0_0000_0000_0000 → T (not (nan_bits binary64 b))
no_nan_below b h = subst (λ (t : Bool). T (not t)) (sym (nan_bits_above binary64 b ∙ le-ltb 0x7ff0_0000_0000_0000 (b % 0x8000_0000_0000_0000) h)) tt

pub nan_of : (x : Float) → ne x x ≡ true → x ≡ nan
nan_of x e = differs_from_itself x (subst T (sym e) tt)

pub no_nan_of : (x : Float) → ne x x ≡ false → T (not (is_nan x))
unfolding is_nan
no_nan_of nan e = absurd (subst T (sym nan_differs ∙ e) tt)
no_nan_of (inf s) e = tt
no_nan_of (fin s m d) e = tt
