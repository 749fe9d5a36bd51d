-- The bit patterns of the named doubles: they are those of the literals in the code. Assumes nothing.
use mathlib.Core.Path.{◌≡◌, refl}
use lib.Ieee.{binary64, div, of_int, of_bits}
use Rattle.float64.specs.Values.{whole, tolerance, raw_limit, sheet_limit, parameter_limit, base_low, base_high}

pub tolerance_bits : tolerance ≡ of_bits binary64 0x3eb0_c6f7_a0b5_ed8d
unfolding tolerance whole div of_int of_bits
tolerance_bits = refl

pub raw_limit-bits : raw_limit ≡ of_bits binary64 0x426d_1a94_a200_0000
unfolding raw_limit whole of_int of_bits
raw_limit-bits = refl

pub sheet_limit-bits : sheet_limit ≡ of_bits binary64 0x430c_6bf5_2634_0000
unfolding sheet_limit whole of_int of_bits
sheet_limit-bits = refl

pub parameter_limit-bits : parameter_limit ≡ of_bits binary64 0x4c63_e9e4_e4c2_f344
unfolding parameter_limit whole of_int of_bits
parameter_limit-bits = refl

pub base_low-bits : base_low ≡ of_bits binary64 0x3f50_624d_d2f1_a9fc
unfolding base_low whole div of_int of_bits
base_low-bits = refl

pub base_high-bits : base_high ≡ of_bits binary64 0x412e_8480_0000_0000
unfolding base_high whole of_int of_bits
base_high-bits = refl
