-- Words and doubles in bytes, the lowest byte first, and back. Assumes nothing.
use Rattle.std.specs.Prelude.{ℕ, zero, suc, ◌+◌, ◌*◌, ◌/◌, ◌%◌, List, [], ◌∷◌, ◌++◌, Float, length, get_or}
use Rattle.std.specs.Float.{binary64}
use Rattle.std.specs.Float.Ieee.{of_bits, to_bits}
use Rattle.sequence.specs.Lists.{made}

-- ---- from bytes

-- the number of the four bytes from a place on
abbrev pub at32 : List ℕ → ℕ → ℕ
at32 b i = get_or b i 0 + 256 * get_or b (i + 1) 0 + 65536 * get_or b (i + 2) 0 + 16777216 * get_or b (i + 3) 0

-- the number of the eight bytes from a place on
abbrev pub at64 : List ℕ → ℕ → ℕ
at64 b i = at32 b i + 4294967296 * at32 b (i + 4)

abbrev pub word_at : List ℕ → ℕ → ℕ
word_at b i = at32 b (4 * i)

abbrev pub double_at : List ℕ → ℕ → Float
double_at b i = of_bits binary64 (at64 b (8 * i))

-- every whole word, and every whole double
abbrev pub words_of : List ℕ → List ℕ
words_of b = made (word_at b) (length b / 4)

abbrev pub doubles_of : List ℕ → List Float
doubles_of b = made (double_at b) (length b / 8)

-- ---- to bytes

-- the k lowest bytes of a number
abbrev pub bytes_of : ℕ → ℕ → List ℕ
bytes_of zero v = []
bytes_of (suc k) v = v % 256 ∷ bytes_of k (v / 256)

-- the lists that g makes of the elements, one after the other
unfoldable pub joined : {A : Type 0} → (A → List ℕ) → List A → List ℕ
joined g [] = []
joined g (x ∷ xs) = g x ++ joined g xs

abbrev pub word_bytes : List ℕ → List ℕ
word_bytes ws = joined (bytes_of 4) ws

-- a double's pattern; a NaN's is the one with the sign clear and only the highest of the digits set
abbrev pub pattern_bytes : Float → List ℕ
pattern_bytes x = bytes_of 8 (to_bits binary64 x)

abbrev pub double_bytes : List Float → List ℕ
double_bytes xs = joined pattern_bytes xs
