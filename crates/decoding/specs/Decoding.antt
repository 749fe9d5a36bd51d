-- What the decoding of byte slices into arrays leaves, and how much room a result has. Assumes nothing.
use Rattle.std.specs.Prelude.{ℕ, ◌*◌, ◌/◌, ◌≤◌, min, ◌≡◌, Bool, true, false, ◌&&◌, List, length, take, replicate, leb, Option, IfSome, IfNone}
use Rattle.float64.specs.Values.{nought}
use Rattle.network.specs.Numbers.{Network, sizes_hold}
use Rattle.decoding.specs.declared.Arrays.{Arrays}
use Rattle.decoding.specs.declared.Lengths.{Lengths}
use Rattle.decoding.specs.declared.Taken.{Taken}
use Rattle.decoding.specs.Exports.{whole}

-- a slice is a whole number of words of k bytes, and an array of a length holds them
abbrev pub fits : ℕ → List ℕ → ℕ → Bool
fits k b most = whole k b && leb (length b / k) most

-- some words are the front of an array
pub record Held {A : Type 0} (words : List A) (count : ℕ) (array : List A) : Type 0 where
  pub room : count ≤ length array
  pub front : take count array ≡ words

-- arrays in which every word and double is zero
unfoldable pub zeros : Arrays
zeros = record { wiring = replicate 3033 0; readings = replicate 8065 nought; indexes = replicate 1024 0; coefficients = replicate 1024 nought }

-- the network in front of four arrays, at these lengths
abbrev pub cut : Lengths → Arrays → Network
cut l A =
    record {
      wiring = take l.wiring A.wiring;
      readings = take l.readings A.readings;
      indexes = take l.indexes A.indexes;
      coefficients = take l.coefficients A.coefficients;
    }

-- the arrays hold a network
pub record Holds (N : Network) (l : Lengths) (A : Arrays) : Type 0 where
  pub wiring_room : l.wiring ≤ length A.wiring
  pub readings_room : l.readings ≤ length A.readings
  pub indexes_room : l.indexes ≤ length A.indexes
  pub coefficients_room : l.coefficients ≤ length A.coefficients
  pub network : cut l A ≡ N

-- the network in front of four arrays
abbrev pub network_taken : Taken → Network
network_taken t = record { wiring = t.wiring.now; readings = t.readings.now; indexes = t.term_index.now; coefficients = t.term_coefficient.now }

-- the slices were decoded into what is said of it, or one is ragged or the sizes do not hold
pub record Read {A : Type 0} (ok : Bool) (N : Network) (r : Option A) (Is : A → Type 0) : Type 0 where
  pub decoded : IfSome r (λ (a : A). (ok ≡ true) × Is a)
  pub refused : IfNone r (ok && sizes_hold N ≡ false)

-- cells for a result of at most `most` doubles that goes to a number of bytes
pub record Cells (most bytes cells : ℕ) : Type 0 where
  pub below : cells ≤ most
  pub within : 8 * cells ≤ bytes
  pub enough : (k : ℕ) → k ≤ most → k ≤ bytes / 8 → k ≤ cells

-- how many triplets three numbers of bytes hold, of at most `most`
abbrev pub list_room : ℕ → ℕ → ℕ → ℕ → ℕ
list_room most rows cols values = min most (min (rows / 4) (min (cols / 4) (values / 8)))

-- three sheets of cells for a list of at most `most` triplets that goes to three numbers of bytes
pub record ListCells (most rows cols values r c v : ℕ) : Type 0 where
  pub in_rows : r ≡ list_room most rows cols values
  pub in_cols : c ≡ list_room most rows cols values
  pub in_values : v ≡ list_room most rows cols values
