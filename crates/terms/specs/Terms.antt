-- A network whose terms are a slice of records: their indexes and their coefficients, in order.
-- Main definitions: `indexes_of`, `coefficients_of`, `network_of`, `array_call`. Assumes nothing.
use Rattle.std.specs.Prelude.{ℕ, ◌≤◌, ◌≡◌, cond, List, [], ◌∷◌, length, take, leb, Float}
use Rattle.std.specs.Float.{nan}
use Rattle.sequence.specs.Answers.{Filled, filled}
use Rattle.network.specs.Numbers.{Network}
use Rattle.model.specs.Calls.{evaluate_call}
use Rattle.terms.specs.declared.Term.{Term}
use Rattle.terms.specs.declared.Columns.{Columns}

-- what a place past the terms reads
abbrev pub none : Term
none = record { index = 0; coefficient = nan }

unfoldable pub indexes_of : List Term → List ℕ
indexes_of [] = []
indexes_of (t ∷ ts) = t.index ∷ indexes_of ts

unfoldable pub coefficients_of : List Term → List Float
coefficients_of [] = []
coefficients_of (t ∷ ts) = t.coefficient ∷ coefficients_of ts

-- the network of the terms' indexes and coefficients
abbrev pub network_of : List ℕ → List Float → List Term → Network
network_of w r ts = record { wiring = w; readings = r; indexes = indexes_of ts; coefficients = coefficients_of ts }

-- the call on the first n terms of an array: more than it has are a wrong length, number 1
unfoldable pub array_call : List ℕ → List Float → List Term → ℕ → ℕ → List Float → List Float → List Float → Filled Float
array_call w r ts n q f pg sheet = cond (leb n 1024) (evaluate_call (network_of w r (take n ts)) q f pg sheet) (filled 1 0 sheet)

-- ---- on the way: the terms in two arrays

-- the arrays' fronts are the terms, where there is room for them
abbrev pub Apart : List Term → Columns → Type 0
Apart ts c = length ts ≤ 1024 → (take (length ts) c.indexes ≡ indexes_of ts) × (take (length ts) c.coefficients ≡ coefficients_of ts)
