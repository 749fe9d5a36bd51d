-- What the walks over a raw vector's block give, word by word: a block turned, the limits by rank, a row's signed dual.
-- Main definitions: `turned_at`, `picked_at`, `lower_at`, `signed_of`, `cost_sum`, `objective_of`. Assumes nothing.
use Rattle.std.specs.Prelude.{ℕ, ◌≡◌, Bool, cond, List, length, get_or, eqb, Float}
use Rattle.std.specs.Float.{nan, binary64}
use Rattle.std.specs.Float.Ieee.{neg, add, sub}
use Rattle.float64.specs.Values.{nought}
use Rattle.sequence.specs.Lists.{turns}
use Rattle.network.specs.declared.Counts.{Counts}
use Rattle.network.specs.declared.Field.TheVariants.{CShed}
use Rattle.network.specs.Layout.{objective, reading}
use Rattle.model.specs.declared.RowLimits.{RowLimits}
use Rattle.model.specs.declared.RowLimits.TheVariants.{None, Upper, Lower, Both, Equal}
use Rattle.model.specs.Quantities.{generator_cost}
use Rattle.opf_layout.specs.Layout.{active_rank}

-- a call at index i tells whether it is active, and gives its value
abbrev pub Tells : (ℕ → Bool → Type 0) → (ℕ → Bool) → Type 0
Tells post on = (i : ℕ) (r : Bool) → post i r → r ≡ on i

abbrev pub Gives : (ℕ → Float → Type 0) → (ℕ → Float) → Type 0
Gives post f = (i : ℕ) (r : Float) → post i r → r ≡ f i

abbrev pub turned_at : List Float → ℕ → Float
turned_at block i = neg (get_or block i nan)

-- at an active index the word of its rank, else another
abbrev pub picked_at : (ℕ → Bool) → List Float → (ℕ → Float) → ℕ → Float
picked_at on block other i = cond (on i) (get_or block (active_rank on i) nan) (other i)

-- at a bus without a shed column: c_shed minus nu_bal
abbrev pub lower_at : Counts → List Float → List Float → ℕ → Float
lower_at c r balance i = sub binary64 (reading c r CShed i) (neg (get_or balance i nan))

-- equality plus upper minus lower, each 0 where there is none
abbrev pub signed_of : RowLimits → List Float → List Float → Float
signed_of None equal limit = sub binary64 (add binary64 nought nought) nought
signed_of (Upper u) equal limit = sub binary64 (add binary64 nought (get_or limit 0 nan)) nought
signed_of (Lower l) equal limit = sub binary64 (add binary64 nought nought) (get_or limit 0 nan)
signed_of (Both u l) equal limit = sub binary64 (add binary64 nought (get_or limit 0 nan)) (get_or limit 1 nan)
signed_of (Equal l) equal limit = sub binary64 (add binary64 (get_or equal 0 nan) nought) nought

-- the cost of the first n generators at a dispatch
abbrev pub cost_sum : Counts → List ℕ → List Float → List Float → ℕ → Float
cost_sum c w r pg n = turns (λ j a. add binary64 a (generator_cost c w r j (get_or pg j nan))) nought n

abbrev pub objective_of : Counts → List ℕ → List Float → List Float → Float → Float
objective_of c w r pg raw = cond (eqb (objective w) 0) nought (cond (eqb (objective w) 1) (cost_sum c w r pg (length pg)) raw)
