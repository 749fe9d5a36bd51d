-- What the loops that put the matrix keep: what slots emit at a frame, and short columns as three triplets or none.
-- Main definitions: `emitted_at`, `triple`, `span_of`. Assumes nothing.
use Rattle.std.specs.Prelude.{ℕ, ◌+◌, ◌%◌, Bool, true, false, cond, List, [], ◌∷◌, ◌++◌, get_or, eqb, Float, Option, None}
use Rattle.std.specs.Float.{nan, binary64}
use Rattle.std.specs.Float.Ieee.{neg, mul}
use Rattle.float64.specs.Values.{nought, one}
use Rattle.sequence.specs.Lists.{each, when}
use Rattle.sequence.specs.declared.Triplet.{Triplet}
use Rattle.sequence.specs.Sheets.{emit}
use Rattle.network.specs.declared.Counts.{Counts}
use Rattle.network.specs.declared.Field.{Field}
use Rattle.network.specs.declared.Part.TheVariants.{GenBus}
use Rattle.network.specs.Layout.{reading, wire}
use Rattle.solution.specs.declared.Entry.{Entry}
use Rattle.solution.specs.Sheet.{solved, pieces}
use Rattle.kkt_index.specs.declared.Block.{Block}
use Rattle.kkt_index.specs.declared.Block.TheVariants.{Va, Pg, Flow, Psh, Cost, LamLb, LamUb, GammaLb, GammaUb, RhoLb, RhoUb, MuLb, MuUb, Segments, Linear, NuBal, NuFlow, Eta}
use Rattle.kkt_index.specs.declared.KktIdx.{KktIdx}
use Rattle.kkt_index.specs.Index.{start_in}
use Rattle.snapping.specs.Expr.{Expr, eval, less_unit}
use Rattle.snapping.specs.Expr.Expr.{num, minus}
use Rattle.snapping.specs.Snap.{upper_slack, lower_slack, upper_dual, lower_dual}
use Rattle.kkt.specs.declared.Side.{Side}
use Rattle.kkt.specs.declared.Side.TheVariants.{Above, Below, Level}
use Rattle.kkt.specs.Slots.{Slot, slot, balance}
use Rattle.kkt.specs.declared.frame.Kkt.{Kkt}
use Rattle.kkt.specs.Matrix.{kept, item_of, emitted}

-- a slot as a triplet or none, by the index and the slices
abbrev pub item_in : Counts → List Float → List Float → KktIdx → Slot → Option Triplet
item_in c r s x = item_of (start_in x) (reading c r) (solved c x.pieces s)

-- the same of what a frame is read from, and what its slots emit
abbrev pub item_at : Kkt → Slot → Option Triplet
item_at k = item_in k.grid.plan.counts k.grid.plan.readings.now k.sheet.now k.index

abbrev pub emitted_at : Kkt → List Slot → List Triplet
emitted_at k = emitted (start_in k.index) (reading k.grid.plan.counts k.grid.plan.readings.now) (solved k.grid.plan.counts k.index.pieces k.sheet.now)

-- ---- up to three triplets by value

abbrev pub three : Option Triplet → Option Triplet → Option Triplet → List (Option Triplet)
three a b c = a ∷ b ∷ c ∷ []

abbrev pub triple : (Slot → Option Triplet) → List Slot → List (Option Triplet)
triple f [] = three None None None
triple f (a ∷ []) = three (f a) None None
triple f (a ∷ b ∷ []) = three (f a) (f b) None
triple f (a ∷ b ∷ c ∷ ss) = three (f a) (f b) (f c)

-- the triplets that are meant
unfoldable pub emits : List (Option Triplet) → List Triplet
emits [] = []
emits (t ∷ ts) = emit t ++ emits ts

-- ---- the blocks whose columns have at most three entries each

abbrev pub is_short : Block → Bool
is_short Va = false
is_short Pg = false
is_short Flow = true
is_short Psh = true
is_short Cost = false
is_short LamLb = true
is_short LamUb = true
is_short GammaLb = true
is_short GammaUb = true
is_short RhoLb = true
is_short RhoUb = true
is_short MuLb = true
is_short MuUb = true
is_short Segments = false
is_short Linear = false
is_short NuBal = false
is_short NuFlow = true
is_short Eta = true

-- ---- what loops put

-- the sign of end x of the branches: + at the from end, - at the to end
abbrev pub sign_of : ℕ → Float
sign_of x = cond (eqb (x % 2) 0) one (neg one)

abbrev pub sign_at : ℕ → Expr
sign_at x = num (sign_of x)

-- bus j's susceptance sums: negatively in its va column, or as they are in its nu_bal column
abbrev pub balance_slots : Bool → Counts → List ℕ → ℕ → List Slot
balance_slots true c w j = each c.buses (λ i. slot (NuBal, i) (Va, j) (minus (balance c w i j)) ∷ [])
balance_slots false c w j = each c.buses (λ i. slot (Va, i) (NuBal, j) (balance c w i j) ∷ [])

-- generator j, where it is at bus i
abbrev pub generators_at : Counts → List ℕ → ℕ → ℕ → List Slot
generators_at c w i j = when (eqb (wire c w GenBus j) i) (slot (Pg, j) (NuBal, i) less_unit ∷ [])

-- a row's sums by column, at places from a start on: each taken negatively or as it is
abbrev pub taken : Bool → Float → Float
taken true v = neg v
taken false v = v

abbrev pub sum_item : Bool → List Float → ℕ → ℕ → ℕ → Option Triplet
sum_item less acc from col i = kept (from + i) col (taken less (get_or acc i nan))

unfoldable pub span_of : Bool → List Float → ℕ → ℕ → ℕ → ℕ → List Triplet
span_of less acc from col a b = each b (λ i. emit (sum_item less acc from col (a + i)))

-- ---- a side of a linear row

-- its dual, and its slack; an equality has no use for either
abbrev pub dual_on : Side → Counts → List ℕ → List ℕ → List Float → (Field → ℕ → Float) → (Entry → ℕ → Float) → ℕ → Float
dual_on Above c w ti tc R S q = eval R S (upper_dual c w ti tc q)
dual_on Below c w ti tc R S q = eval R S (lower_dual c w ti tc q)
dual_on Level c w ti tc R S q = nought

abbrev pub slack_on : Side → Counts → List ℕ → List ℕ → List Float → (Field → ℕ → Float) → (Entry → ℕ → Float) → ℕ → Float
slack_on Above c w ti tc R S q = eval R S (upper_slack c w ti tc q)
slack_on Below c w ti tc R S q = eval R S (lower_slack c w ti tc q)
slack_on Level c w ti tc R S q = nought

abbrev pub slackens : Side → Bool
slackens Above = true
slackens Below = true
slackens Level = false

-- what it holds in its row against a coefficient, and in its column
abbrev pub row_times : Side → Float → Float → Float
row_times Above dual x = mul binary64 (neg dual) x
row_times Below dual x = mul binary64 dual x
row_times Level dual x = x

abbrev pub column_times : Side → Float → Float
column_times Above x = x
column_times Below x = neg x
column_times Level x = x
