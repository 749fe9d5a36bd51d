-- Each parameter's column is the derivative of the residual in the parameter, row by row, the sign of a zero aside.
-- Main results: `column_is_the_derivative`, `accepted_column`. Assumes nothing.
use mathlib.Core.Path.{◌≡◌, refl, sym, ap, ◌∙◌, subst}
use mathlib.Core.Bool.{Bool, true, false, ◌||◌}
use mathlib.Core.List.{List, [], ◌∷◌}
use Prim.Native.Nat.{ℕ, ◌<◌}
use native.Mathlib.Omega.{arith}
use lib.Dec.{T, eqb}
use lib.Ieee.{Float}
use borrow.Author.Tests.{eqb-true}
use Rattle.float64.specs.Values.{raw_limit, in_range, base_low, base_high}
use Rattle.sequence.specs.Lists.{every}
use Rattle.sequence.proofs.Lists.{and_left, every_at}
use Rattle.sequence.specs.Facts.{All}
use Rattle.sequence.specs.Facts.All.{done, ◌&◌}
use Rattle.sequence.proofs.Facts.{all_map}
use Rattle.network.specs.declared.Counts.{Counts}
use Rattle.network.specs.declared.Field.TheVariants.{BaseMva}
use Rattle.network.specs.Layout.{reading}
use Rattle.network.specs.Numbers.{Network, in_rank, field_holds, all_within, readings_hold, Wired, Accepted}
use Rattle.solution.specs.Sheet.{pieces}
use Rattle.kkt_index.specs.declared.Block.{Block}
use Rattle.kkt_index.specs.Index.{rank, linear_start}
use Rattle.parameter_column.specs.declared.Served.{Served}
use Rattle.parameter_column.specs.declared.Served.TheVariants as served
use Rattle.parameter_column.specs.Columns.{elements}
use Rattle.books.specs.Forms.{plain}
use Rattle.books.specs.Matrix.{Doubles}
use Rattle.books.proofs.Cells.{one_rank}
use Rattle.books_residual.specs.Residual.{Row}
use Rattle.books_residual.specs.Columns.{ColumnIs}
use Rattle.books_residual.proofs.Places.{column_at_lem}
use Rattle.books_residual.proofs.Rows.{Found, rows_are}
use Rattle.books_residual.proofs.Setting.{Given, site, Claim}
use Rattle.books_residual.proofs.Quiet.{among, special, held, quiet}
use Rattle.books_residual.proofs.Limits.{At, limit_floor, limit_ceiling, linear, quadratic, demand_balance, demand_cap}
use Rattle.books_residual.proofs.Linear.{limit_rows_lem}
use Rattle.books_residual.proofs.Branches.{susceptance_angle, susceptance_balance, susceptance_flow, switching_angle, switching_balance, switching_flow, switching_floor, switching_ceiling}

-- what holds of every block of a list holds of a block that is in it
find : (P : Block → Type 0) (bs : List Block) (b : Block) → All P bs → among (rank b) bs ≡ true → P b
find P [] b done e = absurd (subst T (sym e) tt)
find P (a ∷ bs) b (p & ps) e = go (eqb (rank a) (rank b)) refl e (find P bs b ps)
  where
    go : (t : Bool) → eqb (rank a) (rank b) ≡ t → (t || among (rank b) bs) ≡ true → (among (rank b) bs ≡ true → P b) → P b
    go true q e ih = subst P (one_rank a b (eqb-true _ _ q)) p
    go false q e ih = ih e

module _ (z : Given) where
  moving : (k : Served) (i : ℕ) → i < elements z.counts k → All (At z k i) (special k)
  moving served.Demand i l = demand_balance z i & demand_cap z i & done
  moving served.CostQuadratic i l = quadratic z i & done
  moving served.CostLinear i l = linear z i & done
  moving served.LineLimit i l = limit_floor z i & limit_ceiling z i & done
  moving served.BranchSusceptance i l = susceptance_angle z i l & susceptance_balance z i l & susceptance_flow z i l & done
  moving served.Switching i l = switching_angle z i l & switching_balance z i l & switching_flow z i l & switching_floor z i l & switching_ceiling z i l & done
  moving served.ConstraintLimit i l = limit_rows_lem z i l & done

  every_block : (k : Served) (i : ℕ) → i < elements z.counts k → (b : Block) → At z k i b
  every_block k i l b j f h row = go (among (rank b) (special k)) refl
    where
      go : (t : Bool) → among (rank b) (special k) ≡ t → Claim z k i b j f
      go true e = find (At z k i) (special k) b (moving k i l) e j f h row
      go false e = quiet z k i b j f e row

pub column_is_the_derivative : (c : Counts) (w : List ℕ) (r : List Float) (ti : List ℕ) (tc s : List Float) (k : Served) (i : ℕ) → Wired c w → Doubles s
    → in_range base_low base_high (reading c r BaseMva 0) ≡ true → i < elements c k → ColumnIs c w r ti tc s k i
unfolding linear_start
column_is_the_derivative c w r ti tc s k i h d base l eta =
    let z : Given = record { counts = c; wiring = w; readings = r; indexes = ti; coefficients = tc; sheet = s; eta = eta; wired = h; sheet_fits = d; base = base } in
    all_map
    (λ (x : Row) (f : Found (site z) x).
    ap plain (column_at_lem c w ti tc (pieces c w) r s k i x.0 f.0 (held z k i l)) ∙ every_block z k i l x.0.0 x.0.1 x.1 f.0 f.1)
    (rows_are (site z) h)

-- ---- an accepted network

base_in : (N : Network) (c : Counts) → readings_hold c N ≡ true → in_range base_low base_high (reading c N.readings BaseMva 0) ≡ true
unfolding readings_hold field_holds in_rank
base_in N c h =
    let fields-hold = and_left (every (field_holds c N.readings) 21) (all_within raw_limit N.coefficients) h in
    every_at (λ i. in_rank 0 (reading c N.readings BaseMva i)) 1 (every_at (field_holds c N.readings) 21 fields-hold 0 (omega arith)) 0 (omega arith)

pub accepted_column : (N : Network) (c : Counts) (s : List Float) (k : Served) (i : ℕ) → Accepted N c → Doubles s → i < elements c k
    → ColumnIs c N.wiring N.readings N.indexes N.coefficients s k i
accepted_column N c s k i h d l =
    column_is_the_derivative c N.wiring N.readings N.indexes N.coefficients s k i h.wired d (base_in N c h.readings_pass) l
