-- `Mat` as a lent sheet, "column after column": a column for each index of a list. What the walks are lent of the flows' duals.
-- Main definitions: `jacobian`, `Flows`, `Indexes`. Assumes nothing.
use Rattle.std.specs.Prelude.{ℕ, ◌≤◌, ◌<◌, ◌≡◌, List, length, get_or, Float}
use Rattle.std.specs.Float.{nan}
use Rattle.sequence.specs.Lists.{each}
use Rattle.network.specs.declared.Counts.{Counts}
use Rattle.network.specs.Layout.{Few}
use Rattle.kkt_index.specs.declared.KktIdx.{KktIdx}
use Rattle.kkt_index.specs.Index.{linear_row_count, Narrow, Indexed}
use Rattle.snapping.specs.Snap.{nu_flow}
use Rattle.parameter_column.specs.declared.Served.{Served}
use Rattle.parameter_column.specs.Columns.{column_words}

module _ (c : Counts) (w ti : List ℕ) (tc : List Float) (p : ℕ) (r s : List Float) where
  -- the columns of the indexes in a list, one after the other
  unfoldable pub jacobian : Served → List ℕ → List Float
  jacobian k is = each (length is) (λ t. column_words c w ti tc p r s k (get_or is t 0))

  -- the flow-definition dual of every branch
  pub record Flows (nu : List Float) : Type 0 where
    pub long : c.branches ≤ length nu
    pub at : (e : ℕ) → e < c.branches → get_or nu e nan ≡ nu_flow c w ti tc p r s e

-- the index is the system's of a network
pub record Indexes (c : Counts) (w : List ℕ) (r : List Float) (x : KktIdx) : Type 0 where
  pub few : Few c
  pub indexed : Indexed c x.pieces x.linear_rows x
  pub narrow : Narrow x
  pub linear : x.linear_rows ≡ linear_row_count c w r
