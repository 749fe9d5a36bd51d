-- What a sink of triplets holds, and what is put into it. Main definition: `Gains`. Assumes nothing.
use Rattle.std.specs.Prelude.{◌≡◌, List}
use Rattle.sequence.specs.declared.Triplet.{Triplet}
use Rattle.sequence.specs.declared.Sink.{Sink}
use Rattle.sequence.specs.Sheets.{Sheets, held, Puts}

abbrev pub sheets_in : Sink → Sheets
sheets_in s = held s.rows s.cols s.values s.count

-- the list was put into the sheets, which are the same lent ones, below the same limit
pub record Gains (ts : List Triplet) (old new : Sink) : Type 0 where
  pub puts : Puts old.limit ts (sheets_in old) (sheets_in new)
  pub limit : new.limit ≡ old.limit
  pub same_rows : new.rows.ghost_name ≡ old.rows.ghost_name
  pub same_cols : new.cols.ghost_name ≡ old.cols.ghost_name
  pub same_values : new.values.ghost_name ≡ old.values.ghost_name
