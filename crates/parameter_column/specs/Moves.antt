-- What touches make of a column. Main definition: `Moves`. Assumes nothing.
use Rattle.std.specs.Prelude.{◌≡◌, List}
use Rattle.kkt_index.specs.Index.{start_in}
use Rattle.parameter_column.specs.declared.column.Column.{Column}
use Rattle.parameter_column.specs.Columns.{Touch}
use Rattle.parameter_column.specs.Walks.{Touched}

-- the touches were made, in order, on the same lent words, by the same index
pub record Moves (ts : List Touch) (old new : Column) : Type 0 where
  pub touched : Touched (start_in old.index) ts old.words.now new.words.now
  pub counts : new.counts ≡ old.counts
  pub index : new.index ≡ old.index
  pub same_words : new.words.ghost_name ≡ old.words.ghost_name
