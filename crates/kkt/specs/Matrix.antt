-- From slots to triplets: those whose value is not zero, their places made flat.
-- Main definitions: `emitted`, `kkt_matrix_list`. Assumes nothing.
use Rattle.std.specs.Prelude.{ℕ, ◌+◌, ◌*◌, not, List, [], ◌∷◌, ◌++◌, Float, Option}
use Rattle.std.specs.Float.Ieee.{eq}
use Rattle.float64.specs.Values.{nought}
use Rattle.sequence.specs.declared.Triplet.{Triplet}
use Rattle.sequence.specs.Sheets.{item, emit}
use Rattle.network.specs.declared.Counts.{Counts}
use Rattle.network.specs.declared.Field.{Field}
use Rattle.network.specs.Layout.{reading}
use Rattle.solution.specs.declared.Entry.{Entry}
use Rattle.solution.specs.Sheet.{pieces, solved}
use Rattle.kkt_index.specs.declared.Block.{Block}
use Rattle.kkt_index.specs.Index.{linear_row_count, block_start}
use Rattle.snapping.specs.Expr.{eval}
use Rattle.kkt.specs.Slots.{Place, Slot, Rule, site_of, slots}

-- a value, kept where it is not zero
abbrev pub kept : ℕ → ℕ → Float → Option Triplet
kept r c v = item (not (eq v nought)) r c v

module _ (start : Block → ℕ) (R : Field → ℕ → Float) (S : Entry → ℕ → Float) where
  abbrev pub flat : Place → ℕ
  flat p = start p.0 + p.1

  -- a slot as a triplet or none, by where the blocks start and what is read
  abbrev pub item_of : Slot → Option Triplet
  item_of s = kept (flat s.row) (flat s.col) (eval R S s.what)

  unfoldable pub emitted : List Slot → List Triplet
  emitted [] = []
  emitted (s ∷ ss) = emit (item_of s) ++ emitted ss

-- the matrix of a network and its solution sheet
unfoldable pub kkt_matrix_list : Rule → Counts → List ℕ → List Float → List ℕ → List Float → List Float → List Triplet
kkt_matrix_list rule c w r ti tc s =
    emitted (block_start c (pieces c w) (linear_row_count c w r)) (reading c r) (solved c (pieces c w) s) (slots (site_of rule c w r ti tc))

-- "The list has at most 26m + 10n + 9k + 5S + 2R + 4T + 2q triplets"
abbrev pub most : Counts → ℕ
most c = 26 * c.branches + 10 * c.buses + 9 * c.generators + 5 * c.segments + 2 * c.references + 4 * c.terms + 2 * c.rows
