-- Network B is accepted, and its change's cells by the index. Main results: `accepted_b`, `wired_b`, `read_b`, `narrow_b`, `index_b`, `cells_b`. Assumes nothing.
use Prim.Native.Nat.{ℕ, ◌<◌}
use mathlib.Core.Path.{◌≡◌, refl, sym, ap, ap₂, ◌∙◌, subst}
use mathlib.Core.List.{List}
use lib.Ieee.{Float, of_int, of_bits, neg, div, eq, lt, le}
use Rattle.float64.specs.Values.{whole, raw_limit, base_low, base_high, finite, magnitude, within, in_range}
use Rattle.sequence.specs.Lists.{before, every}
use Rattle.network.specs.declared.Counts.{Counts}
use Rattle.network.specs.declared.Field.{Field}
use Rattle.network.specs.Layout.{counts_of, size, ReadingsLaid, part_start, wire, field_start, place, reading, segment_start, term_start}
use Rattle.network.specs.Numbers.{few, lengths_hold, sums_hold, sizes_hold, part_holds, flow_terms_hold, generation_terms_hold, terms_hold, wiring_holds, in_rank, field_holds, all_within, readings_hold, Wired, Accepted}
use Rattle.network.proofs.Tests.{accepted}
use Rattle.solution.specs.Sheet.{pieces}
use Rattle.solution.specs.NetworkB.{wiring_b, readings_b}
use Rattle.solution_check.proofs.Own.{few_pieces}
use Rattle.kkt_index.specs.declared.KktIdx.{KktIdx}
use Rattle.kkt_index.specs.Index.{linear_row_count, start_in, Narrow, Indexed}
use Rattle.kkt_index.proofs.Starts.{narrow, few_rows}
use Rattle.change_table.specs.Table.{field_of, cells_of, cells_at, named_cells}
use Rattle.job_book.specs.Book.{network_of}
use Rattle.site_text.specs.Text.{given_b}
use Rattle.site_text.proofs.Named.{named_cells_lem}

pub accepted_b : Accepted (network_of given_b readings_b) (counts_of wiring_b)
unfolding of_int of_bits neg div eq lt le whole raw_limit base_low base_high finite magnitude within in_range before every part_start wire field_start place reading segment_start term_start few lengths_hold sums_hold sizes_hold part_holds flow_terms_hold generation_terms_hold terms_hold wiring_holds in_rank field_holds all_within readings_hold
accepted_b = accepted (network_of given_b readings_b) refl refl refl

-- the code's lists
module _ {w : List ℕ} {c : Counts} (p : w ≡ wiring_b) (q : c ≡ counts_of w) where
  pub wired_b : Wired c w
  wired_b = subst (λ (c : Counts). Wired c w) (sym q) (subst (λ (w : List ℕ). Wired (counts_of w) w) (sym p) accepted_b.wired)

  counts_b : c ≡ counts_of wiring_b
  counts_b = q ∙ ap counts_of p

  pub index_b : {f : Field} {i j : ℕ} (k : ℕ) → f ≡ field_of k → i ≡ j → j < size (counts_of wiring_b) (field_of k) → i < size c f
  index_b k e d h = rw (d, e, counts_b) h

  module _ {r : List Float} (o : r ≡ readings_b) where
    pub read_b : ReadingsLaid c r
    read_b = subst (λ (c : Counts). ReadingsLaid c r) (sym counts_b) (subst (λ (r : List Float). ReadingsLaid (counts_of wiring_b) r) (sym o) accepted_b.read)

    module _ {x : KktIdx} (h : Indexed c (pieces c w) (linear_row_count c w r) x) where
      pub narrow_b : Narrow x
      narrow_b = narrow h wired_b.laid.few (few_pieces c w) (few_rows c w r)

      pub cells_b : {f : Field} {i j : ℕ} (k : ℕ) → f ≡ field_of k → i ≡ j → cells_at (start_in x) (cells_of c w f i) ≡ named_cells (counts_of wiring_b) wiring_b readings_b k j
      cells_b {j = j} k e d =
          ap₂ (λ (f : Field) (i : ℕ). cells_at (start_in x) (cells_of c w f i)) e d
          ∙ named_cells_lem c w r k j h
          ∙ ap (λ (c : Counts). named_cells c w r k j) counts_b
          ∙ ap₂ (λ (w : List ℕ) (r : List Float). named_cells (counts_of wiring_b) w r k j) p o
