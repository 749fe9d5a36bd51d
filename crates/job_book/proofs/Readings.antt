-- A network that is accepted is accepted with a change made, and what the readings hold afterwards.
-- Main results: `still_accepted`, `set_reading`. Assumes nothing.
use Prim.Native.Nat.{ℕ, zero, suc, ◌+◌, ◌-◌, ◌≤◌, ◌<◌}
use mathlib.Core.Path.{◌≡◌, refl, sym, ap, ◌∙◌}
use mathlib.Core.Bool.{Bool, true, false, cond, ◌&&◌}
use mathlib.Core.List.{List}
use native.Mathlib.Omega.{arith}
use native.Mathlib.Decide.{ℕ_discrete}
use lib.ListN.{length, get_or, set, drop, length-set, length-drop}
use lib.Seq.{get_or-set_same, get_or-set_other, get_or-drop}
use lib.Dec.{eqb, leb}
use lib.Ieee.{Float, nan}
use borrow.Author.Tests.{eq-eqb, ne_eqb, leb-true}
use Rattle.float64.specs.Values.{within, in_range, raw_limit, base_low, base_high}
use Rattle.sequence.specs.Layout.{start}
use Rattle.sequence.specs.Lists.{every}
use Rattle.sequence.specs.Answers.{first_of}
use Rattle.sequence.proofs.Lists.{and_left, and_right, every_at, stored_at, every_of}
use Rattle.network.specs.declared.Counts.{Counts}
use Rattle.network.specs.declared.Field.TheVariants.{BaseMva}
use Rattle.network.specs.Layout.{rank, sizes, field_start, place, ReadingsLaid}
use Rattle.network.specs.Numbers.{Network, lengths_hold, sizes_hold, field_holds, all_within, readings_hold}
use Rattle.network.proofs.Places.{field_inside}
use Rattle.network.proofs.Fields.{fields_flat}
use Rattle.solution_check.specs.Tests.{solution_long, solution_holds, solution_tests}
use Rattle.kkt.specs.Slots.{Rule}
use Rattle.change_table.specs.Table.{kinds, is_kind, field_of}
use Rattle.job_book.specs.declared.Change.{Change}
use Rattle.job_book.specs.Book.{Given, Words, counts_in, network_of, place_of, changed}
use Rattle.job_book.proofs.Steps.{Passed, network_accepted}

-- a word that is set, read at any place of the list
pub set_reading : (r : List Float) (q : ℕ) (v : Float) (p : ℕ) → p < length r → get_or (set r q v) p nan ≡ cond (eqb q p) v (get_or r p nan)
set_reading r q v p h = go (ℕ_discrete q p)
  where
    go : Dec (q ≡ p) → get_or (set r q v) p nan ≡ cond (eqb q p) v (get_or r p nan)
    go (yes e) = rw (e, eq-eqb p p refl) (get_or-set_same r p v nan h)
    go (no e) = rw (ne_eqb q p e) (get_or-set_other r q p v nan (λ z. e (sym z)))

-- ---- no kind's reading is base_mva, the first

ranked : every (λ j. leb 1 (rank (get_or kinds j BaseMva))) 9 ≡ true
unfolding every
ranked = refl

kind_rank : (k : ℕ) → is_kind k ≡ true → 1 ≤ rank (field_of k)
kind_rank k e =
    let a : 1 ≤ k = leb-true 1 k (and_left (leb 1 k) (leb k 9) e) in
    let b : k ≤ 9 = leb-true k 9 (and_right (leb 1 k) (leb k 9) e) in
    leb-true 1 (rank (field_of k)) (every_at (λ j. leb 1 (rank (get_or kinds j BaseMva))) 9 ranked (k - 1) (omega arith))

start_later : (c : Counts) (k : ℕ) → 1 ≤ k → 1 ≤ start (sizes c) k
start_later c zero h = absurd (omega arith)
start_later c (suc k) h = omega arith

place_later : (c : Counts) (k i : ℕ) → is_kind k ≡ true → 1 ≤ place c (field_of k) i
unfolding place field_start
place_later c k i e = omega (arith, start_later c (rank (field_of k)) (kind_rank k e))

-- ---- the readings with one of a kind set are still within their limits

module _ (r : List Float) (p : ℕ) (v : Float) (first : 1 ≤ p) (below : p < length r) (held : within raw_limit v ≡ true) where
  base_same : get_or (set r p v) 0 nan ≡ get_or r 0 nan
  base_same = get_or-set_other r p 0 v nan (λ z. absurd (omega arith))

  rest_within : all_within raw_limit (drop 1 r) ≡ true → all_within raw_limit (drop 1 (set r p v)) ≡ true
  unfolding all_within
  rest_within e = every_of _ _ (λ i h. rw (get_or-drop 1 (set r p v) i nan) (at i (omega (arith, length-drop 1 (set r p v), length-set r p v))))
    where
      at : (i : ℕ) → 1 + i < length r → within raw_limit (get_or (set r p v) (1 + i) nan) ≡ true
      at i h =
          stored_at (λ x. within raw_limit x ≡ true) r p v (1 + i) nan below (λ z. held)
          (λ z. sym (ap (within raw_limit) (get_or-drop 1 r i nan)) ∙ every_at (λ i. within raw_limit (get_or (drop 1 r) i nan)) (length (drop 1 r)) e i (omega (arith, length-drop 1 r)))

  still_within : (c : Counts) → ReadingsLaid c r → every (field_holds c r) 21 ≡ true → every (field_holds c (set r p v)) 21 ≡ true
  still_within c laid e =
      let base : Bool = in_range base_low base_high (get_or r 0 nan) in
      let rest : Bool = all_within raw_limit (drop 1 r) in
      let both : base && rest ≡ true = fields_flat c r laid ∙ e in
      let laid' : ReadingsLaid c (set r p v) = record { few = laid.few; long = length-set r p v ∙ laid.long } in
      sym (fields_flat c (set r p v) laid') ∙ rw (base_same, and_left base rest both, rest_within (and_right base rest both))

module _ (G : Given) (rule : Rule) {W : Words} {h : Change} (p : Passed G rule W h) where
  pub place_below : place_of G h < length W.readings
  unfolding place
  place_below =
      omega (arith, field_inside (counts_in G) (field_of h.kind), (network_accepted G rule p).read.long, p.index)

  still_sized : sizes_hold (network_of G (changed G W.readings h)) ≡ sizes_hold (network_of G W.readings)
  unfolding sizes_hold lengths_hold
  still_sized = rw (length-set W.readings (place_of G h) h.value)

  still_read : readings_hold (counts_in G) (network_of G (changed G W.readings h)) ≡ true
  unfolding readings_hold
  still_read =
      let fields : Bool = every (field_holds (counts_in G) W.readings) 21 in
      let terms : Bool = all_within raw_limit G.coefficients in
      let both : fields && terms ≡ true = (network_accepted G rule p).readings_pass in
      rw (still_within W.readings (place_of G h) h.value (place_later (counts_in G) h.kind h.index p.kind) place_below p.value (counts_in G) (network_accepted G rule p).read (and_left fields terms both), and_right fields terms both)

  -- so the network with the change made passes every test that the network passed
  pub still_accepted : 0 ≡ first_of (solution_tests false (network_of G (changed G W.readings h)) G.solution)
  unfolding first_of solution_long solution_holds
  still_accepted =
      let N : Network = network_of G W.readings in
      rw (still_sized, p.sized, p.wiring, still_read, and_right (readings_hold (counts_in G) N) (solution_holds false N G.solution) p.read)
