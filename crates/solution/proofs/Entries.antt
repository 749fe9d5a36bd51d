-- Places of a solution sheet's words: each lies in the sheet, and two words are apart. Main results: `entry_inside`, `entries_apart`. Assumes nothing.
use mathlib.Core.Path.{◌≡◌, refl, sym, ap, ◌∙◌}
use Prim.Native.Nat.{ℕ, ◌+◌, ◌≤◌, ◌<◌}
use native.Mathlib.Omega.{arith}
use mathlib.Core.Bool.{Bool, true, false, cond}
use mathlib.Core.List.{List}
use lib.Dec.{eqb}
use lib.ListN.{get_or}
use Rattle.sequence.proofs.Blocks.{inside, one_place}
use Rattle.network.specs.declared.Counts.{Counts}
use Rattle.solution.specs.declared.Entry.{Entry}
use Rattle.solution.specs.declared.Entry.TheVariants.{Va, Pg, Flow, Psh, NuBal, LamUb, LamLb, RhoUb, RhoLb, MuUb, MuLb, GammaUb, GammaLb, Epigraph, SegmentDual, LinearDual, LinearValue, Objective}
use Rattle.sequence.specs.Lists.{before}
use Rattle.sequence.proofs.Lists.{before_more}
use Rattle.network.specs.Layout.{segments_at}
use Rattle.solution.specs.Sheet.{piece, entries, rank, size, sizes, sheet_length, entry_start}

pub entry_size : (c : Counts) (p : ℕ) (e : Entry) → get_or (sizes c p) (rank e) 0 ≡ size c p e
entry_size c p Va = refl
entry_size c p Pg = refl
entry_size c p Flow = refl
entry_size c p Psh = refl
entry_size c p NuBal = refl
entry_size c p LamUb = refl
entry_size c p LamLb = refl
entry_size c p RhoUb = refl
entry_size c p RhoLb = refl
entry_size c p MuUb = refl
entry_size c p MuLb = refl
entry_size c p GammaUb = refl
entry_size c p GammaLb = refl
entry_size c p Epigraph = refl
entry_size c p SegmentDual = refl
entry_size c p LinearDual = refl
entry_size c p LinearValue = refl
entry_size c p Objective = refl

-- the entry of a rank
pub entry_of_rank : (e : Entry) → get_or entries (rank e) Va ≡ e
entry_of_rank Va = refl
entry_of_rank Pg = refl
entry_of_rank Flow = refl
entry_of_rank Psh = refl
entry_of_rank NuBal = refl
entry_of_rank LamUb = refl
entry_of_rank LamLb = refl
entry_of_rank RhoUb = refl
entry_of_rank RhoLb = refl
entry_of_rank MuUb = refl
entry_of_rank MuLb = refl
entry_of_rank GammaUb = refl
entry_of_rank GammaLb = refl
entry_of_rank Epigraph = refl
entry_of_rank SegmentDual = refl
entry_of_rank LinearDual = refl
entry_of_rank LinearValue = refl
entry_of_rank Objective = refl

pub rank_below : (e : Entry) → rank e < 18
rank_below Va = omega arith
rank_below Pg = omega arith
rank_below Flow = omega arith
rank_below Psh = omega arith
rank_below NuBal = omega arith
rank_below LamUb = omega arith
rank_below LamLb = omega arith
rank_below RhoUb = omega arith
rank_below RhoLb = omega arith
rank_below MuUb = omega arith
rank_below MuLb = omega arith
rank_below GammaUb = omega arith
rank_below GammaLb = omega arith
rank_below Epigraph = omega arith
rank_below SegmentDual = omega arith
rank_below LinearDual = omega arith
rank_below LinearValue = omega arith
rank_below Objective = omega arith

pub entry_inside : (c : Counts) (p : ℕ) (e : Entry) → entry_start c p e + size c p e ≤ sheet_length c p
unfolding entry_start
entry_inside c p e = omega (arith, inside (sizes c p) (rank e), entry_size c p e)

-- two words at one place are one word: of one entry, at one index
pub entries_apart : (c : Counts) (p : ℕ) (e g : Entry) (i j : ℕ) → i < size c p e → j < size c p g → entry_start c p e + i ≡ entry_start c p g + j → (e ≡ g) × (i ≡ j)
unfolding entry_start
entries_apart c p e g i j hi hj q =
    let h = one_place (sizes c p) (rank e) (rank g) i j (omega (arith, entry_size c p e)) (omega (arith, entry_size c p g)) q in
    (sym (entry_of_rank e) ∙ ap (λ (k : ℕ). get_or entries k Va) h.0 ∙ entry_of_rank g, h.1)

-- one generator more, of so many segments
pub piece_more : (c : Counts) (w : List ℕ) (j : ℕ) {count segments next : ℕ} → count ≡ before (piece c w) j → count ≤ j → segments ≡ segments_at c w j
    → next ≡ count + cond (eqb segments 0) 0 1 → (next ≡ before (piece c w) (j + 1)) × (next ≤ j + 1)
piece_more c w j {segments = segments} e h q p =
    (p ∙ rw (before_more, ← e, q), omega (arith, p, go (eqb segments 0)))
  where
    go : (b : Bool) → cond b 0 1 ≤ 1
    go true = omega arith
    go false = omega arith
