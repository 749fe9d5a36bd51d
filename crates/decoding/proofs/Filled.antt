-- The laws of an export that fills a sheet: what the call in it gives is what the export tells. Assumes nothing.
use mathlib.Core.Path.{◌≡◌, refl, ap, ◌∙◌}
use mathlib.Core.Bool.{Bool, true, false, ◌&&◌}
use mathlib.Core.List.{List}
use Prim.Native.Nat.{ℕ}
use lib.ListN.{length}
use lib.Ieee.{Float}
use Rattle.std.specs.Prelude.{Result}
use Rattle.std.specs.Borrow.{Bor, MutBor}
use Rattle.sequence.specs.declared.Refusal.{Refusal}
use Rattle.sequence.specs.Answers.{Filled, answered}
use Rattle.words.specs.Words.{doubles_of}
use Rattle.network.specs.declared.site.Lent.{Lent}
use Rattle.network.specs.Numbers.{Network, sizes_hold}
use Rattle.network.specs.Sites.{network_in}
use Rattle.decoding.specs.Exports.{out, filled_out}
use Rattle.decoding.specs.Decoding.{Cells}
use Rattle.decoding.specs.Filling.{Post, post_at, Exported, refused, made, ExportedAt, unread, read}
use Rattle.decoding.proofs.Answered.{told}

-- a call on the same cells and words, which another call makes
abbrev pub Anew : Post → Post
Anew post l cells a after = (c : MutBor (List Float)) × (d : MutBor (List Float)) × (c.now ≡ cells.now) × (d.now ≡ after.now) × post l c a d

pub exported_anew : {ok : Bool} {N : Network} {most word : ℕ} {old new : List ℕ} {post post' : Post}
    → ((l : Lent) (cells : MutBor (List Float)) (a : Result ℕ Refusal) (after : MutBor (List Float)) → post l cells a after → Anew post' l cells a after)
    → Exported ok N most post word old new → Exported ok N most post' word old new
exported_anew f (refused h e) = refused h e
exported_anew {most = most} {word = word} {old = old} {new = new} f (made o m) =
    let p = f m.of m.cells m.answer m.after m.by_call in
    made o (record {
      of = m.of;
      network = m.network;
      cells = p.0;
      room = rw p.2 m.room;
      answer = m.answer;
      after = p.1;
      by_call = p.4;
      told = rw p.3 m.told;
    })

-- slices that are no network are refused, whether or not the slice of a solution fits
pub refused_at : (fit : Bool) {ok : Bool} {N : Network} {most word : ℕ} {old new : List ℕ} {post : Post} → ok && sizes_hold N ≡ false → out word new ≡ out 1 old → ExportedAt fit ok N most post word old new
refused_at true h e = read refl (refused h e)
refused_at false h e = unread refl e

module _ {N : Network} {ok : Bool} {most word : ℕ} {old new : List ℕ} (all : Bool) where
  pub exported : {post : Post} (gives : Network → List Float → Filled Float)
      → (ok && sizes_hold N ≡ false → out 1 old ≡ filled_out all (gives N (doubles_of old)) old) → (ok ≡ true → all ≡ true)
      → ((l : Lent) (cells : MutBor (List Float)) (a : Result ℕ Refusal) (after : MutBor (List Float)) → Cells most (length old) (length cells.now) → post l cells a after → filled_out true (answered a after.now) old ≡ filled_out true (gives (network_in l) (doubles_of old)) old)
      → Exported ok N most post word old new
      → out word new ≡ filled_out all (gives N (doubles_of old)) old
  exported gives at_once same by_cells (refused h e) = e ∙ at_once h
  exported gives at_once same by_cells (made o m) =
      m.told ∙ by_cells m.of m.cells m.answer m.after m.room m.by_call ∙ told (λ (b : Bool) (M : Network). filled_out b (gives M (doubles_of old)) old) (same o) m.network

  -- the same, where the call takes the doubles of a byte slice
  pub exported_at : {fit : Bool} {post : Lent → Bor (List Float) → MutBor (List Float) → Result ℕ Refusal → MutBor (List Float) → Type 0} (b : List ℕ) (gives : Network → List Float → List Float → Filled Float)
      → (fit ≡ false → out 1 old ≡ filled_out all (gives N (doubles_of b) (doubles_of old)) old)
      → (ok && sizes_hold N ≡ false → out 1 old ≡ filled_out all (gives N (doubles_of b) (doubles_of old)) old) → (fit ≡ true → ok ≡ true → all ≡ true)
      → ((l : Lent) (s : Bor (List Float)) (cells : MutBor (List Float)) (a : Result ℕ Refusal) (after : MutBor (List Float)) → Cells most (length old) (length cells.now) → post l s cells a after → filled_out true (answered a after.now) old ≡ filled_out true (gives (network_in l) s.now (doubles_of old)) old)
      → ExportedAt fit ok N most (post_at post b) word old new
      → out word new ≡ filled_out all (gives N (doubles_of b) (doubles_of old)) old
  exported_at b gives unfit at_once same by_cells (unread h e) = e ∙ unfit h
  exported_at b gives unfit at_once same by_cells (read h x) =
      exported (λ (M : Network). gives M (doubles_of b)) at_once (same h)
      (λ l cells a after r p. by_cells l p.0 cells a after r p.2 ∙ ap (λ (s : List Float). filled_out true (gives (network_in l) s (doubles_of old)) old) p.1)
      x
