-- The law of an export that fills three sheets with a list: what the call in it gives is what the export tells. Assumes nothing.
use mathlib.Core.Path.{◌≡◌, ◌∙◌}
use mathlib.Core.Bool.{Bool, true, false, ◌&&◌}
use mathlib.Core.List.{List}
use Prim.Native.Nat.{ℕ}
use lib.ListN.{length}
use lib.Ieee.{Float}
use Rattle.std.specs.Prelude.{Result}
use Rattle.std.specs.Borrow.{MutBor}
use Rattle.sequence.specs.declared.Refusal.{Refusal}
use Rattle.sequence.specs.Sheets.{Laid, listed}
use Rattle.words.specs.Words.{words_of, doubles_of}
use Rattle.network.specs.declared.site.Lent.{Lent}
use Rattle.network.specs.Numbers.{Network, sizes_hold}
use Rattle.network.specs.Sites.{network_in}
use Rattle.decoding.specs.Exports.{outs, laid_out}
use Rattle.decoding.specs.Decoding.{ListCells}
use Rattle.decoding.specs.Listing.{ListPost, ListExported, refused, made}
use Rattle.decoding.proofs.Answered.{told}

pub list_exported : {N : Network} {ok : Bool} {most word : ℕ} {R C X R' C' X' : List ℕ} (all : Bool) {post : ListPost} (gives : Network → List ℕ → List ℕ → List Float → Laid)
    → (ok && sizes_hold N ≡ false → outs 1 R C X ≡ laid_out all (gives N (words_of R) (words_of C) (doubles_of X)) R C X) → (ok ≡ true → all ≡ true)
    → ((l : Lent) (r c : MutBor (List ℕ)) (v : MutBor (List Float)) (a : Result ℕ Refusal) (r' c' : MutBor (List ℕ)) (v' : MutBor (List Float)) → ListCells most (length R) (length C) (length X) (length r.now) (length c.now) (length v.now) → post l r c v a r' c' v' → laid_out true (listed a r'.now c'.now v'.now) R C X ≡ laid_out true (gives (network_in l) (words_of R) (words_of C) (doubles_of X)) R C X)
    → ListExported ok N most post word R C X R' C' X'
    → outs word R' C' X' ≡ laid_out all (gives N (words_of R) (words_of C) (doubles_of X)) R C X
list_exported all gives at_once same by_cells (refused h e) = e ∙ at_once h
list_exported {R = R} {C = C} {X = X} all gives at_once same by_cells (made o m) =
    m.told ∙ by_cells m.of m.rows m.cols m.values m.answer m.new_rows m.new_cols m.new_values m.room m.by_call
    ∙ told (λ (b : Bool) (M : Network). laid_out b (gives M (words_of R) (words_of C) (doubles_of X)) R C X) (same o) m.network
