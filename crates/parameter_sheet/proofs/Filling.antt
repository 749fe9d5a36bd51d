-- A column that is blank and then touched; an element of a parameter that is known.
-- Main results: `known`, `moved_as`, `column_is`; `column_fits`, `part_back`, `column_long`. Assumes nothing.
use mathlib.Core.Path.{◌≡◌, refl, sym, ap, subst, ◌∙◌}
use mathlib.Core.List.{List, [], ◌∷◌, append_assoc}
use Prim.Native.Nat.{ℕ, ◌+◌, ◌-◌, ◌*◌, ◌≤◌, ◌<◌}
use native.Mathlib.Nat.{le_of_eq, le_trans, suc-mul, mul-le-mul_right}
use native.Mathlib.Omega.{arith}
use lib.Ieee.{Float, nan}
use lib.ListN.{length, get_or, replicate}
use Rattle.std.proofs.lemmas.List.{length-replicate, get_or-replicate}
use lib.Seq.{sets, sets-eq, ext_get_or}
use borrow.Rule.Slice.PartMut.{put_mid, Post-is}
use Rattle.float64.specs.Values.{nought}
use Rattle.sequence.specs.Lists.{made}
use Rattle.sequence.proofs.Lists.{made_length, made_at}
use Rattle.network.specs.declared.Counts.{Counts}
use Rattle.kkt_index.specs.declared.Block.{Block}
use Rattle.kkt_index.specs.declared.KktIdx.{KktIdx}
use Rattle.kkt_index.specs.Index.{linear_row_count, start_in, block_start, dim, Indexed}
use Rattle.kkt_index.proofs.Starts.{starts}
use Rattle.parameter_column.specs.declared.Served.{Served}
use Rattle.parameter_column.specs.Columns.{Touch, touched_at, word_of, touches, column_words, elements}
use Rattle.parameter_column.specs.Walks.{Touched}
use Rattle.parameter_column.specs.declared.column.Column.{Column}
use Rattle.parameter_column.specs.Moves.{Moves}
use Rattle.parameter_sheet.specs.Sheet.{Indexes}

-- an element of a parameter that is known
pub known : (c : Counts) (i : ℕ) {k g : Served} → k ≡ g → i < elements c k → i < elements c g
known c i e h = rw e at h

-- touches that are others' are made as they are
pub moved_as : {ts us : List Touch} {x y : Column} → Moves ts x y → ts ≡ us → Moves us x y
moved_as m e = rw e at m

-- where the starts are the same, so is a word
words_same : (f g : Block → ℕ) → ((b : Block) → f b ≡ g b) → (ts : List Touch) (r : ℕ) (a : Float) → word_of f ts r a ≡ word_of g ts r a
unfolding word_of
words_same f g h [] r a = refl
words_same f g h (t ∷ ts) r a = rw (h t.block) (words_same f g h ts r (touched_at g t r a))

-- a blank column, touched, is the definition's
column_of : (c : Counts) (w ti : List ℕ) (tc : List Float) (r s : List Float) (x : KktIdx) (k : Served) (i : ℕ) (old : List Float) {mid new : List Float}
    → Indexed c x.pieces x.linear_rows x → x.linear_rows ≡ linear_row_count c w r → length old ≡ dim c x.pieces x.linear_rows
    → mid ≡ replicate (length old) nought → Touched (start_in x) (touches c w ti tc x.pieces r s k i) mid new → new ≡ column_words c w ti tc x.pieces r s k i
unfolding column_words
column_of c w ti tc r s x k i old {mid} {new} h l d e t =
    let n : length new ≡ dim c x.pieces (linear_row_count c w r) = t.kept ∙ ap (λ (y : List Float). length y) e ∙ length-replicate (length old) nought ∙ d ∙ ap (λ (y : ℕ). dim c x.pieces y) l in
    ext_get_or nan new (made (λ t. word_of (block_start c x.pieces (linear_row_count c w r)) (touches c w ti tc x.pieces r s k i) t nought) (dim c x.pieces (linear_row_count c w r)))
    (n ∙ sym (made_length _ (dim c x.pieces (linear_row_count c w r))))
    (λ q g.
    let b : q < dim c x.pieces (linear_row_count c w r) = omega (arith, n) in
    let z : get_or mid q nan ≡ nought = ap (λ (y : List Float). get_or y q nan) e ∙ get_or-replicate (length old) q nought nan (omega (arith, b, d, ap (λ (y : ℕ). dim c x.pieces y) l)) in
    t.at q
    ∙ ap (λ (a : Float). word_of (start_in x) (touches c w ti tc x.pieces r s k i) q a) z
    ∙ words_same (start_in x) (block_start c x.pieces (linear_row_count c w r)) (λ b. starts h b ∙ ap (λ (y : ℕ). block_start c x.pieces y b) l) (touches c w ti tc x.pieces r s k i) q nought
    ∙ sym (made_at _ (dim c x.pieces (linear_row_count c w r)) q nan b))

-- the same, where the pieces are counted elsewhere
pub column_is : (c : Counts) (w ti : List ℕ) (tc : List Float) (r s : List Float) (x : KktIdx) (k : Served) (i : ℕ) (old : List Float) {p : ℕ} {mid new : List Float}
    → Indexed c x.pieces x.linear_rows x → x.linear_rows ≡ linear_row_count c w r → length old ≡ dim c x.pieces x.linear_rows → x.pieces ≡ p
    → mid ≡ replicate (length old) nought → Touched (start_in x) (touches c w ti tc p r s k i) mid new → new ≡ column_words c w ti tc p r s k i
column_is c w ti tc r s x k i old {mid = mid} {new = new} h l d q e =
    subst (λ (p : ℕ). Touched (start_in x) (touches c w ti tc p r s k i) mid new → new ≡ column_words c w ti tc p r s k i) q (column_of c w ti tc r s x k i old h l d e)

-- ---- a sheet, column after column

-- a column more has room where all of them have
pub column_fits : (d t n room : ℕ) → t < n → n * d ≤ room → t * d + d ≤ room
column_fits d t n room h g = le_trans (le_of_eq (sym (suc-mul t d))) (le_trans (mul-le-mul_right d h) g)

-- a part that comes back into its sheet
pub part_back : (a d : ℕ) (xs ys : List Float) → length ys ≡ d → a + d ≤ length xs → put_mid a ((a + d) - a) xs ys ≡ sets xs a ys
part_back a d xs ys e h = rw (Post-is a (a + d) xs (omega arith)) (sym (sets-eq ys xs a (rw e h) ∙ rw (e, append_assoc)))

pub column_long : (c : Counts) (w ti : List ℕ) (tc : List Float) (r s : List Float) (x : KktIdx) (k : Served) (i : ℕ) → Indexes c w r x → length (column_words c w ti tc x.pieces r s k i) ≡ x.dim
unfolding column_words
column_long c w ti tc r s x k i h = made_length _ (dim c x.pieces (linear_row_count c w r)) ∙ ap (λ (y : ℕ). dim c x.pieces y) (sym h.linear) ∙ sym h.indexed.dim_is
