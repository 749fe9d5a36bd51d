-- Columns lie within their sheet, and an element's entries within the slices.
-- Main results: `inside`, `column_inside`, `column_long`, `part_stored`, `front_whole`, `starts_none`, `starts_more`, `item_is`, `entered_run`, `row_is`, `column_is`, `contracted_long`, `selection_long`. Assumes nothing.
use mathlib.Core.Path.{◌≡◌, refl, sym, ap, ◌∙◌}
use mathlib.Core.List.{List, [], ◌++◌, append-nil, append_assoc}
use Prim.Native.Nat.{ℕ, zero, suc, ◌+◌, ◌-◌, ◌*◌, ◌≤◌, ◌<◌}
use native.Mathlib.Nat.{zero-add, zero-mul, suc-mul, mul_comm, mul-le-mul_right, le_trans}
use native.Mathlib.Numerals.{add-one}
use native.Mathlib.Omega.{arith}
use lib.ListN.{length, get_or, take, drop, replicate, length-append, length-take, length-drop}
use lib.Seq.{sets, sets-eq, drop-length, drop-drop}
use Rattle.std.proofs.lemmas.List.{get_or-take, get_or-drop, length-replicate, replicate-append-replicate, replicate_more}
use borrow.Rule.Slice.PartMut.{put_mid}
use lib.Ieee.{Float, nan, binary64, mul}
use Rattle.float64.specs.Values.{nought}
use Rattle.model.specs.Quantities.{term_sum}
use Rattle.sequence.specs.Lists.{before, each, made, front}
use Rattle.sequence.proofs.Lists.{before_more, before_within, made_length, made_same, turns_same}
use Rattle.interface.specs.declared.Mode.{Mode}
use Rattle.interface.specs.declared.Mode.TheVariants.{Forward}
use Rattle.contraction.specs.Contraction.{Selector, elements, entries_at, entry_start, selection_word, selection_column, selection_sheet, column, forward_word, contracted_row, contracted, Run, Entered}

-- one of n columns, or of n rows of out
pub inside : (dim c n size : ℕ) → c < n → n * dim ≤ size → c * dim + dim ≤ size
inside dim c n size l h = le_trans (rw suc-mul at (mul-le-mul_right dim l)) h

-- where the next of them starts
pub next_start : (dim c : ℕ) → (c + 1) * dim ≡ c * dim + dim
next_start dim c = rw (add-one, suc-mul)

pub column_inside : (dim c n size : ℕ) → c < n → dim * n ≤ size → c * dim + dim ≤ size
column_inside dim c n size l h = inside dim c n size l (rw mul_comm at h)

-- a place that is column c's start
pub column_room : (dim c n size : ℕ) {at : ℕ} → at ≡ c * dim → c < n → dim * n ≤ size → at + dim ≤ size
column_room dim c n size e l h = rw e (column_inside dim c n size l h)

-- a place that is row r's start
pub row_room : (k r n size : ℕ) {at : ℕ} → at ≡ r * k → r < n → n * k ≤ size → at + k ≤ size
row_room k r n size e l h = rw e (inside k r n size l h)

-- k words from a place on: as many as they are, and where they are put back
pub part_long : {A : Type 0} (at dim : ℕ) (sheet : List A) → at + dim ≤ length sheet → length (take (at + dim - at) (drop at sheet)) ≡ dim
part_long at dim sheet h = simp (length-take, length-drop) (omega arith)

pub part_stored : {A : Type 0} (at dim : ℕ) (sheet new : List A) {words : List A} → at + dim ≤ length sheet → length new ≡ dim → words ≡ new
    → put_mid at (at + dim - at) sheet words ≡ sets sheet at new
part_stored at dim sheet new h e q =
    let z : at + dim - at ≡ dim = omega arith in
    rw (q, z, drop-drop, ← e, ← append_assoc) (sym (sets-eq new sheet at (rw e h)))

pub column_long : (dim : ℕ) (sheet : List Float) (c : ℕ) → c * dim + dim ≤ length sheet → length (column dim sheet c) ≡ dim
unfolding column
column_long dim sheet c h = simp (length-take, length-drop) (omega arith)

-- a front as long as its sheet is all of it
pub front_whole : {A : Type 0} (f : ℕ → A) (old : List A) → front (made f (length old)) old ≡ made f (length old)
unfolding front
front_whole f old = rw (made_length, drop-length, append-nil)

-- one word throughout
made_alike : {A : Type 0} (v : A) (k : ℕ) → made (λ c. v) k ≡ replicate k v
unfolding made
made_alike v zero = refl
made_alike v (suc k) = rw (made_alike v k, replicate_more, add-one)

rows_alike : {A : Type 0} (v : A) (n k : ℕ) → each n (λ o. made (λ c. v) k) ≡ replicate (n * k) v
unfolding each
rows_alike v zero k = rw zero-mul
rows_alike v (suc n) k = rw (rows_alike v n k, made_alike v k, replicate-append-replicate, suc-mul)

pub alike_front : {A : Type 0} (v : A) (n k : ℕ) (out : List A) {new : List A} → n * k ≤ length out → new ≡ replicate (length (take (n * k) out)) v
    → new ++ drop (n * k) out ≡ front (each n (λ o. made (λ c. v) k)) out
unfolding front
alike_front v n k out h e =
    let z : length (take (n * k) out) ≡ n * k = simp length-take (omega arith) in
    rw (e, z, rows_alike v n k, length-replicate)

-- ---- entries

pub starts_none : (S : Selector) → 0 ≡ entry_start S 0
unfolding entry_start before
starts_none S = refl

pub starts_more : (S : Selector) (o : ℕ) → entry_start S (o + 1) ≡ entry_start S o + entries_at S o
unfolding entry_start
starts_more S o = before_more (entries_at S) o

-- an item of a part of a list that leaves out none in front
pub item_is : (xs : List ℕ) (m n o : ℕ) → m ≡ 0 → o < n → get_or (take n (drop m xs)) o 0 ≡ get_or xs o 0
item_is xs m n o e h = rw (e, get_or-take n xs o 0 h)

-- element o's entries
pub entered_run : {S : Selector} {dim : ℕ} → Entered S dim → (o : ℕ) → o < elements S → {from n : ℕ} → from ≡ entry_start S o → n ≡ entries_at S o → Run S.rows S.weights from n dim
unfolding entry_start
entered_run {S} {dim} h o l {from} {n} p q =
    let i : from + n ≤ length S.rows = omega (arith, before_within (entries_at S) o (elements S) l, h.sum) in
    record { in_rows = i; in_weights = omega (arith, h.long); below = λ t k. h.below (from + t) (omega arith) }

-- ---- an element's entries cut out of the slices

pub below_of : {rows : List ℕ} {weights : List Float} {n dim : ℕ} → Run rows weights 0 n dim → (t : ℕ) → t < n → get_or rows t 0 < dim
below_of r t h = rw zero-add at (r.below t h)

pub cut_long : {A : Type 0} (from n : ℕ) (xs : List A) → from + n ≤ length xs → length (take n (drop from xs)) ≡ n
cut_long from n xs h = simp (length-take, length-drop) (omega arith)

cut_at : {A : Type 0} (from n t : ℕ) (xs : List A) (d : A) → t < n → get_or (take n (drop from xs)) (0 + t) d ≡ get_or xs (from + t) d
cut_at from n t xs d h = rw (zero-add, get_or-take n (drop from xs) t d h, get_or-drop)

forward_cut : (sign : Float) {rows : List ℕ} {weights : List Float} {from n dim : ℕ} (solved : List Float) → Run rows weights from n dim
    → forward_word sign (take n (drop from rows)) (take n (drop from weights)) 0 (length (take n (drop from rows))) solved ≡ forward_word sign rows weights from n solved
unfolding forward_word term_sum
forward_cut sign {rows} {weights} {from} {n} solved r =
    rw (cut_long from n rows r.in_rows) (ap (λ (x : Float). mul binary64 sign x) (turns_same _ _ nought n (λ t h x. rw (cut_at from n t rows 0 h, cut_at from n t weights nan h))))

selection_cut : {rows : List ℕ} {weights : List Float} {from n dim : ℕ} (r : ℕ) → Run rows weights from n dim
    → selection_word (take n (drop from rows)) (take n (drop from weights)) 0 (length (take n (drop from rows))) r ≡ selection_word rows weights from n r
unfolding selection_word
selection_cut {rows} {weights} {from} {n} r h =
    rw (cut_long from n rows h.in_rows) (turns_same _ _ nought n (λ t i x. rw (cut_at from n t rows 0 i, cut_at from n t weights nan i)))

-- the words of element o, by the terms that are cut out for it
pub row_is : (S : Selector) (dim columns : ℕ) (solved : List Float) (o : ℕ) {from n d k : ℕ} {rows : List ℕ} {weights new : List Float} → Entered S dim → o < elements S
    → from ≡ entry_start S o → d ≡ dim → k ≡ columns → rows ≡ take n (drop from S.rows) → weights ≡ take n (drop from S.weights) → n ≡ entries_at S o
    → new ≡ made (λ c. forward_word S.sign rows weights 0 (length rows) (column d solved c)) k → new ≡ contracted_row Forward S dim columns [] solved o
unfolding contracted_row
row_is S dim columns solved o h l p q k r w m e =
    e ∙ rw (r, w, m, p, q, k) (made_same _ _ columns (λ c i. forward_cut S.sign (column dim solved c) (entered_run h o l refl refl)))

-- and likewise its column of the selection sheet
pub column_is : (S : Selector) (dim o : ℕ) {from n k : ℕ} {rows : List ℕ} {weights new : List Float} → Entered S dim → o < elements S
    → from ≡ entry_start S o → k ≡ dim → rows ≡ take n (drop from S.rows) → weights ≡ take n (drop from S.weights) → n ≡ entries_at S o
    → new ≡ made (selection_word rows weights 0 (length rows)) k → new ≡ selection_column S dim o
unfolding selection_column
column_is S dim o h l p k r w m e =
    e ∙ rw (r, w, m, p, k) (made_same _ _ dim (λ c i. selection_cut c (entered_run h o l refl refl)))

-- ---- how many words there are

columns_long : {A : Type 0} (f : ℕ → List A) (k n : ℕ) → ((o : ℕ) → length (f o) ≡ k) → length (each n f) ≡ n * k
unfolding each
columns_long f k zero h = sym (zero-mul k)
columns_long f k (suc n) h = length-append (each n f) (f n) ∙ rw (columns_long f k n h, h n, suc-mul)

pub row_long : (mode : Mode) (S : Selector) (dim columns : ℕ) (parameter solved : List Float) (o : ℕ) → length (contracted_row mode S dim columns parameter solved o) ≡ columns
unfolding contracted_row
row_long mode S dim columns parameter solved o = made_length _ columns

pub contracted_long : (mode : Mode) (S : Selector) (dim columns : ℕ) (parameter solved : List Float) → length (contracted mode S dim columns parameter solved) ≡ elements S * columns
unfolding contracted
contracted_long mode S dim columns parameter solved = columns_long _ columns (elements S) (row_long mode S dim columns parameter solved)

pub selected_long : (S : Selector) (dim o : ℕ) → length (selection_column S dim o) ≡ dim
unfolding selection_column
selected_long S dim o = made_length _ dim

pub selection_long : (S : Selector) (dim : ℕ) → length (selection_sheet S dim) ≡ dim * elements S
unfolding selection_sheet
selection_long S dim = columns_long _ dim (elements S) (selected_long S dim) ∙ mul_comm (elements S) dim
