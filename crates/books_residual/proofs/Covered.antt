-- The residual has exactly one row for each unknown, in the order of the unknowns. So every word of a parameter's column is a derivative.
-- Main results: `rows_in_order`, `rows_many`, `covered`, `every_word`. Assumes nothing.
use mathlib.Core.Path.{◌≡◌, refl, sym, ap, ap₂, ◌∙◌}
use mathlib.Core.Bool.{Bool, true, false, cond}
use mathlib.Core.List.{List, [], ◌∷◌, ◌++◌}
use Prim.Native.Nat.{ℕ, zero, suc, ◌+◌, ◌-◌, ◌<◌}
use native.Mathlib.Nat.{not-suc-le-zero}
use native.Mathlib.Omega.{arith}
use native.Mathlib.Decide.{dec_lt}
use lib.ListN.{length, get_or, length-append, get_or-append}
use lib.Seq.{get_or-append-add}
use lib.Dec.{eqb}
use lib.Ieee.{Float, nan}
use Rattle.float64.specs.Values.{in_range, base_low, base_high}
use Rattle.sequence.specs.Lists.{before, each}
use Rattle.sequence.proofs.Blocks.{inside}
use Rattle.sequence.specs.Facts.{All}
use Rattle.sequence.specs.Facts.All.{done, ◌&◌}
use Rattle.network.specs.declared.Counts.{Counts}
use Rattle.network.specs.declared.Field.TheVariants.{BaseMva}
use Rattle.network.specs.Layout.{reading, segments_at, segment_start}
use Rattle.network.specs.Numbers.{Wired}
use Rattle.solution.specs.Sheet.{piece, piece_rank, pieces}
use Rattle.kkt_index.specs.declared.Block.{Block}
use Rattle.kkt_index.specs.declared.Block.TheVariants.{Va, Pg, Flow, Psh, Cost, LamLb, LamUb, GammaLb, GammaUb, RhoLb, RhoUb, MuLb, MuUb, Segments, Linear, NuBal, NuFlow, Eta}
use Rattle.kkt_index.specs.Index.{Shape, width, rank, sizes, linear_start, linear_row_count, block_start, dim}
use Rattle.kkt_index.specs.Index.Shape.{free, upper_only, lower_only, two_sided, equality}
use Rattle.kkt_index.proofs.Blocks.{block_size, blocks_apart}
use Rattle.parameter_column.specs.declared.Served.{Served}
use Rattle.parameter_column.specs.Columns.{column_words, elements}
use Rattle.books.specs.Forms.{Place, none, Alike}
use Rattle.books.specs.Forms.Form.{var}
use Rattle.books.specs.Manual.{Site, row_start, shed_none, shed_floor, shed_spare, shed_ceiling, segment, row_ceiling, row_floor}
use Rattle.books.specs.Matrix.{Doubles, site_of, value, Inside, flat}
use Rattle.books_residual.specs.Residual.{Row, row_of, cost_row, residual}
use Rattle.books_residual.specs.Residual as rows
use Rattle.books_residual.specs.Rates.{rate, rate_value}
use Rattle.books_residual.specs.Columns.{direction}
use Rattle.books_residual.proofs.Rows.{cost_form, rows_are}
use Rattle.books_residual.proofs.Column.{column_is_the_derivative}

-- past the last row
abbrev nowhere : Row
nowhere = ((Va, 0), none)

abbrev pub row_at : List Row → ℕ → Row
row_at l n = get_or l n nowhere

-- ---- rows that stand one after the other, from a to b

record Run (at : Place → ℕ) (l : List Row) (a b : ℕ) : Type 0 where
  long : a + length l ≡ b
  in_order : (n : ℕ) → n < length l → at (row_at l n).0 ≡ a + n

module _ (at : Place → ℕ) where
  run_none : (a : ℕ) → Run at [] a a
  run_none a = record { long = omega arith; in_order = λ n h. absurd (not-suc-le-zero h) }

  run_one : (x : Row) (a b : ℕ) → at x.0 ≡ a → a + 1 ≡ b → Run at (x ∷ []) a b
  run_one x a b h e = record { long = e; in_order = λ n k. let o : n ≡ 0 = omega arith in rw o (h ∙ omega arith) }

  run_append : {l m : List Row} (a b c : ℕ) → Run at l a b → Run at m b c → Run at (l ++ m) a c
  run_append {l} {m} a b c p q = record {
    long = rw (length-append l m) (omega (arith, p.long, q.long));
    in_order = λ n h. go n h (dec_lt n (length l));
  }
    where
      later : (n t : ℕ) → n ≡ length l + t → t < length m → at (row_at (l ++ m) n).0 ≡ a + n
      later n t e h = rw (e, get_or-append-add l m t nowhere) (q.in_order t h ∙ omega (arith, p.long))

      go : (n : ℕ) → n < length (l ++ m) → Dec (n < length l) → at (row_at (l ++ m) n).0 ≡ a + n
      go n h (yes k) = rw (get_or-append l m nowhere n k) (p.in_order n k)
      go n h (no k) = later n (n - length l) (omega arith) (omega (arith, length-append l m))

  run_each : (n : ℕ) (g : ℕ → List Row) (s : ℕ → ℕ) → ((i : ℕ) → i < n → Run at (g i) (s i) (s (suc i))) → Run at (each n g) (s 0) (s n)
  unfolding each
  run_each zero g s h = run_none (s 0)
  run_each (suc n) g s h = run_append (s 0) (s n) (s (suc n)) (run_each n g s (λ i l. h i (omega arith))) (h n (omega arith))

  run_moved : {l : List Row} {a b : ℕ} (c d : ℕ) → Run at l a b → a ≡ c → b ≡ d → Run at l c d
  run_moved c d r p q = record { long = omega (arith, r.long); in_order = λ n h. r.in_order n h ∙ omega arith }

-- ---- the residual

module _ (s : Site) (h : Wired s.counts s.wiring) where
  abbrev start : Block → ℕ
  start b = block_start s.counts (pieces s.counts s.wiring) (row_start s s.counts.rows) b

  abbrev whole : ℕ
  whole = dim s.counts (pieces s.counts s.wiring) (row_start s s.counts.rows)

  abbrev spot : Place → ℕ
  spot a = start a.0 + a.1

  -- a block with a row for each index
  family : (b : Block) (n e : ℕ) (g : ℕ → Row) → ((j : ℕ) → (g j).0 ≡ (b, j)) → start b + n ≡ e → Run spot (each n (λ j. g j ∷ [])) (start b) e
  family b n e g is o =
      run_moved spot (start b) e
      (run_each spot n (λ j. g j ∷ []) (λ j. start b + j) (λ j l. run_one spot (g j) (start b + j) (start b + suc j) (ap (λ (a : Place). spot a) (is j)) (omega arith)))
      (omega arith)
      o

  -- the piecewise generators' cost variables
  cost_run : (j : ℕ) → Run spot (cost_row s j) (start Cost + piece_rank s.counts s.wiring j) (start Cost + piece_rank s.counts s.wiring (suc j))
  unfolding piece_rank before
  cost_run j = go (eqb (segments_at s.counts s.wiring j) 0) refl
    where
      go : (b : Bool) → eqb (segments_at s.counts s.wiring j) 0 ≡ b
          → Run spot (cond b [] (((Cost, piece_rank s.counts s.wiring j), cost_form s j) ∷ [])) (start Cost + piece_rank s.counts s.wiring j) (start Cost + piece_rank s.counts s.wiring (suc j))
      go true e =
          let no : piece s.counts s.wiring j ≡ 0 = rw e in
          run_moved spot _ _ (run_none spot (start Cost + piece_rank s.counts s.wiring j)) refl (omega arith)
      go false e =
          let one : piece s.counts s.wiring j ≡ 1 = rw e in
          run_one spot _ _ _ refl (omega arith)

  costs_run : Run spot (each s.counts.generators (cost_row s)) (start Cost) (start LamLb)
  unfolding block_start piece_rank before
  costs_run =
      run_moved spot (start Cost) (start LamLb)
      (run_each spot s.counts.generators (cost_row s) (λ j. start Cost + piece_rank s.counts s.wiring j) (λ j l. cost_run j))
      (omega arith)
      (omega arith)

  -- the segments
  segments_run : Run spot (each s.counts.generators (λ j. each (segments_at s.counts s.wiring j) (λ t. row_of (segment s j t) none ∷ []))) (start Segments) (start Linear)
  unfolding block_start segment_start before
  segments_run =
      run_moved spot (start Segments) (start Linear)
      (run_each spot s.counts.generators _ (λ j. start Segments + segment_start s.counts s.wiring j)
      (λ j l.
      run_moved spot _ _
      (run_each spot (segments_at s.counts s.wiring j) _ (λ t. start Segments + (segment_start s.counts s.wiring j + t)) (λ t m. run_one spot _ _ _ refl (omega arith)))
      (omega arith)
      (omega arith)))
      (omega arith)
      (omega (arith, h.segments_sum))

  -- the linear rows
  linear_run : (q : ℕ) (f : Shape) → s.shapes q ≡ f → Run spot (rows.linear_row_count s f q (row_start s q)) (start Linear + row_start s q) (start Linear + row_start s (suc q))
  unfolding before
  linear_run q f e = go f (ap (λ (x : Shape). start Linear + (row_start s q + width x)) e)
    where
      go : (f : Shape) → start Linear + (row_start s q + width (s.shapes q)) ≡ start Linear + (row_start s q + width f)
          → Run spot (rows.linear_row_count s f q (row_start s q)) (start Linear + row_start s q) (start Linear + (row_start s q + width (s.shapes q)))
      go free e = run_moved spot _ _ (run_none spot (start Linear + row_start s q)) refl (omega arith)
      go upper_only e = run_one spot _ _ _ refl (omega arith)
      go lower_only e = run_one spot _ _ _ refl (omega arith)
      go two_sided e =
          run_append spot _ (start Linear + (row_start s q + 1)) _ (run_one spot (row_of (row_ceiling s q (row_start s q)) none) _ _ refl (omega arith)) (run_one spot (row_of (row_floor s q (row_start s q + 1)) none) _ _ refl (omega arith))
      go equality e = run_one spot _ _ _ refl (omega arith)

  linears_run : Run spot (each s.counts.rows (λ q. rows.linear_row_count s (s.shapes q) q (row_start s q))) (start Linear) (start NuBal)
  unfolding block_start before
  linears_run =
      run_moved spot (start Linear) (start NuBal)
      (run_each spot s.counts.rows _ (λ q. start Linear + row_start s q) (λ q l. linear_run q (s.shapes q) refl))
      (omega arith)
      (omega arith)

  lower_place : (i : ℕ) (b : Bool) → (row_of (cond b (shed_none s i) (shed_floor s i)) (var (Psh, i))).0 ≡ (MuLb, i)
  lower_place i true = refl
  lower_place i false = refl

  upper_place : (i : ℕ) (b : Bool) → (row_of (cond b (shed_spare s i) (shed_ceiling s i)) none).0 ≡ (MuUb, i)
  upper_place i true = refl
  upper_place i false = refl

  all_run : Run spot (residual s) 0 whole
  unfolding residual block_start dim
  all_run =
      run_append spot 0 (start Pg) whole (family Va s.counts.buses (start Pg) _ (λ j. refl) (omega arith))
      (run_append spot (start Pg) (start Flow) whole (family Pg s.counts.generators (start Flow) _ (λ j. refl) (omega arith))
      (run_append spot (start Flow) (start Psh) whole (family Flow s.counts.branches (start Psh) _ (λ j. refl) (omega arith))
      (run_append spot (start Psh) (start Cost) whole (family Psh s.counts.buses (start Cost) _ (λ j. refl) (omega arith))
      (run_append spot (start Cost) (start LamLb) whole costs_run
      (run_append spot (start LamLb) (start LamUb) whole (family LamLb s.counts.branches (start LamUb) _ (λ j. refl) (omega arith))
      (run_append spot (start LamUb) (start GammaLb) whole (family LamUb s.counts.branches (start GammaLb) _ (λ j. refl) (omega arith))
      (run_append spot (start GammaLb) (start GammaUb) whole (family GammaLb s.counts.branches (start GammaUb) _ (λ j. refl) (omega arith))
      (run_append spot (start GammaUb) (start RhoLb) whole (family GammaUb s.counts.branches (start RhoLb) _ (λ j. refl) (omega arith))
      (run_append spot (start RhoLb) (start RhoUb) whole (family RhoLb s.counts.generators (start RhoUb) _ (λ j. refl) (omega arith))
      (run_append spot (start RhoUb) (start MuLb) whole (family RhoUb s.counts.generators (start MuLb) _ (λ j. refl) (omega arith))
      (run_append spot (start MuLb) (start MuUb) whole (family MuLb s.counts.buses (start MuUb) _ (λ i. lower_place i (s.fixed i)) (omega arith))
      (run_append spot (start MuUb) (start Segments) whole (family MuUb s.counts.buses (start Segments) _ (λ i. upper_place i (s.fixed i)) (omega arith))
      (run_append spot (start Segments) (start Linear) whole segments_run
      (run_append spot (start Linear) (start NuBal) whole linears_run
      (run_append spot (start NuBal) (start NuFlow) whole (family NuBal s.counts.buses (start NuFlow) _ (λ j. refl) (omega arith))
      (run_append spot (start NuFlow) (start Eta) whole (family NuFlow s.counts.branches (start Eta) _ (λ j. refl) (omega arith))
      (family Eta s.counts.references whole _ (λ j. refl) (omega arith))))))))))))))))))

-- ---- the claim

all_at : {P : Row → Type 0} {l : List Row} → All P l → (n : ℕ) → n < length l → P (row_at l n)
all_at done n k = absurd (not-suc-le-zero k)
all_at (p & ps) zero k = p
all_at (p & ps) (suc n) k = all_at ps n (omega arith)

module _ (c : Counts) (w : List ℕ) (r : List Float) (ti : List ℕ) (tc s : List Float) where
  abbrev pub equations : List Row
  equations = residual (site_of c w r ti tc s)

  -- a place has a row, and no other
  pub record OneRow (a : Place) : Type 0 where
    pub number : ℕ
    pub below : number < length equations
    pub is : (row_at equations number).0 ≡ a
    pub alone : (n : ℕ) → n < length equations → (row_at equations n).0 ≡ a → n ≡ number

  module _ (h : Wired c w) where
    run : Run (flat c w r ti tc s) equations 0 (dim c (pieces c w) (linear_row_count c w r))
    unfolding linear_start
    run = all_run (site_of c w r ti tc s) h

    pub rows_many : length equations ≡ dim c (pieces c w) (linear_row_count c w r)
    rows_many = omega (arith, run.long)

    pub rows_in_order : (n : ℕ) → n < length equations → flat c w r ti tc s (row_at equations n).0 ≡ n
    rows_in_order n k = run.in_order n k ∙ omega arith

    pub rows_inside : (n : ℕ) → n < length equations → Inside c w r ti tc s (row_at equations n).0
    unfolding linear_start
    rows_inside n k = (all_at (rows_are (site_of c w r ti tc s) h) n k).0

    pub covered : (a : Place) → Inside c w r ti tc s a → OneRow a
    unfolding block_start dim
    covered a m =
        let n = flat c w r ti tc s a in
        let k : n < length equations = omega (arith, rows_many, inside (sizes c (pieces c w) (linear_row_count c w r)) (rank a.0), block_size c (pieces c w) (linear_row_count c w r) a.0) in
        let x = (row_at equations n).0 in
        let e = blocks_apart c (pieces c w) (linear_row_count c w r) x.0 a.0 x.1 a.1 (rows_inside n k) m (rows_in_order n k) in
        record {
          number = n;
          below = k;
          is = ap₂ (λ (b : Block) (i : ℕ). (b, i)) e.0 e.1;
          alone = λ t l q. sym (rows_in_order t l) ∙ ap (flat c w r ti tc s) q;
        }

    -- word n of a column is the derivative of row n, at an accepted base
    pub every_word : Doubles s → in_range base_low base_high (reading c r BaseMva 0) ≡ true → (k : Served) (i : ℕ) → i < elements c k → (eta : ℕ → Float) (n : ℕ) → n < dim c (pieces c w) (linear_row_count c w r)
        → Alike (get_or (column_words c w ti tc (pieces c w) r s k i) n nan) (rate_value (value c w r ti tc s eta) (rate (direction k i) (row_at equations n).1))
    every_word d base k i l eta n m =
        let o : n < length equations = omega (arith, rows_many) in
        rw (rows_in_order n o) at (all_at (column_is_the_derivative c w r ti tc s k i h d base l eta) n o)
