-- The whole matrix: at every cell the port's triplets hold, in order, the values of the books' matrix that are not zero. One exception is stated: a bus that is listed twice as reference.
-- Main results: `matrix_is_the_books`, `accepted_matrix`. Assumes nothing.
use mathlib.Core.Path.{◌≡◌, refl, sym, ap, ◌∙◌, subst}
use mathlib.Core.Bool.{Bool, true, false, not, ◌&&◌}
use mathlib.Core.List.{List, []}
use Prim.Native.Nat.{ℕ, ◌<◌}
use lib.Dec.{T, eqb}
use lib.Ieee.{Float}
use Rattle.sequence.specs.Lists.{when}
use Rattle.sequence.specs.Facts.{All}
use Rattle.sequence.specs.Facts.All.{done, ◌&◌}
use Rattle.network.specs.declared.Counts.{Counts}
use Rattle.network.specs.Numbers.{Network, Wired, Termed, Accepted}
use Rattle.solution.specs.Sheet.{pieces}
use Rattle.kkt_index.specs.declared.Block.{Block}
use Rattle.kkt_index.specs.declared.Block.TheVariants.{Va, Pg, Flow, Psh, Cost, LamLb, LamUb, GammaLb, GammaUb, RhoLb, RhoUb, MuLb, MuUb, Segments, Linear, NuBal, NuFlow, Eta}
use Rattle.kkt_index.specs.Index.{rank, size, linear_row_count}
use Rattle.kkt.specs.Slots.{Slot, Rule, slots}
use Rattle.kkt.specs.Slots.Rule.{first_place, every_place}
use Rattle.books.specs.Forms.{Place}
use Rattle.books.specs.Convex.{Entry, matrix_of}
use Rattle.books.specs.Manual.{program}
use Rattle.books.specs.Matrix.{Doubles, spared, MatrixIs}
use Rattle.books.proofs.Cells.{values, both, Group, has, joined, pick, keys_of, no_group, find, keys_in}
use Rattle.books.proofs.Setting.{Setting, port_site, book_site, port_point, book_point}
use Rattle.books.proofs.Port.{port_groups, port_valid, slots_are, port_values}
use Rattle.books.proofs.Book.{book_groups, book_valid, matrix_are, book_values}
use Rattle.books.proofs.Pairs.{Agree}
use Rattle.books.proofs.Limits as limits
use Rattle.books.proofs.Sheds as sheds
use Rattle.books.proofs.Segments as segments
use Rattle.books.proofs.Rows as rows
use Rattle.books.proofs.Balances as balances
use Rattle.books.proofs.Angles as angles

module _ (z : Setting) where
  abbrev size_of : Block → ℕ
  size_of b = size z.counts (pieces z.counts z.wiring) (linear_row_count z.counts z.wiring z.readings) b

  abbrev is_spared : Place → Place → Bool
  is_spared a b = spared z.counts z.wiring z.readings z.indexes z.coefficients z.sheet z.rule a b

  abbrev Same : Place → Place → Type 0
  Same a b = values (port_point z) a b (slots (port_site z)) ≡ when (not (is_spared a b)) (values (book_point z) a b (matrix_of (program (book_site z))))

  abbrev Claim : Block → Block → Type 0
  Claim g h = (i j : ℕ) → i < size_of g → j < size_of h → Same (g, i) (h, j)

  -- nothing is spared at another pair of blocks
  none_spared : (u : Rule) (a b : Place) → both (eqb (rank a.0) (rank Eta)) (eqb (rank b.0) (rank Va)) ≡ false
      → spared z.counts z.wiring z.readings z.indexes z.coefficients z.sheet u a b ≡ false
  none_spared every_place a b e = refl
  none_spared first_place a b e = go (eqb (rank a.0) (rank Eta)) (eqb (rank b.0) (rank Va)) _ e
    where
      go : (s t x : Bool) → both s t ≡ false → s && (t && x) ≡ false
      go true true x q = absurd (subst T q tt)
      go true false x q = refl
      go false t x q = refl

  plain : (g h : Block) → both (eqb (rank g) (rank Eta)) (eqb (rank h) (rank Va)) ≡ false → ((i j : ℕ) → i < size_of g → j < size_of h → Agree z (g, i) (h, j)) → Claim g h
  unfolding when
  plain g h e f i j l k = rw (none_spared z.rule (g, i) (h, j) e) (f i j l k)

  claims : All (λ k. Claim k.0 k.1) (keys_of (port_groups z))
  claims =
      plain GammaLb Va refl (λ i j l k. angles.gamma_lb-va z i j k)
      & plain GammaUb Va refl (λ i j l k. angles.gamma_ub-va z i j k)
      & plain NuFlow Va refl (λ i j l k. angles.nu_flow-va z i j k)
      & plain NuBal Va refl (λ i j l k. balances.nu_bal-va z i j k)
      & (λ i j l k. angles.eta_va z i j l k)
      & plain Pg Pg refl (λ i j l k. limits.pg_pg z i j)
      & plain RhoLb Pg refl (λ i j l k. limits.rho_lb-pg z i j)
      & plain RhoUb Pg refl (λ i j l k. limits.rho_ub-pg z i j)
      & plain NuBal Pg refl (λ i j l k. balances.nu_bal-pg z i j l k)
      & plain Segments Pg refl (λ i j l k. segments.segments_pg z i j)
      & plain LamLb Flow refl (λ i j l k. limits.lam_lb-flow z i j)
      & plain LamUb Flow refl (λ i j l k. limits.lam_ub-flow z i j)
      & plain NuFlow Flow refl (λ i j l k. limits.nu_flow-flow z i j)
      & plain MuLb Psh refl (λ i j l k. sheds.mu_lb-psh z i j)
      & plain MuUb Psh refl (λ i j l k. sheds.mu_ub-psh z i j)
      & plain NuBal Psh refl (λ i j l k. balances.nu_bal-psh z i j)
      & plain Segments Cost refl (λ i j l k. segments.segments_cost z i j)
      & plain Flow LamLb refl (λ i j l k. limits.flow-lam_lb z i j)
      & plain LamLb LamLb refl (λ i j l k. limits.lam_lb-lam_lb z i j)
      & plain Flow LamUb refl (λ i j l k. limits.flow-lam_ub z i j)
      & plain LamUb LamUb refl (λ i j l k. limits.lam_ub-lam_ub z i j)
      & plain Va GammaLb refl (λ i j l k. limits.va-gamma_lb z i j)
      & plain GammaLb GammaLb refl (λ i j l k. limits.gamma_lb-gamma_lb z i j)
      & plain Va GammaUb refl (λ i j l k. limits.va-gamma_ub z i j)
      & plain GammaUb GammaUb refl (λ i j l k. limits.gamma_ub-gamma_ub z i j)
      & plain Pg RhoLb refl (λ i j l k. limits.pg-rho_lb z i j)
      & plain RhoLb RhoLb refl (λ i j l k. limits.rho_lb-rho_lb z i j)
      & plain Pg RhoUb refl (λ i j l k. limits.pg-rho_ub z i j)
      & plain RhoUb RhoUb refl (λ i j l k. limits.rho_ub-rho_ub z i j)
      & plain Psh MuLb refl (λ i j l k. sheds.psh-mu_lb z i j)
      & plain MuLb MuLb refl (λ i j l k. sheds.mu_lb-mu_lb z i j)
      & plain Pg Segments refl (λ i j l k. segments.pg_segments z i j)
      & plain Cost Segments refl (λ i j l k. segments.cost_segments z i j)
      & plain Segments Segments refl (λ i j l k. segments.segments_segments z i j)
      & plain Psh MuUb refl (λ i j l k. sheds.psh-mu_ub z i j)
      & plain MuUb MuUb refl (λ i j l k. sheds.mu_ub-mu_ub z i j)
      & plain Va NuBal refl (λ i j l k. balances.va-nu_bal z i j)
      & plain Pg NuBal refl (λ i j l k. balances.pg-nu_bal z i j)
      & plain Psh NuBal refl (λ i j l k. balances.psh-nu_bal z i j)
      & plain Va NuFlow refl (λ i j l k. limits.va-nu_flow z i j)
      & plain Flow NuFlow refl (λ i j l k. limits.flow-nu_flow z i j)
      & plain Va Eta refl (λ i j l k. limits.va_eta z i j)
      & plain Linear Flow refl (λ i j l k. rows.linear_flow z i j)
      & plain Linear Pg refl (λ i j l k. rows.linear_pg z i j)
      & plain Flow Linear refl (λ i j l k. rows.flow_linear z i j)
      & plain Pg Linear refl (λ i j l k. rows.pg_linear z i j)
      & plain Linear Linear refl (λ i j l k. rows.linear_linear z i j)
      & done

  -- ---- no element of either list lies in another pair of blocks

  outside_port : (a b : Place) → (T (has (keys_of (port_groups z)) (rank a.0) (rank b.0)) → ⊥) → values (port_point z) a b (slots (port_site z)) ≡ []
  unfolding joined values
  outside_port a b d =
      ap (values (port_point z) a b) (slots_are z)
      ∙ pick (port_point z) a b (port_groups z) (port_valid z)
      ∙ ap (λ (gs : List (Group Slot)). values (port_point z) a b (joined gs)) (no_group (port_groups z) (rank a.0) (rank b.0) d)

  outside_book : (a b : Place) → (T (has (keys_of (book_groups z)) (rank a.0) (rank b.0)) → ⊥) → values (book_point z) a b (matrix_of (program (book_site z))) ≡ []
  unfolding joined values
  outside_book a b d =
      ap (values (book_point z) a b) (matrix_are z)
      ∙ pick (book_point z) a b (book_groups z) (book_valid z)
      ∙ ap (λ (gs : List (Group Entry)). values (book_point z) a b (joined gs)) (no_group (book_groups z) (rank a.0) (rank b.0) d)

  both_nil : (t : Bool) (l m : List Float) → l ≡ [] → m ≡ [] → l ≡ when t m
  unfolding when
  both_nil true l m p q = p ∙ sym q
  both_nil false l m p q = p

  abbrev Named : Block → Block → Type 0
  Named g h = T (has (keys_of (port_groups z)) (rank g) (rank h))

  cells_same : (a b : Place) → a.1 < size_of a.0 → b.1 < size_of b.0 → Same a b
  cells_same a b h g =
      go (has (keys_of (port_groups z)) (rank a.0) (rank b.0))
      (λ t. find Claim (keys_of (port_groups z)) a.0 b.0 claims t a.1 b.1 h g)
      (λ d. outside_port a b d)
      (λ d. outside_book a b (λ t. d (find Named (keys_of (book_groups z)) a.0 b.0 (keys_in (keys_of (book_groups z)) (keys_of (port_groups z)) tt) t)))
    where
      go : (t : Bool) → (T t → Same a b) → ((T t → ⊥) → values (port_point z) a b (slots (port_site z)) ≡ []) → ((T t → ⊥) → values (book_point z) a b (matrix_of (program (book_site z))) ≡ []) → Same a b
      go true f e o = f tt
      go false f e o = both_nil (not (is_spared a b)) _ _ (e (λ y. y)) (o (λ y. y))

pub matrix_is_the_books : (rule : Rule) (c : Counts) (w : List ℕ) (r : List Float) (ti : List ℕ) (tc s : List Float) → Wired c w → Termed c w ti tc → Doubles s → MatrixIs c w r ti tc s rule
matrix_is_the_books rule c w r ti tc s wired termed doubles eta a b ha hb =
    let z : Setting = record {
      rule = rule;
      counts = c;
      wiring = w;
      readings = r;
      indexes = ti;
      coefficients = tc;
      sheet = s;
      eta = eta;
      wired = wired;
      termed = termed;
      doubles = doubles;
    } in
    port_values z a b ha hb
    ∙ cells_same z a b ha hb
    ∙ ap (when (not (spared c w r ti tc s rule a b))) (sym (book_values z (matrix_of (program (book_site z))) a b))

-- of every accepted network
pub accepted_matrix : (rule : Rule) (N : Network) (c : Counts) (s : List Float) → Accepted N c → Doubles s → MatrixIs c N.wiring N.readings N.indexes N.coefficients s rule
accepted_matrix rule N c s h d = matrix_is_the_books rule c N.wiring N.readings N.indexes N.coefficients s h.wired h.termed d
