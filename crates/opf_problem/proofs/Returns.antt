-- The returns of `assemble_opf`, one law for each; which results have room; the parts together.
-- Main results: `assemble_refused`, `assemble_short`, `assemble_done`; `all_fit`; `parts_done`. Assumes nothing.
use mathlib.Core.Path.{◌≡◌, refl, sym, ap, ◌∙◌}
use mathlib.Core.Bool.{Bool, true, false, ◌||◌}
use mathlib.Core.List.{List, []}
use mathlib.Mathlib.Data.Bool.Basic.{or_inl, or_inr}
use Prim.Native.Nat.{ℕ, ◌≤◌, ◌<◌}
use native.Mathlib.Omega.{arith}
use lib.Dec.{ltb}
use lib.ListN.{length}
use lib.Ieee.{Float}
use borrow.Author.Tests.{lt-ltb, le-ltb, ltb-false, ne_eqb}
use Rattle.sequence.specs.Lists.{front}
use Rattle.sequence.specs.Answers.{first_of}
use Rattle.sequence.specs.Sheets.{Laid as Triplets, laid, lays}
use Rattle.sequence.proofs.Answers.{no_test, passed, holding}
use Rattle.sequence.proofs.Lists.{or_none}
use Rattle.network.specs.declared.Counts.{Counts}
use Rattle.network.specs.Layout.{ReadingsLaid}
use Rattle.network.specs.Numbers.{Network, network_tests, Wired, Termed}
use Rattle.model.proofs.Calls.{network_stands, network_passes}
use Rattle.opf_layout.specs.declared.OpfLayout.{OpfLayout}
use Rattle.opf_layout.specs.Layout.{active_of, cones, Placed, Bounded}
use Rattle.opf_assembly.specs.Assembly.{p_triplets, a_triplets, q_sheet, b_sheet}
use Rattle.opf_assembly.proofs.Lengths.{q_long, b_long}
use Rattle.opf_sides.proofs.Cones.{cones_are}
use Rattle.opf_sides.specs.Walks.{cones_in}
use Rattle.opf_problem.specs.declared.Rooms.{Rooms}
use Rattle.opf_problem.specs.Calls.{Parts, Program, program, short_program, assembled, assembles, parts_of, assemble_number, assemble_call}
use Rattle.opf_problem.specs.declared.draft.Draft.{Draft}
use Rattle.opf_problem.specs.Walks.{any_short}

-- ---- the returns

refused : {number k : ℕ} (x : Parts) (s : Program) → number ≡ k → (k ≡ 0 → ⊥) → assembled k 0 0 s ≡ assembles number x s
unfolding assembles
refused {k = k} x s e h = rw (e, ne_eqb k 0 h)

module _ (N : Network) (s : Program) {k : ℕ} (e : k ≡ first_of (network_tests N true true)) where
  pub assemble_refused : (k ≡ 0 → ⊥) → assembled k 0 0 s ≡ assemble_call N s
  unfolding assemble_number
  assemble_refused h = refused (parts_of N) s (network_stands N true true _ e h) h

  pub assemble_short : k ≡ 0 → short_program (parts_of N) s ≡ true → assembled 7 0 0 s ≡ assemble_call N s
  unfolding assemble_number
  assemble_short z h = refused (parts_of N) s (network_passes N true true _ e z ∙ holding 7 _ [] h) (λ y. absurd (omega arith))

  pub assemble_done : k ≡ 0 → short_program (parts_of N) s ≡ false → assembles 0 (parts_of N) s ≡ assemble_call N s
  unfolding assemble_number
  assemble_done z h = rw (network_passes N true true _ e z, passed 7 (short_program (parts_of N) s) [] h, no_test)

-- ---- which results have room

-- every result has room
pub record Fits (c : Counts) (w : List ℕ) (r : List Float) (ti : List ℕ) (tc : List Float) (room : Rooms) : Type 0 where
  pub p_fits : length (p_triplets c w r) ≤ room.p
  pub a_fits : length (a_triplets c w r ti tc) ≤ room.a
  pub q_fits : length (q_sheet c w r) ≤ room.q
  pub b_fits : length (b_sheet c w r) ≤ room.b
  pub cones_fit : length (cones c (active_of c w r)) ≤ room.cones

-- what a draft says
pub record Drafted (c : Counts) (w : List ℕ) (r : List Float) (ti : List ℕ) (tc : List Float) (x : OpfLayout) : Type 0 where
  pub wired : Wired c w
  pub read : ReadingsLaid c r
  pub termed : Termed c w ti tc
  pub placed : Placed c (active_of c w r) x
  pub bounded : Bounded c (active_of c w r)

pub drafted : (d : Draft) → Drafted d.site.grid.plan.counts d.site.grid.plan.wiring.now d.site.grid.plan.readings.now d.site.term_index.now d.site.term_coefficient.now d.layout
drafted d = record { wired = d.site.grid.wired; read = d.site.grid.plan.readings_laid; termed = d.site.termed; placed = d.placed; bounded = d.bounded }

module _ {c : Counts} {w : List ℕ} {r : List Float} {ti : List ℕ} {tc : List Float} {lay : OpfLayout} (h : Drafted c w r ti tc lay) (room : Rooms) where
  abbrev p? : Bool
  p? = ltb room.p (length (p_triplets c w r))

  abbrev a? : Bool
  a? = ltb room.a (length (a_triplets c w r ti tc))

  abbrev q? : Bool
  q? = ltb room.q (length (q_sheet c w r))

  abbrev b? : Bool
  b? = ltb room.b (length (b_sheet c w r))

  abbrev cones? : Bool
  cones? = ltb room.cones (length (cones c (active_of c w r)))

  same_cones : length (cones_in lay) ≡ length (cones c (active_of c w r))
  same_cones = ap (λ (l : List ℕ). length l) (cones_are c (active_of c w r) lay h.placed)

  pub q_short : room.q < lay.nvar → true ≡ any_short c w r ti tc room
  q_short l =
      let g : room.q < length (q_sheet c w r) = omega (arith, q_long c w r, h.placed.nvar_is) in
      sym (or_inr p? (a? || (q? || (b? || cones?))) (or_inr a? (q? || (b? || cones?)) (or_inl q? (b? || cones?) (lt-ltb room.q (length (q_sheet c w r)) g))))

  pub b_short : room.b < lay.ncon → true ≡ any_short c w r ti tc room
  b_short l =
      let g : room.b < length (b_sheet c w r) = omega (arith, b_long c w r, h.placed.ncon_is) in
      sym (or_inr p? (a? || (q? || (b? || cones?))) (or_inr a? (q? || (b? || cones?)) (or_inr q? (b? || cones?) (or_inl b? cones? (lt-ltb room.b (length (b_sheet c w r)) g)))))

  pub cones_short : {k : ℕ} → k ≡ length (cones_in lay) → room.cones < k → true ≡ any_short c w r ti tc room
  cones_short e l =
      let g : room.cones < length (cones c (active_of c w r)) = omega (arith, same_cones) in
      sym (or_inr p? (a? || (q? || (b? || cones?))) (or_inr a? (q? || (b? || cones?)) (or_inr q? (b? || cones?) (or_inr b? cones? (lt-ltb room.cones (length (cones c (active_of c w r))) g)))))

  pub p_short : {x : Bool} → x ≡ p? → x ≡ true → true ≡ any_short c w r ti tc room
  p_short e l = sym (or_inl p? (a? || (q? || (b? || cones?))) (sym e ∙ l))

  -- A's room is left to decide
  pub a_decides : {k : ℕ} {x y : Bool} → k ≡ length (cones_in lay) → x ≡ p? → y ≡ a? → lay.nvar ≤ room.q → lay.ncon ≤ room.b → k ≤ room.cones → x ≡ false → y ≡ any_short c w r ti tc room
  a_decides e f g hq hb hs hp =
      let q : length (q_sheet c w r) ≤ room.q = omega (arith, q_long c w r, h.placed.nvar_is) in
      let b : length (b_sheet c w r) ≤ room.b = omega (arith, b_long c w r, h.placed.ncon_is) in
      let s : length (cones c (active_of c w r)) ≤ room.cones = omega (arith, same_cones) in
      rw (sym f ∙ hp, le-ltb room.q (length (q_sheet c w r)) q, le-ltb room.b (length (b_sheet c w r)) b, le-ltb room.cones (length (cones c (active_of c w r))) s, g) (last a?)
    where
      last : (x : Bool) → x ≡ x || false
      last true = refl
      last false = refl

pub all_fit : (c : Counts) (w : List ℕ) (r : List Float) (ti : List ℕ) (tc : List Float) (room : Rooms) → any_short c w r ti tc room ≡ false → Fits c w r ti tc room
all_fit c w r ti tc room e =
    let p = or_none (ltb room.p (length (p_triplets c w r))) _ e in
    let a = or_none (ltb room.a (length (a_triplets c w r ti tc))) _ p.1 in
    let q = or_none (ltb room.q (length (q_sheet c w r))) _ a.1 in
    let b = or_none (ltb room.b (length (b_sheet c w r))) _ q.1 in
    record {
      p_fits = ltb-false _ _ p.0;
      a_fits = ltb-false _ _ a.0;
      q_fits = ltb-false _ _ q.0;
      b_fits = ltb-false _ _ b.0;
      cones_fit = ltb-false _ _ b.1;
    }

-- ---- the parts together

pub parts_done : (x : Parts) (pr pc : List ℕ) (pv : List Float) (ar ac : List ℕ) (av q b : List Float) (s : List ℕ) {pr' pc' : List ℕ} {pv' : List Float} {ar' ac' : List ℕ} {av' q' b' : List Float} {s' : List ℕ} {j k : ℕ}
    → laid 0 j pr' pc' pv' ≡ lays 0 x.p pr pc pv → laid 0 k ar' ac' av' ≡ lays 0 x.a ar ac av → q' ≡ front x.q q → b' ≡ front x.b b → s' ≡ front x.cones s
    → assembled 0 k j (program pr' pc' pv' ar' ac' av' q' b' s') ≡ assembles 0 x (program pr pc pv ar ac av q b s)
unfolding assembles lays
parts_done x pr pc pv ar ac av q b s e f g h i =
    rw (ap (λ (t : Triplets). t.count) e, ap (λ (t : Triplets). t.rows) e, ap (λ (t : Triplets). t.cols) e, ap (λ (t : Triplets). t.values) e, ap (λ (t : Triplets). t.count) f, ap (λ (t : Triplets). t.rows) f, ap (λ (t : Triplets). t.cols) f, ap (λ (t : Triplets). t.values) f, g, h, i)
