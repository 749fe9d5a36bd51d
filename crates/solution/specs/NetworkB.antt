-- 01's "Bench network": network B and its solution sheet.
-- Main definitions: `wiring_b`, `readings_b`, `sheet_b`. Assumes nothing.
use Rattle.std.specs.Prelude.{ℕ, List, [], ◌∷◌, Float}
use Rattle.std.specs.Float.{binary64}
use Rattle.std.specs.Float.Ieee.{neg, div}
use Rattle.float64.specs.Values.{whole}

-- "n 2, m 1, k 1, R 1 (bus 0), no S, q, T; allow_shed 0, objective 1; branch 0 to 1, generator at 0, all flags 1"
abbrev pub wiring_b : List ℕ
wiring_b = 2 ∷ 1 ∷ 1 ∷ 1 ∷ 0 ∷ 0 ∷ 0 ∷ 0 ∷ 1 ∷ 0 ∷ 1 ∷ 0 ∷ 0 ∷ 0 ∷ 1 ∷ 1 ∷ 1 ∷ []

abbrev half : Float
half = div binary64 (whole 1) (whole 2)

-- "base 100, b -4, sw 1, shift and offset 0, fmax 4, angles -0.5 and 0.5, gmin 0, gmax 2, cq 1, cl and cc 0, c_shed 3 3, demand 0 1, shunt and HVDC 0"
abbrev pub readings_b : List Float
readings_b =
    whole 100 ∷ neg (whole 4) ∷ whole 1 ∷ whole 0 ∷ whole 0 ∷ whole 4 ∷ neg half ∷ half ∷ whole 0 ∷ whole 2 ∷ whole 1 ∷ whole 0 ∷ whole 0 ∷ whole 3 ∷ whole 3 ∷ whole 0 ∷ whole 1 ∷ whole 0 ∷ whole 0 ∷ whole 0 ∷ whole 0 ∷ []

abbrev quarter : Float
quarter = div binary64 (whole 1) (whole 4)

-- "va 0 -0.25, pg 1, f 1, psh 0 0, nu_bal 2 2, mu_lb 1 1, objective 1, all else 0"
abbrev pub sheet_b : List Float
sheet_b =
    whole 0 ∷ neg quarter ∷ whole 1 ∷ whole 1 ∷ whole 0 ∷ whole 0 ∷ whole 2 ∷ whole 2 ∷ whole 0 ∷ whole 0 ∷ whole 0 ∷ whole 0 ∷ whole 0 ∷ whole 0 ∷ whole 1 ∷ whole 1 ∷ whole 0 ∷ whole 0 ∷ whole 1 ∷ []
