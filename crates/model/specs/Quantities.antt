-- model/dc.rs's quantities by 01's rules for module 1: each operation rounded once, grouped as the Rust writes it; sums begin at +0.
-- Main definitions: `shed_cap`, `flow_offset`, `phase`, `network_at`, `fixed_at`, `generator_cost`, `evaluate`. Assumes nothing.
use Rattle.std.specs.Prelude.{ℕ, ◌+◌, true, cond, List, get_or, eqb, Float}
use Rattle.std.specs.Float.{nan, inf, binary64}
use Rattle.std.specs.Float.Ieee.{add, sub, mul, lt}
use Rattle.float64.specs.Values.{nought, max_zero, add_at, sub_at}
use Rattle.sequence.specs.Lists.{turns}
use Rattle.network.specs.declared.Counts.{Counts}
use Rattle.network.specs.declared.Part.TheVariants.{BrFrom, BrTo, FlowTerms, GenerationTerms}
use Rattle.network.specs.declared.Field.TheVariants.{Sw, FlowOffset, Cq, Cl, Cc, Demand, ShuntConductance, HvdcInjection, Slopes, Intercepts}
use Rattle.network.specs.Layout.{allow_shed, wire, reading, segments_at, segment_start, term_start}

-- "the larger of demand and 0 if allow_shed, else 0"
unfoldable pub shed_cap : Counts → List ℕ → List Float → ℕ → Float
shed_cap c w r i = cond (eqb (allow_shed w) 1) (max_zero (reading c r Demand i)) nought

-- sw[e] * flow_offset[e]
unfoldable pub flow_offset : Counts → List Float → ℕ → Float
flow_offset c r e = mul binary64 (reading c r Sw e) (reading c r FlowOffset e)

-- ---- withdrawals

-- branch e's part in bus i's withdrawal: its offset is added at its from end, then taken away at its to end
unfoldable pub phase_turn : Counts → List ℕ → List Float → ℕ → ℕ → Float → Float
phase_turn c w r i e a = sub_at (eqb (wire c w BrTo e) i) (flow_offset c r e) (add_at (eqb (wire c w BrFrom e) i) (flow_offset c r e) a)

unfoldable pub phase : Counts → List ℕ → List Float → ℕ → Float
phase c w r i = turns (phase_turn c w r i) nought c.branches

-- shunt_conductance + phase - hvdc_injection
unfoldable pub network_at : Counts → List ℕ → List Float → ℕ → Float
network_at c w r i = sub binary64 (add binary64 (reading c r ShuntConductance i) (phase c w r i)) (reading c r HvdcInjection i)

-- demand + network withdrawal
unfoldable pub fixed_at : Counts → List ℕ → List Float → ℕ → Float
fixed_at c w r i = add binary64 (reading c r Demand i) (network_at c w r i)

-- ---- generator_cost

-- cq * p * p + cl * p + cc
unfoldable pub quadratic : Counts → List Float → ℕ → Float → Float
quadratic c r j p =
    add binary64 (add binary64 (mul binary64 (mul binary64 (reading c r Cq j) p) p) (mul binary64 (reading c r Cl j) p)) (reading c r Cc j)

-- slope * p + intercept
unfoldable pub segment_value : Counts → List Float → Float → ℕ → Float
segment_value c r p s = add binary64 (mul binary64 (reading c r Slopes s) p) (reading c r Intercepts s)

-- "of equal segment values the first is kept"
abbrev pub larger : Float → Float → Float
larger a x = cond (lt a x) x a

-- the greatest segment value, from minus infinity on
unfoldable pub piecewise : Counts → List ℕ → List Float → ℕ → Float → Float
piecewise c w r j p = turns (λ s a. larger a (segment_value c r p (segment_start c w j + s))) (inf true) (segments_at c w j)

-- "segments per generator (0 means no piecewise cost)"
unfoldable pub generator_cost : Counts → List ℕ → List Float → ℕ → Float → Float
generator_cost c w r j p = cond (eqb (segments_at c w j) 0) (quadratic c r j p) (piecewise c w r j p)

-- ---- evaluate

-- the sum of count terms from a place on, each coefficient times the value that its index names
unfoldable pub term_sum : List ℕ → List Float → List Float → ℕ → ℕ → Float
term_sum ti tc xs at count =
    turns (λ t a. add binary64 a (mul binary64 (get_or tc (at + t) nan) (get_or xs (get_or ti (at + t) 0) nan))) nought count

-- the flow terms' sum plus the generation terms' sum
unfoldable pub evaluate : Counts → List ℕ → List ℕ → List Float → ℕ → List Float → List Float → Float
evaluate c w ti tc q f pg =
    add binary64 (term_sum ti tc f (term_start c w q) (wire c w FlowTerms q)) (term_sum ti tc pg (term_start c w q + wire c w FlowTerms q) (wire c w GenerationTerms q))
