-- A call's answer with its number and count in one word. Assumes nothing.
use mathlib.Core.Path.{◌≡◌, ap, ◌∙◌}
use mathlib.Core.List.{List}
use Prim.Native.Nat.{ℕ}
use Rattle.decoding.specs.Exports.{packed}
use Rattle.job_book.specs.Book.{Words, Outcome, outcome, Ran, ran}
use Rattle.capi_change.specs.Told.{told, telling, told_run, telling_run}

pub tells : {a n k : ℕ} {W : Words} {o : Outcome} → a ≡ packed n k → outcome n k W ≡ o → told a W ≡ telling o
tells {W = W} p e = ap (λ (x : ℕ). told x W) p ∙ ap telling e

pub tells_run : {n k : ℕ} {W : Words} {ns ks : List ℕ} {r : Ran} → ran n k W ns ks ≡ r → told_run n W ns ks ≡ telling_run r
tells_run e = ap telling_run e
