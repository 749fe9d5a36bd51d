-- A fact of every element of a list, and of some element. Main definitions: `All`, `Any`. Assumes nothing.
use Rattle.std.specs.Prelude.{List, [], ◌∷◌}

infixr 60 ◌&◌
pub data All {A : Type 0} (P : A → Type 0) : List A → Type 0 where
  done : All P []
  ◌&◌ : {x : A} {xs : List A} → P x → All P xs → All P (x ∷ xs)

pub data Any {A : Type 0} (P : A → Type 0) : List A → Type 0 where
  here : {x : A} {xs : List A} → P x → Any P (x ∷ xs)
  there : {x : A} {xs : List A} → Any P xs → Any P (x ∷ xs)
