-- Which item stands at a place of a list, from 0, and whether an item stands in it at all.
use Rattle.std.specs.Prelude.{ℕ, zero, suc, ◌≡◌, List, [], ◌∷◌, ◌⊎◌}

module _ {A : Type 0} where
  abbrev pub At : List A → ℕ → A → Type 0
  At [] i a = ⊥
  At (x ∷ l) zero a = x ≡ a
  At (x ∷ l) (suc i) a = At l i a

  abbrev pub In : A → List A → Type 0
  In a [] = ⊥
  In a (x ∷ l) = (a ≡ x) ⊎ In a l
