-- Byte strings that differ at a place that both have. Of such strings none begins another, so each is known by what begins with it.
use Rattle.std.specs.Prelude.{ℕ, zero, suc, ◌<◌, ◌≡◌, Bool, true, false, not, ◌&&◌, ◌||◌, List, [], ◌∷◌, ◌++◌, length, get_or, eqb}
use Rattle.std.proofs.Common.{arith, sym}
use Rattle.std.proofs.Math.Decide.{dec_lt}
use Rattle.std.proofs.Math.Bool.{and-eq-true_iff}
use Rattle.std.proofs.lemmas.Bool.{false≢true, eqb-false}
use Rattle.checks.specs.TestLaws.{by_bool}

unfoldable pub apart : List ℕ → List ℕ → Bool
apart [] ys = false
apart (x ∷ xs) [] = false
apart (x ∷ xs) (y ∷ ys) = not (eqb x y) || apart xs ys

-- One string from each of some others, and any two of some strings.
unfoldable pub apart_from_all : List ℕ → List (List ℕ) → Bool
apart_from_all xs [] = true
apart_from_all xs (ys ∷ others) = apart xs ys && apart_from_all xs others

unfoldable pub all_apart : List (List ℕ) → Bool
all_apart [] = true
all_apart (xs ∷ others) = apart_from_all xs others && all_apart others

never-begin : (xs ys a b : List ℕ) → apart xs ys ≡ true → xs ++ a ≡ ys ++ b → ⊥
unfolding apart
never-begin [] ys a b h e = false≢true h
never-begin (x ∷ xs) [] a b h e = false≢true h
never-begin (x ∷ xs) (y ∷ ys) a b h e =
    let p : x ≡ y = cc in
    let q : xs ++ a ≡ ys ++ b = cc in
    by_bool (eqb x y) (λ t. never-begin xs ys a b (rw t at h) q) (λ t. eqb-false x y t p)

from_all : (xs : List ℕ) (others : List (List ℕ)) → apart_from_all xs others ≡ true → (j : ℕ) → j < length others → apart xs (get_or others j []) ≡ true
unfolding apart_from_all
from_all xs [] h j l = absurd (omega arith)
from_all xs (ys ∷ others) h zero l = ((and-eq-true_iff (apart xs ys) (apart_from_all xs others)).0 h).0
from_all xs (ys ∷ others) h (suc j) l = from_all xs others ((and-eq-true_iff (apart xs ys) (apart_from_all xs others)).0 h).1 j (omega arith)

any-two : (table : List (List ℕ)) → all_apart table ≡ true → (i j : ℕ) → i < j → j < length table → apart (get_or table i []) (get_or table j []) ≡ true
unfolding all_apart
any-two [] h i j k l = absurd (omega arith)
any-two (xs ∷ others) h i zero k l = absurd (omega arith)
any-two (xs ∷ others) h zero (suc j) k l = from_all xs others ((and-eq-true_iff (apart_from_all xs others) (all_apart others)).0 h).0 j (omega arith)
any-two (xs ∷ others) h (suc i) (suc j) k l = any-two others ((and-eq-true_iff (apart_from_all xs others) (all_apart others)).0 h).1 i j (omega arith) (omega arith)

-- Texts that begin with strings of a table are equal only where these are the same string.
pub same_place : (table : List (List ℕ)) → all_apart table ≡ true → (i j : ℕ) → i < length table → j < length table → (a b : List ℕ)
    → get_or table i [] ++ a ≡ get_or table j [] ++ b → i ≡ j
same_place table h i j k l a b e = elim (dec_lt i j) [
  | yes m ↦ absurd (never-begin (get_or table i []) (get_or table j []) a b (any-two table h i j m l) e)
  | no m ↦ elim (dec_lt j i) [
    | yes n ↦ absurd (never-begin (get_or table j []) (get_or table i []) b a (any-two table h j i n k) (sym e))
    | no n ↦ omega arith
  ]
]
