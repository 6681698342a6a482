-- The test of two byte strings is true exactly when they are equal.
use Rattle.std.specs.Prelude.{ℕ, ◌≡◌, refl, true, false, List, [], ◌∷◌, eqb}
use Rattle.std.proofs.Common.{arith, subst, ⊎_elim, eqb-true, eq-eqb}
use Rattle.std.proofs.Math.Bool.{and-eq-true_iff}
use mathlib.Mathlib.Data.Bool.Basic.{dichotomy}
use lib.Pointwise.{pointwise}
use Rattle.text.specs.Phrase.{same_bytes}

pub same-equal : (xs ys : List ℕ) → same_bytes xs ys ≡ true → xs ≡ ys
unfolding same_bytes
same-equal [] [] h = refl
same-equal [] (y ∷ ys) h = let z : ◌≡◌ {A = ℕ} 0 1 = cc in absurd (omega arith)
same-equal (x ∷ xs) [] h = let z : ◌≡◌ {A = ℕ} 0 1 = cc in absurd (omega arith)
same-equal (x ∷ xs) (y ∷ ys) h =
    let t = (and-eq-true_iff (eqb x y) (same_bytes xs ys)).0 h in
    let p : x ≡ y = eqb-true x y t.0 in
    let q : xs ≡ ys = same-equal xs ys t.1 in
    cc

same_self : (xs : List ℕ) → same_bytes xs xs ≡ true
unfolding same_bytes
same_self [] = refl
same_self (x ∷ xs) = rw (eq-eqb x x refl) (same_self xs)

pub equal-same : (xs ys : List ℕ) → xs ≡ ys → same_bytes xs ys ≡ true
equal-same xs ys e = subst (λ (l : List ℕ). same_bytes xs l ≡ true) e (same_self xs)

pub differ-not-same : (xs ys : List ℕ) → (xs ≡ ys → ⊥) → same_bytes xs ys ≡ false
differ-not-same xs ys n = ⊎_elim (λ h. h) (λ h. absurd (n (same-equal xs ys h))) (dichotomy (same_bytes xs ys))

-- The library's test of equal slices is the same.
pub equal-is : (xs ys : List ℕ) → pointwise eqb xs ys ≡ same_bytes xs ys
unfolding same_bytes
equal-is [] [] = refl
equal-is [] (y ∷ ys) = refl
equal-is (x ∷ xs) [] = refl
equal-is (x ∷ xs) (y ∷ ys) = rw (equal-is xs ys)
