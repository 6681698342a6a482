-- The numeral of a number by its last digit and the digits before it.
use Rattle.std.specs.Prelude.{ℕ, zero, suc, ◌+◌, ◌/◌, ◌%◌, ◌<◌, ◌≤◌, ◌≡◌, refl, List, [], ◌∷◌, ◌++◌, length}
use Rattle.std.proofs.Common.{arith, sym, ap, ◌∙◌, length-append, lt-ltb, le-ltb}
use Rattle.std.proofs.Math.Decide.{dec_lt}
use Rattle.text.specs.Decimal.{digits, decimal}

one-digit : (f n : ℕ) → n < 10 → digits f n ≡ (48 + n) ∷ []
unfolding digits
one-digit zero n l = refl
one-digit (suc f) n l = rw (lt-ltb n 10 l)

more-digits : (f n : ℕ) → 10 ≤ n → digits (suc f) n ≡ digits f (n / 10) ++ (48 + n % 10) ∷ []
unfolding digits
more-digits f n l = rw (le-ltb n 10 l)

-- Enough fuel is as good as any other.
same_digits : (f g n : ℕ) → n ≤ f → n ≤ g → digits f n ≡ digits g n
same_digits zero g n a b = one-digit zero n (omega arith) ∙ sym (one-digit g n (omega arith))
same_digits (suc f) zero n a b = one-digit (suc f) n (omega arith) ∙ sym (one-digit zero n (omega arith))
same_digits (suc f) (suc g) n a b = elim (dec_lt n 10) [
  | yes l ↦ one-digit (suc f) n l ∙ sym (one-digit (suc g) n l)
  | no m ↦ more-digits f n (omega arith)
      ∙ ap (λ (ds : List ℕ). ds ++ (48 + n % 10) ∷ []) (same_digits f g (n / 10) (omega arith) (omega arith))
      ∙ sym (more-digits g n (omega arith))
]

pub decimal-one : (n : ℕ) → n < 10 → decimal n ≡ (48 + n) ∷ []
unfolding decimal
decimal-one n l = one-digit n n l

pub decimal-more : (n : ℕ) → 10 ≤ n → decimal n ≡ decimal (n / 10) ++ (48 + n % 10) ∷ []
unfolding decimal
decimal-more zero l = absurd (omega arith)
decimal-more (suc m) l =
    more-digits m (suc m) l
    ∙ ap (λ (ds : List ℕ). ds ++ (48 + suc m % 10) ∷ []) (same_digits m (suc m / 10) (suc m / 10) (omega arith) (omega arith))

pub one-length : (n : ℕ) → n < 10 → length (decimal n) ≡ 1
one-length n l = ap (length {A = ℕ}) (decimal-one n l)

pub more-length : (n : ℕ) → 10 ≤ n → length (decimal n) ≡ length (decimal (n / 10)) + 1
more-length n l = ap (length {A = ℕ}) (decimal-more n l) ∙ length-append (decimal (n / 10)) ((48 + n % 10) ∷ [])

-- What holds of one digit, and of more where it holds without the last, holds of all numbers.
module _ (P : ℕ → Type 0) (one : (n : ℕ) → n < 10 → P n) (more : (n : ℕ) → 10 ≤ n → P (n / 10) → P n) where
  up_to : (bound n : ℕ) → n ≤ bound → P n
  up_to zero n l = one n (omega arith)
  up_to (suc bound) n l = elim (dec_lt n 10) [
    | yes k ↦ one n k
    | no k ↦ more n (omega arith) (up_to bound (n / 10) (omega arith))
  ]

  pub by_digits : (n : ℕ) → P n
  by_digits n = up_to n n (omega arith)
