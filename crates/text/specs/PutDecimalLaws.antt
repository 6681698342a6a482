-- A numeral written digit by digit, the last one after those before it: what the recursion meets.
use Rattle.std.specs.Prelude.{ℕ, ◌+◌, ◌/◌, ◌%◌, ◌<◌, ◌≤◌, ◌≡◌, cond, List, [], ◌∷◌, ◌++◌, ltb}
use Rattle.std.proofs.Common.{arith, ap, ◌∙◌, lt-ltb, le-ltb}
use Rattle.std.proofs.Math.Decide.{dec_lt}
use Rattle.text.specs.Decimal.{decimal}
use Rattle.text.specs.DigitLaws.{decimal-one, decimal-more}

-- The digits before the last one.
unfoldable pub before_last : ℕ → List ℕ
before_last n = cond (ltb n 10) [] (decimal (n / 10))

pub before-none : (n : ℕ) → n < 10 → [] ≡ before_last n
unfolding before_last
before-none n l = rw (lt-ltb n 10 l)

pub before-more : (n : ℕ) → 10 ≤ n → decimal (n / 10) ≡ before_last n
unfolding before_last
before-more n l = rw (le-ltb n 10 l)

pub then-last : (n : ℕ) → decimal n ≡ before_last n ++ (48 + n % 10) ∷ []
then-last n = elim (dec_lt n 10) [
  | yes l ↦ let q : n ≡ n % 10 = omega arith in
      decimal-one n l ∙ ap (λ (k : ℕ). (48 + k) ∷ []) q ∙ ap (λ (ds : List ℕ). ds ++ (48 + n % 10) ∷ []) (before-none n l)
  | no m ↦ decimal-more n (omega arith) ∙ ap (λ (ds : List ℕ). ds ++ (48 + n % 10) ∷ []) (before-more n (omega arith))
]
