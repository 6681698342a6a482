-- Quality scores: the part of each, which lists of them are taken, and the sum of such a list.
use Rattle.std.specs.Prelude.{ℕ, zero, suc, ◌+◌, ◌*◌, ◌^◌, ◌≤◌, ◌≡◌, Bool, cond, List, [], ◌∷◌, length, get_or, leb, Result, Ok, Err}
use Rattle.limits.specs.Limits.{scores_limit, score_limit}
use Rattle.checks.specs.Test.{Test, same, less, at_most, either, is_not, every, test}
use Rattle.scores.specs.declared.sum.SumError.{SumError}
use Rattle.scores.specs.declared.sum.SumError.TheVariants.{WrongCount, ScoreTooHigh}

-- Score q stands for the error probability 10^(-q/40): e parts of 10^-12 are at most that.
abbrev pub within : ℕ → ℕ → Bool
within q e = leb (e ^ 40 * 10 ^ q) (10 ^ 480)

-- The largest number up to a bound that passes; zero where none does.
unfoldable pub largest : (ℕ → Bool) → ℕ → ℕ
largest p zero = zero
largest p (suc n) = cond (p (suc n)) (suc n) (largest p n)

-- The reference's part E of a score.
unfoldable pub part : ℕ → ℕ
part q = largest (within q) (10 ^ 12)

-- A table of parts, by score.
pub record Table (parts : List ℕ) : Type 0 where
  pub carries : (q : ℕ) → q ≤ score_limit → get_or parts q 0 ≡ part q

unfoldable pub part_sum : List ℕ → ℕ
part_sum [] = 0
part_sum (q ∷ qs) = part q + part_sum qs

abbrev pub wrong_count : List ℕ → Test
wrong_count qs = either (same (length qs) 0) (less scores_limit (length qs))

abbrev pub too_high : List ℕ → Test
too_high qs = is_not (every (λ _ _ q. at_most q score_limit) qs)

unfoldable pub sum_of : List ℕ → Result ℕ SumError
sum_of qs = cond (test (wrong_count qs)) (Err WrongCount) (cond (test (too_high qs)) (Err ScoreTooHigh) (Ok (part_sum qs)))
