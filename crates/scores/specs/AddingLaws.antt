-- A sum that is taken score by score: how it starts, goes on and ends.
use Rattle.std.specs.Prelude.{ℕ, suc, ◌+◌, ◌*◌, ◌^◌, ◌≤◌, ◌<◌, ◌≡◌, refl, not, cond, List, [], ◌∷◌, ◌++◌, length, get_or, drop, leb, Result, Ok, Err}
use Rattle.std.proofs.Common.{arith, add-zero, zero-add, add_assoc, add-one, ap, ◌∙◌, drop_of_length-le}
use Rattle.std.proofs.Math.Seq.{drop-cons}
use Rattle.checks.specs.Test.{every_from, Holds, Fails}
use Rattle.checks.specs.TestLaws.{by_bool, holds-true, fails-false}
use Rattle.scores.specs.declared.sum.SumError.{SumError}
use Rattle.scores.specs.declared.sum.SumError.TheVariants.{WrongCount, ScoreTooHigh}
use Rattle.limits.specs.Limits.{score_limit}
use Rattle.scores.specs.Scores.{part, part_sum, wrong_count, sum_of}
use Rattle.scores.specs.ScoreLaws.{part_small}

-- The sum so far, and the scores that are left.
unfoldable pub sum_from : ℕ → List ℕ → Result ℕ SumError
sum_from sum [] = Ok sum
sum_from sum (q ∷ qs) = cond (leb q score_limit) (sum_from (sum + part q) qs) (Err ScoreTooHigh)

left : (sum i before : ℕ) (qs : List ℕ)
    → cond (not (every_from (λ _ _ q. leb q score_limit) i before qs)) (Err ScoreTooHigh) (Ok (sum + part_sum qs)) ≡ sum_from sum qs
unfolding every_from part_sum sum_from
left sum i before [] = ap Ok (add-zero sum)
left sum i before (q ∷ qs) = by_bool (leb q score_limit)
    (λ h. rw (h, ← add_assoc sum (part q) (part_sum qs)) (left (sum + part q) (suc i) q qs))
    (λ h. rw h)

pub sum-refused : (qs : List ℕ) → Holds (wrong_count qs) → sum_of qs ≡ Err WrongCount
unfolding sum_of
sum-refused qs h = rw (holds-true (wrong_count qs) h)

pub sum-starts : (qs : List ℕ) → Fails (wrong_count qs) → sum_of qs ≡ sum_from 0 qs
unfolding sum_of
sum-starts qs h = rw (fails-false (wrong_count qs) h) (rw zero-add at (left 0 0 0 qs))

pub sum-ends : (sum i : ℕ) (qs : List ℕ) → length qs ≤ i → sum_from sum (drop i qs) ≡ Ok sum
unfolding sum_from
sum-ends sum i qs h = rw (drop_of_length-le qs h)

-- The part of one score, or why it has none.
unfoldable pub part_of : ℕ → Result ℕ SumError
part_of q = cond (leb q score_limit) (Ok (part q)) (Err ScoreTooHigh)

-- What a sum, or why there is none, comes to with more scores.
abbrev onward : Result ℕ SumError → List ℕ → Result ℕ SumError
onward (Err e) rest = Err e
onward (Ok sum) rest = sum_from sum rest

after-first : (sum : ℕ) (first rest : List ℕ) → sum_from sum (first ++ rest) ≡ onward (sum_from sum first) rest
unfolding sum_from
after-first sum [] rest = refl
after-first sum (q ∷ qs) rest = by_bool (leb q score_limit)
    (λ h. rw h (after-first (sum + part q) qs rest))
    (λ h. rw h)

-- A sum of scores is at most 10^12 for each of them.
abbrev amount : Result ℕ SumError → ℕ
amount (Err _) = 0
amount (Ok total) = total

sum_bound : (sum : ℕ) (qs : List ℕ) → amount (sum_from sum qs) ≤ sum + length qs * 10 ^ 12
unfolding sum_from
sum_bound sum [] = omega arith
sum_bound sum (q ∷ qs) = by_bool (leb q score_limit)
    (λ h. rw h (omega (arith, part_small q, sum_bound (sum + part q) qs)))
    (λ h. rw h (omega arith))

-- One score after another.
module _ (sum i : ℕ) (qs : List ℕ) (l : i < length qs) where
  pub next-goes-on : (more : ℕ) → part_of (get_or qs i 0) ≡ Ok more → sum_from sum (drop i qs) ≡ sum_from (sum + more) (drop (i + 1) qs)
  unfolding sum_from part_of
  next-goes-on more e = rw (add-one i, drop-cons qs i 0 l) (by_bool (leb (get_or qs i 0) score_limit)
      (λ h. let is : Ok (part (get_or qs i 0)) ≡ Ok more = rw h at e in let same : part (get_or qs i 0) ≡ more = cc in rw (h, same))
      (λ h. let is : Err ScoreTooHigh ≡ Ok more = rw h at e in let z : ◌≡◌ {A = ℕ} 0 1 = cc in absurd (omega arith)))

  pub next-stops : (d : SumError) → part_of (get_or qs i 0) ≡ Err d → sum_from sum (drop i qs) ≡ Err d
  unfolding sum_from part_of
  next-stops d e = rw (drop-cons qs i 0 l) (by_bool (leb (get_or qs i 0) score_limit)
      (λ h. let is : Ok (part (get_or qs i 0)) ≡ Err d = rw h at e in let z : ◌≡◌ {A = ℕ} 0 1 = cc in absurd (omega arith))
      (λ h. rw h (rw h at e)))

pub part-bound : (q more : ℕ) → part_of q ≡ Ok more → more ≤ 10 ^ 12
unfolding part_of
part-bound q more e = by_bool (leb q score_limit)
    (λ h. let is : Ok (part q) ≡ Ok more = rw h at e in let same : part q ≡ more = cc in omega (arith, part_small q))
    (λ h. let is : Err ScoreTooHigh ≡ Ok more = rw h at e in let z : ◌≡◌ {A = ℕ} 0 1 = cc in absurd (omega arith))

-- A turn of several scores, the first of all that are left: what they add to the sum so far.
module _ (sum : ℕ) (qs first rest : List ℕ) (all : qs ≡ first ++ rest) where
  pub turn-goes-on : (more : ℕ) → sum_from sum first ≡ Ok more → sum_from sum qs ≡ sum_from more rest
  turn-goes-on more e = ap (sum_from sum) all ∙ after-first sum first rest ∙ rw e

  pub turn-stops : (d : SumError) → sum_from sum first ≡ Err d → sum_from sum qs ≡ Err d
  turn-stops d e = ap (sum_from sum) all ∙ after-first sum first rest ∙ rw e

pub turn-bound : (sum more : ℕ) (first : List ℕ) → sum_from sum first ≡ Ok more → more ≤ sum + length first * 10 ^ 12
turn-bound sum more first e = rw e at (sum_bound sum first)
