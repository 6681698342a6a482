-- The rule of a score's part, for every score; and that the sum of a list that is taken fits a value.
use Prim.Native.Nat.{ℕ, zero, suc, ◌*◌, ◌^◌, ◌≤◌, ◌<◌, zero-le}
use native.Mathlib.Omega.{arith}
use Rattle.std.proofs.Common.{le_trans, le_antisymm, not-le_of_lt, zero-mul, mul-le-mul_right, le-mul_of_pos_right, sym, ◌∙◌}
use Rattle.std.proofs.Math.Nat.{one-le-pow, pow-le-pow_left, pow-lt-pow_left}
use Rattle.std.specs.Prelude.{◌≡◌, refl, Bool, true, List, [], ◌∷◌, length, get_or, leb}
use Rattle.std.proofs.Math.Path.{subst}
use Rattle.std.proofs.Math.Bool.{false}
use Rattle.std.proofs.lemmas.Bool.{false≢true}
use borrow.Author.Tests.{le-leb, leb-true, leb-false}
use Rattle.checks.specs.Test.{Test, same, less, at_most, both, every, test, Holds, Fails}
use Rattle.checks.specs.TestLaws.{by_bool, true-holds}
use Rattle.limits.specs.Limits.{score_limit}
use Rattle.scores.specs.Scores.{within, largest, part, Table, part_sum, wrong_count}

module _ (p : ℕ → Bool) where
  largest-passes : p zero ≡ true → (n : ℕ) → p (largest p n) ≡ true
  unfolding largest
  largest-passes z zero = z
  largest-passes z (suc n) = by_bool (p (suc n)) (λ h. rw h h) (λ h. rw h (largest-passes z n))

  largest-small : (n : ℕ) → largest p n ≤ n
  unfolding largest
  largest-small zero = omega arith
  largest-small (suc n) = by_bool (p (suc n)) (λ h. rw h (omega arith)) (λ h. rw h (omega (arith, largest-small n)))

  largest-most : (n e : ℕ) → e ≤ n → p e ≡ true → e ≤ largest p n
  unfolding largest
  largest-most zero e l h = l
  largest-most (suc n) e l h = by_bool (p (suc n)) (λ k. rw k l) (λ k. rw k (largest-most n e (below k) h))
    where
      below : p (suc n) ≡ false → e ≤ n
      below k = by_bool (leb e n) (leb-true e n)
          (λ j. absurd (false≢true (sym k ∙ subst (λ (m : ℕ). p m ≡ true) (omega (arith, leb-false e n j)) h)))

-- What is within a score's error probability is at most a whole, which is 10^12 parts.
at-most-whole : (q e : ℕ) → e ^ 40 * 10 ^ q ≤ 10 ^ 480 → e ≤ 10 ^ 12
at-most-whole q e h = by_bool (leb e (10 ^ 12)) (leb-true e (10 ^ 12))
    (λ k. absurd (not-le_of_lt (pow-lt-pow_left (leb-false e (10 ^ 12) k) (λ z. omega arith)) (le_trans (le-mul_of_pos_right (e ^ 40) (one-le-pow q 10 (omega arith))) h)))

-- The part is within the error probability, and the largest number that is.
pub part-within : (q : ℕ) → part q ^ 40 * 10 ^ q ≤ 10 ^ 480
unfolding part
part-within q = leb-true _ _ (largest-passes (within q) (le-leb (0 ^ 40 * 10 ^ q) (10 ^ 480) (rw zero-mul zero-le)) (10 ^ 12))

pub part-largest : (q e : ℕ) → e ^ 40 * 10 ^ q ≤ 10 ^ 480 → e ≤ part q
unfolding part
part-largest q e h = largest-most (within q) (10 ^ 12) e (at-most-whole q e h) (le-leb _ _ h)

pub part_small : (q : ℕ) → part q ≤ 10 ^ 12
unfolding part
part_small q = largest-small (within q) (10 ^ 12)

-- That e is the part of score q, as a test that computes: e is within the error probability, and the next number is not.
abbrev pub is_part : ℕ → ℕ → Test
is_part q e = both (at_most (e ^ 40 * 10 ^ q) (10 ^ 480)) (less (10 ^ 480) (suc e ^ 40 * 10 ^ q))

pub part-is : (q e : ℕ) → Holds (is_part q e) → part q ≡ e
part-is q e h = le_antisymm (by_bool (leb (part q) e) (leb-true (part q) e) (λ k. absurd (not-le_of_lt h.1 (more k))))
    (part-largest q e h.0)
  where
    more : leb (part q) e ≡ false → suc e ^ 40 * 10 ^ q ≤ 10 ^ 480
    more k = le_trans (mul-le-mul_right (10 ^ q) (pow-le-pow_left (leb-false (part q) e k) 40)) (part-within q)

-- A list that passes this test, computed once over the whole of it, is a table of parts.
abbrev pub table_test : List ℕ → Test
table_test parts = both (same (length parts) (suc score_limit)) (every (λ q _ e. is_part q e) parts)

pub is-table : (parts : List ℕ) → test (table_test parts) ≡ true → Table parts
is-table parts t = record { carries = at }
  where
    at : (q : ℕ) → q ≤ score_limit → get_or parts q 0 ≡ part q
    at q h =
        let holds : Holds (table_test parts) = true-holds (table_test parts) t in
        let all : length parts ≡ suc score_limit = holds.0 in
        sym (part-is q (get_or parts q 0) (holds.1 q (omega arith)))

-- The parts that the reference names.
pub marked-parts : (part 0 ≡ 10 ^ 12) × ((part 40 ≡ 10 ^ 11) × (part 372 ≡ 501))
marked-parts =
    let at : (q e : ℕ) → test (is_part q e) ≡ true → part q ≡ e = λ q e t. part-is q e (true-holds (is_part q e) t) in
    (at 0 (10 ^ 12) refl, (at 40 (10 ^ 11) refl, at 372 501 refl))

pub sum-small : (qs : List ℕ) → part_sum qs ≤ length qs * 10 ^ 12
unfolding part_sum
sum-small [] = omega arith
sum-small (q ∷ qs) = omega (arith, part_small q, sum-small qs)

pub sum_fits : (qs : List ℕ) → Fails (wrong_count qs) → part_sum qs < 2 ^ 52
sum_fits qs h = omega (arith, sum-small qs)
