-- All rights in a buffer of any length, which are those of a step where it has 16 words; and the loop that makes them, word by word.
use Rattle.std.specs.Prelude.{ℕ, ◌+◌, ◌<◌, ◌≤◌, ◌≡◌, cond, List, [], ◌∷◌, ◌++◌, length, get_or, set, take, ltb}
use native.Mathlib.Omega.{arith}
use Rattle.std.proofs.Common.{add-one, sym, ap, ◌∙◌, take_all, take-suc, take-suc-set, ltb-true, ltb-false}
use Rattle.std.proofs.Math.ListN.{replicate, length-append, length-take, length-replicate}
use Rattle.std.proofs.Math.Seq.{get_or-take}
use Rattle.checks.specs.TestLaws.{by_bool}
use Rattle.chain.specs.Rights.{rights_length, every_right, all_rights}
use Rattle.chain.proofs.Laws.Fresh.{past, within}

-- The word of a client: all ten below the count, and else none.
abbrev pub word_for : ℕ → ℕ → ℕ
word_for count client = cond (ltb client count) every_right 0

unfoldable pub granted : ℕ → ℕ → List ℕ
granted count n = take n (replicate count every_right ++ replicate n 0)

-- What a step is lent.
pub granted-all : (count : ℕ) {n : ℕ} → n ≡ rights_length → granted count n ≡ all_rights count
unfolding granted all_rights
granted-all count e = rw e

module _ (count n : ℕ) where
  granted-length : length (granted count n) ≡ n
  unfolding granted
  granted-length = omega (
    arith,
    length-take n (replicate count every_right ++ replicate n 0),
    length-append (replicate count every_right) (replicate n 0),
    length-replicate {A = ℕ} n 0,
  )

  granted-word : (i : ℕ) → i < n → get_or (granted count n) i 0 ≡ word_for count i
  unfolding granted
  granted-word i l = get_or-take n (replicate count every_right ++ replicate n 0) i 0 l
      ∙ by_bool (ltb i count) (λ t. rw t (within count n every_right i (ltb-true i count t))) (λ f. rw f (past count n every_right i (ltb-false i count f)))

  -- The loop keeps: the words so far are granted.
  module _ (i : ℕ) (words : List ℕ) (long : length words ≡ n) (made : take i words ≡ take i (granted count n)) where
    pub made_more : (w : ℕ) → i < n → w ≡ word_for count i → take (i + 1) (set words i w) ≡ take (i + 1) (granted count n)
    made_more w h e = rw add-one (take-suc-set words i w (omega (arith, long))
        ∙ ap (λ (ws : List ℕ). ws ++ (w ∷ [])) made
        ∙ ap (λ (v : ℕ). take i (granted count n) ++ (v ∷ [])) (e ∙ sym (granted-word i h))
        ∙ sym (take-suc (granted count n) i 0 (omega (arith, granted-length))))

    pub made_all : n ≤ i → words ≡ granted count n
    made_all h = sym (take_all i words (omega (arith, long))) ∙ made ∙ take_all i (granted count n) (omega (arith, granted-length))
