-- What the test of rights meets: one word, and the loop over all of them.
use Rattle.std.specs.Prelude.{ℕ, ◌+◌, ◌<◌, ◌≤◌, ◌-◌, ◌/◌, ◌%◌, ◌^◌, ◌≡◌, Bool, true, ◌&&◌, ◌||◌, List, length, get_or, eqb, ltb, leb}
use Rattle.std.proofs.Common.{arith, sym, ◌∙◌, leb-true, leb-false, lt-ltb, le-ltb}
use Rattle.std.proofs.Math.Path.{ap}
use Rattle.checks.specs.Test.{test}
use Rattle.checks.specs.TestLaws.{by_bool}
use Rattle.chain.specs.Rights.{right_in, rights_word, rights_formed}
use Rattle.wellformed.specs.EveryLaws.{span, every-span, span-gather, span-gathered}

pub word-tested : (count client w : ℕ) → (eqb (w % 2 ^ 54) 0 && (ltb client count || eqb w 0)) ≡ test (rights_word count client w)
unfolding right_in
word-tested count client w = let low : w / 2 ^ 0 % 2 ^ 54 ≡ w % 2 ^ 54 = omega arith in rw low (by_bool (leb count client)
    (λ h. rw (h, le-ltb client count (leb-true count client h)))
    (λ h. rw (h, lt-ltb client count (leb-false count client h))))

-- The words from one index on.
unfoldable pub rights_from : ℕ → List ℕ → ℕ → Bool
rights_from count ws i = span (λ c _ w. test (rights_word count c w)) ws i (length ws - i)

pub all_words : (count : ℕ) (ws : List ℕ) → test (rights_formed count ws) ≡ (true && rights_from count ws 0)
unfolding rights_from
all_words count ws = every-span (λ c _ w. test (rights_word count c w)) ws ∙ ap (span (λ c _ w. test (rights_word count c w)) ws 0) (omega arith)

module _ (count : ℕ) (ws : List ℕ) (i : ℕ) (ok whole : Bool) (kept : whole ≡ (ok && rights_from count ws i)) where
  pub next_word : (fits : Bool) → i < length ws → fits ≡ test (rights_word count i (get_or ws i 0)) → whole ≡ (ok && fits && rights_from count ws (i + 1))
  unfolding rights_from
  next_word fits more is = span-gather (λ c _ w. test (rights_word count c w)) ws i (length ws) ok whole more kept
      ∙ ap (λ (b : Bool). ok && b && rights_from count ws (i + 1)) (sym is)

  pub no_words : length ws ≤ i → ok ≡ whole
  unfolding rights_from
  no_words past = span-gathered (λ c _ w. test (rights_word count c w)) ws i (length ws) ok whole past kept
