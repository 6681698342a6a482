-- A whole text put into lent bytes. Where these are fewer than a stated limit, they are refused and stay as they are.
use Rattle.std.specs.Prelude.{ℕ, ◌+◌, ◌<◌, ◌≤◌, ◌≡◌, cond, List, ◌++◌, take, drop, ltb, Result, Ok, Err}
use Rattle.std.proofs.Common.{arith, ap, ◌∙◌, lt-ltb, le-ltb}
use Rattle.std.proofs.Math.Logic.{⊎_elim}
use mathlib.Mathlib.Data.Bool.Basic.{dichotomy}
use Rattle.std.proofs.Math.ListN.{length}
use Rattle.std.proofs.Math.Seq.{sets-eq}
use Rattle.text.specs.declared.lent.TextTooShort.{TextTooShort}
use Rattle.text.specs.Puts.{Puts, Room}

unfoldable pub lent_answer : ℕ → List ℕ → List ℕ → Result ℕ TextTooShort
lent_answer limit whole text = cond (ltb (length text) limit) (Err (record {})) (Ok (length whole))

unfoldable pub lent_text : ℕ → List ℕ → List ℕ → List ℕ
lent_text limit whole text = cond (ltb (length text) limit) text (whole ++ drop (length whole) text)

module _ (limit : ℕ) (whole text : List ℕ) where
  pub too_short : length text < limit → (Err (record {}) ≡ lent_answer limit whole text) × (text ≡ lent_text limit whole text)
  unfolding lent_answer lent_text
  too_short h = (rw (lt-ltb (length text) limit h), rw (lt-ltb (length text) limit h))

  -- No text is longer than the limit.
  module _ (small : length whole ≤ limit) where
    pub room-for-all : limit ≤ length text → Room text 0 whole
    room-for-all h = record { fits = omega arith }

    pub printed : limit ≤ length text → (after : List ℕ) (n : ℕ) → Puts text 0 whole after n
        → (Ok n ≡ lent_answer limit whole text) × (after ≡ lent_text limit whole text)
    unfolding lent_answer lent_text
    printed h after n p = (
      rw (le-ltb (length text) limit h) (ap Ok count),
      rw (le-ltb (length text) limit h) (p.stored ∙ sets-eq whole text 0 (omega arith) ∙ front),
    )
      where
        count : n ≡ length whole
        count = omega (arith, p.ends)

        front : take 0 text ++ (whole ++ drop (0 + length whole) text) ≡ whole ++ drop (length whole) text
        front = let z : 0 + length whole ≡ length whole = omega arith in ap (λ (k : ℕ). whole ++ drop k text) z

    -- How many bytes an answer counts.
    abbrev bytes_of : Result ℕ TextTooShort → ℕ
    bytes_of (Ok n) = n
    bytes_of (Err _) = 0

    few_bytes : bytes_of (lent_answer limit whole text) ≤ limit
    unfolding lent_answer
    few_bytes = ⊎_elim (λ t. rw t small) (λ t. rw t (omega arith)) (dichotomy (ltb (length text) limit))

    pub within : (r : Result ℕ TextTooShort) (n : ℕ) → r ≡ lent_answer limit whole text → r ≡ Ok n → n ≤ limit
    within r n e k = omega (arith, few_bytes, ap bytes_of e, ap bytes_of k)
