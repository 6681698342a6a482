-- A text of at least the limit's length is not too short, and begins with all that is written.
use Rattle.std.specs.Prelude.{ℕ, ◌≤◌, ◌≡◌, Bool, true, false, List, ◌++◌, take, drop, Result, Ok, Err}
use Rattle.std.proofs.Common.{arith, ap, sym, ◌∙◌, le-ltb, take_all}
use Rattle.std.proofs.Math.ListN.{length}
use Rattle.std.proofs.lemmas.Bool.{false≢true}
use Rattle.std.proofs.lemmas.List.{take-append-le}
use Rattle.text.specs.declared.lent.TextTooShort.{TextTooShort}
use Rattle.text.specs.Lent.{lent_answer, lent_text}

is-short : Result ℕ TextTooShort → Bool
is-short (Ok _) = false
is-short (Err _) = true

count_of : Result ℕ TextTooShort → ℕ
count_of (Ok n) = n
count_of (Err _) = 0

module _ (limit : ℕ) (whole text : List ℕ) (long : limit ≤ length text) where
  answers : Ok (length whole) ≡ lent_answer limit whole text
  unfolding lent_answer
  answers = rw (le-ltb (length text) limit long)

  writes : whole ++ drop (length whole) text ≡ lent_text limit whole text
  unfolding lent_text
  writes = rw (le-ltb (length text) limit long)

  pub not-short : (r : Result ℕ TextTooShort) → r ≡ lent_answer limit whole text → r ≡ Err (record {}) → ⊥
  unfolding is-short
  not-short r e k = false≢true (ap is-short (answers ∙ sym e ∙ k))

  counts : (r : Result ℕ TextTooShort) (n : ℕ) → r ≡ lent_answer limit whole text → r ≡ Ok n → n ≡ length whole
  unfolding count_of
  counts r n e k = ap count_of (sym k ∙ e ∙ sym answers)

  pub all-taken : (r : Result ℕ TextTooShort) (n : ℕ) (after : List ℕ) → r ≡ lent_answer limit whole text → r ≡ Ok n
      → after ≡ lent_text limit whole text → take n after ≡ whole
  all-taken r n after e k t =
      let count : n ≡ length whole = counts r n e k in
      ap (take n) (t ∙ sym writes) ∙ take-append-le n whole (drop (length whole) text) (omega (arith, count))
      ∙ take_all n whole (omega (arith, count))
