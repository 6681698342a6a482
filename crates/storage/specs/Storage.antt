-- Words rearranged for storage: their differences, the bytes of these in planes, and the way back.
use Rattle.std.specs.Prelude.{ℕ, zero, suc, ◌+◌, ◌-◌, ◌*◌, ◌/◌, ◌%◌, ◌^◌, ◌<◌, List, [], ◌∷◌, ◌++◌, map, length, drop, slice_index}
use Rattle.limits.specs.Limits.{rearrange_limit}
use Rattle.checks.specs.Test.{Test, less, differ, either}
use Rattle.checks.specs.Checks.{Check, ◌when◌, first}
use Rattle.chain.specs.declared.answer.Refusal.{Refusal}
use Rattle.chain.specs.declared.answer.Refusal.TheVariants.{StorageLength}
use Rattle.chain.specs.declared.answer.Answer.{Answer}
use Rattle.chain.specs.declared.answer.Answer.TheVariants.{Done, Refused}

-- All numbers of a list are below some number, as all words are below 2^64 and all bytes below 256.
abbrev pub Below : ℕ → List ℕ → Type 0
Below m xs = (i : ℕ) → i < length xs → slice_index xs i < m

-- Both wrap at 2^64.
abbrev pub minus : ℕ → ℕ → ℕ
minus a b = (a + (2 ^ 64 - b)) % 2 ^ 64

abbrev pub plus : ℕ → ℕ → ℕ
plus a b = (a + b) % 2 ^ 64

-- The difference of each word from the word before it, where some word stands before the first.
unfoldable pub differences_after : ℕ → List ℕ → List ℕ
differences_after before [] = []
differences_after before (w ∷ ws) = minus w before ∷ differences_after w ws

-- The first word stays as it is.
unfoldable pub differences : List ℕ → List ℕ
differences [] = []
differences (w ∷ ws) = w ∷ differences_after w ws

-- Byte number k of each number, where 0 is the least significant.
unfoldable pub plane : ℕ → List ℕ → List ℕ
plane k ds = map (λ d. d / 256 ^ k % 256) ds

-- The k least significant bytes of all numbers, in planes: all the most significant ones first.
unfoldable pub planes : ℕ → List ℕ → List ℕ
planes zero ds = []
planes (suc k) ds = plane k ds ++ planes k ds

unfoldable pub rearrangement : List ℕ → List ℕ
rearrangement ws = planes 8 (differences ws)

-- The way back: the number whose bytes stand at index i of k planes, each of n bytes.
unfoldable pub joined : ℕ → ℕ → ℕ → List ℕ → ℕ
joined zero n i bs = 0
joined (suc k) n i bs = slice_index bs i * 256 ^ k + joined k n i (drop n bs)

-- Such numbers of eight bytes, for m indices from i on.
unfoldable pub joined_from : ℕ → ℕ → ℕ → List ℕ → List ℕ
joined_from n i zero bs = []
joined_from n i (suc m) bs = joined 8 n i bs ∷ joined_from n (suc i) m bs

-- The sum of the differences up to each, and of what stands before the first.
unfoldable pub sums_after : ℕ → List ℕ → List ℕ
sums_after before [] = []
sums_after before (d ∷ ds) = plus before d ∷ sums_after (plus before d) ds

unfoldable pub restoration : ℕ → List ℕ → List ℕ
restoration n bs = sums_after 0 (joined_from n 0 n bs)

-- By the counts of words and of bytes.
abbrev pub wrong_length : ℕ → ℕ → Test
wrong_length words bytes = either (less rearrange_limit words) (differ bytes (8 * words))

abbrev pub storage_checks : ℕ → ℕ → List (Check Refusal)
storage_checks words bytes = (StorageLength when wrong_length words bytes) ∷ []

-- What both ways answer.
unfoldable pub storage_answer : ℕ → ℕ → Answer
storage_answer words bytes = first (storage_checks words bytes) Refused Done

-- Rearranging some words into some lent bytes leaves these bytes; restoring some bytes into some lent words leaves these words.
unfoldable pub bytes_after : List ℕ → List ℕ → List ℕ
bytes_after ws bs = first (storage_checks (length ws) (length bs)) (λ _. bs) (rearrangement ws)

unfoldable pub words_after : List ℕ → List ℕ → List ℕ
words_after bs ws = first (storage_checks (length ws) (length bs)) (λ _. ws) (restoration (length ws) bs)
