-- What is promised of rearranging and restoring. StorageTheorem proves it.
use Rattle.std.specs.Prelude.{◌≡◌, ℕ, ◌+◌, ◌-◌, ◌*◌, ◌/◌, ◌%◌, ◌^◌, ◌<◌, ◌≤◌, ◌⊎◌, ◌↔◌, List, [], length, ◌≢◌, slice_index}
use Rattle.chain.specs.Answers.{done, refused, answer_number}
use Rattle.storage.specs.Storage.{Below, minus, differences, storage_answer, bytes_after, words_after}

-- The lengths that are taken, by the counts of words and of bytes.
abbrev pub Taken : ℕ → ℕ → Type 0
Taken words bytes = (words ≤ 4096) × (bytes ≡ 8 * words)

-- Of any words and any lent bytes, and of any bytes and any lent words; what is lent of a number of some width is below its limit.
pub record GivesBack : Type 0 where
  -- Done is answered at these lengths, and 26 at all others, which leaves what was lent.
  pub is-done : (words bytes : ℕ) → (answer_number (storage_answer words bytes) ≡ done) ↔ Taken words bytes
  pub is-refused : (words bytes : ℕ) → (answer_number (storage_answer words bytes) ≡ refused 26) ↔ ((4096 < words) ⊎ (bytes ≢ 8 * words))
  pub bytes-stay : (ws bs : List ℕ) → (Taken (length ws) (length bs) → ⊥) → bytes_after ws bs ≡ bs
  pub words-stay : (bs ws : List ℕ) → (Taken (length ws) (length bs) → ⊥) → words_after bs ws ≡ ws
  -- Byte j, from the most significant, of the difference at index i stands at j × the count of words + i.
  pub first-difference : (ws : List ℕ) → slice_index (differences ws) 0 ≡ slice_index ws 0
  pub next-difference : (ws : List ℕ) (i : ℕ) → i + 1 < length ws → slice_index (differences ws) (i + 1) ≡ minus (slice_index ws (i + 1)) (slice_index ws i)
  pub byte_at : (ws bs : List ℕ) (i j : ℕ) → Taken (length ws) (length bs) → i < length ws → j < 8
      → slice_index (bytes_after ws bs) (j * length ws + i) ≡ slice_index (differences ws) i / 256 ^ (7 - j) % 256
  pub no_words : bytes_after [] [] ≡ []
  -- There and back: rearranged into some bytes and restored into some words, or the other way round.
  pub restores : (ws bs us : List ℕ) → Taken (length ws) (length bs) → length us ≡ length ws → Below (2 ^ 64) ws → words_after (bytes_after ws bs) us ≡ ws
  pub rearranges : (bs ws cs : List ℕ) → Taken (length ws) (length bs) → length cs ≡ length bs → Below 256 bs → bytes_after (words_after bs ws) cs ≡ bs
