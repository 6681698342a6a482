-- The sentence of a refusal, what is answered of it, and every byte of the text buffer afterwards.
use Rattle.std.specs.Prelude.{ℕ, List, [], ◌∷◌, ◌++◌, length, drop, Result, Ok, Err}
use Rattle.text.specs.Bytes.{bytes}
use Rattle.text.specs.Decimal.{decimal}
use Rattle.checks.specs.Test.{Test, same, less, either}
use Rattle.checks.specs.Checks.{Check, ◌when◌, first}
use Rattle.chain.specs.declared.answer.Refusal.{Refusal}
use Rattle.chain.specs.declared.answer.Refusal.TheVariants.{TextTooShort, NoSentence}
use Rattle.chain.specs.Answers.{refusal_number, done, refused}
use Rattle.sentences.specs.Phrases.{step_name, reason}

unfoldable pub sentence : ℕ → ℕ → ℕ → List ℕ
sentence step client refusal = step_name step ++ (bytes " of client " ++ (decimal client ++ (bytes ": " ++ reason refusal)))

-- The fewest bytes that a text buffer has, whatever the sentence; the last step, client and refusal that sentences name.
abbrev pub fewest_bytes : ℕ
fewest_bytes = 96

abbrev pub last_step : ℕ
last_step = 9

abbrev pub last_client : ℕ
last_client = 255

abbrev pub last_refusal : ℕ
last_refusal = 28

-- There is no sentence for these numbers.
abbrev pub unsaid : ℕ → ℕ → ℕ → Test
unsaid step client refusal = either (either (less last_step step) (less last_client client)) (either (same refusal 0) (less last_refusal refusal))

abbrev pub sentence_checks : ℕ → ℕ → ℕ → List ℕ → List (Check Refusal)
sentence_checks step client refusal text = (TextTooShort when less (length text) fewest_bytes) ∷ (NoSentence when unsaid step client refusal) ∷ []

-- The sentence's length in bytes, or the refusal.
abbrev pub SentenceAnswer : Type 0
SentenceAnswer = Result ℕ Refusal

unfoldable pub sentence_answer : ℕ → ℕ → ℕ → List ℕ → SentenceAnswer
sentence_answer step client refusal text = first (sentence_checks step client refusal text) Err (Ok (length (sentence step client refusal)))

-- The sentence is at the beginning, and the bytes after it stay. A refusal leaves all of them.
unfoldable pub sentence_text : ℕ → ℕ → ℕ → List ℕ → List ℕ
sentence_text step client refusal text = first (sentence_checks step client refusal text) (λ _. text)
    (sentence step client refusal ++ drop (length (sentence step client refusal)) text)

-- The answer as two numbers: done or the refusal, and the sentence's length, 0 on a refusal.
abbrev pub sentence_number : SentenceAnswer → ℕ
sentence_number (Ok n) = done
sentence_number (Err r) = refused (refusal_number r)

abbrev pub sentence_length : SentenceAnswer → ℕ
sentence_length (Ok n) = n
sentence_length (Err r) = 0
