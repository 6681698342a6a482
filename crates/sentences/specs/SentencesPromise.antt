-- What is promised of sentences: when there is one, its form and its length, that no two are alike, which bytes are written, and that reading is the inverse.
use Rattle.std.specs.Prelude.{ℕ, ◌<◌, ◌≤◌, ◌≡◌, List, ◌++◌, ◌↔◌, length, take, drop, Ok, Err, None}
use Rattle.text.specs.Bytes.{bytes}
use Rattle.text.specs.Decimal.{decimal}
use Rattle.checks.specs.Test.{Holds}
use Rattle.chain.specs.declared.answer.Refusal.{Refusal}
use Rattle.chain.specs.Answers.{refused}
use Rattle.sentences.specs.Phrases.{step_name, reason, phrase_test}
use Rattle.sentences.specs.Sentences.{sentence, sentence_answer, sentence_text, sentence_number}
use Rattle.sentences.specs.Read.{says, read_sentence}

-- The numbers of a step, of a client and of a refusal.
pub record Numbers (step client refusal : ℕ) : Type 0 where
  pub step-number : step ≤ 9
  pub client-number : client ≤ 255
  pub some-refusal : 1 ≤ refusal
  pub refusal-number : refusal ≤ 28

pub record SaysRefusals : Type 0 where
  -- The form: the step's name, " of client ", the number as `decimal` writes it, ": " and the reason, of 1 to 64 small letters and spaces.
  pub form : (s c r : ℕ) → sentence s c r ≡ step_name s ++ (bytes " of client " ++ (decimal c ++ (bytes ": " ++ reason r)))
  pub name : (s : ℕ) → s ≤ 9 → Holds (phrase_test 10 (step_name s))
  pub reason : (r : ℕ) → 1 ≤ r → r ≤ 28 → Holds (phrase_test 64 (reason r))
  -- Two sentences are equal exactly when their numbers are.
  pub equal : (s c r s' c' r' : ℕ) → Numbers s c r → Numbers s' c' r' → (sentence s c r ≡ sentence s' c' r') ↔ ((s ≡ s') × ((c ≡ c') × (r ≡ r')))
  pub fits : (s c r : ℕ) → Numbers s c r → length (sentence s c r) ≤ 90
  -- 27 on a short text buffer, whatever the numbers; then 28; and else the length, each on its condition and on no other.
  pub short : (s c r : ℕ) (text : List ℕ) → (sentence_number (sentence_answer s c r text) ≡ refused 27) ↔ (length text < 96)
  pub none : (s c r : ℕ) (text : List ℕ)
      → (sentence_number (sentence_answer s c r text) ≡ refused 28) ↔ ((96 ≤ length text) × (Numbers s c r → ⊥))
  pub long : (s c r : ℕ) (text : List ℕ) (n : ℕ)
      → (sentence_answer s c r text ≡ Ok n) ↔ ((96 ≤ length text) × (Numbers s c r × (n ≡ length (sentence s c r))))
  -- A refusal leaves every byte; else the sentence is written, and the bytes behind it stay.
  pub refused : (s c r : ℕ) (text : List ℕ) (q : Refusal) → sentence_answer s c r text ≡ Err q → sentence_text s c r text ≡ text
  pub written : (s c r : ℕ) (text : List ℕ) (n : ℕ) → sentence_answer s c r text ≡ Ok n → take n (sentence_text s c r text) ≡ sentence s c r
  pub rest-stays : (s c r : ℕ) (text : List ℕ) (n : ℕ) → sentence_answer s c r text ≡ Ok n → drop n (sentence_text s c r text) ≡ drop n text
  pub whole : (s c r : ℕ) (text : List ℕ) → length (sentence_text s c r text) ≡ length text

pub record ReadsSentences : Type 0 where
  -- Bytes say a step, a client and a refusal exactly where these have a sentence and the bytes are that sentence.
  pub reads : (s c r : ℕ) (bs : List ℕ) → (read_sentence bs ≡ says s c r) ↔ (Numbers s c r × (bs ≡ sentence s c r))
  -- They say nothing exactly where they are no sentence.
  pub other : (bs : List ℕ) → (read_sentence bs ≡ None) ↔ ((s c r : ℕ) → Numbers s c r → bs ≡ sentence s c r → ⊥)
  -- What was written is read back.
  pub back : (s c r : ℕ) (text : List ℕ) (n : ℕ) → sentence_answer s c r text ≡ Ok n → read_sentence (take n (sentence_text s c r text)) ≡ says s c r
