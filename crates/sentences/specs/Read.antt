-- A sentence read back: the step whose name begins it, " of client ", the client's numeral up to the colon, ": ", and the refusal whose reason is all that follows.
use Rattle.std.specs.Prelude.{ℕ, ◌+◌, Bool, cond, Option, Some, None, option_and_then, List, length, take, drop, leb}
use Rattle.std.specs.List.{position}
use Prim.Native.Char.{code}
use Rattle.text.specs.Bytes.{bytes}
use Rattle.text.specs.Decimal.{numeral_of}
use Rattle.text.specs.Find.{index_of}
use Rattle.text.specs.Phrase.{same_bytes}
use Rattle.sentences.specs.declared.answer.SentenceNumbers.{SentenceNumbers}
use Rattle.sentences.specs.Phrases.{step_names, reasons, step_name}
use Rattle.sentences.specs.Sentences.{last_client}

infixl 10 ◌>>=◌
abbrev ◌>>=◌ : {A B : Type 0} → Option A → (A → Option B) → Option B
o >>= f = option_and_then f o

-- A phrase begins a text; what follows it there.
unfoldable pub begins : List ℕ → List ℕ → Bool
begins bs phrase = same_bytes (take (length phrase) bs) phrase

unfoldable pub behind : List ℕ → List ℕ → Option (List ℕ)
behind phrase bs = cond (begins bs phrase) (Some (drop (length phrase) bs)) None

-- The client that a numeral names, if there may be one.
abbrev pub client_of : List ℕ → Option ℕ
client_of numeral = do
  client ← numeral_of numeral
  cond (leb client last_client) (Some client) None

-- What a text says that is exactly a sentence; nothing, where it is none.
abbrev pub SentenceRead : Type 0
SentenceRead = Option SentenceNumbers

abbrev pub says : ℕ → ℕ → ℕ → SentenceRead
says step client refusal = Some (record { step = step; client = client; refusal = refusal })

-- Of the phrases of a table the first counts that passes.
unfoldable pub read_sentence : List ℕ → SentenceRead
read_sentence bs = do
  step ← position (begins bs) step_names
  numeral ← behind (bytes " of client ") (drop (length (step_name step)) bs)
  client ← client_of (take (index_of (code ":") numeral) numeral)
  reason ← behind (bytes ": ") (drop (index_of (code ":") numeral) numeral)
  place ← position (same_bytes reason) reasons
  says step client (place + 1)

-- What is read as four numbers: 1 where the bytes are a sentence, its step, its client and its refusal; each 0 where they are none.
abbrev pub sentence_found : SentenceRead → ℕ
sentence_found (Some x) = 1
sentence_found None = 0

abbrev pub sentence_step : SentenceRead → ℕ
sentence_step (Some x) = x.step
sentence_step None = 0

abbrev pub sentence_client : SentenceRead → ℕ
sentence_client (Some x) = x.client
sentence_client None = 0

abbrev pub sentence_refusal : SentenceRead → ℕ
sentence_refusal (Some x) = x.refusal
sentence_refusal None = 0
