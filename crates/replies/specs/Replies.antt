-- The words of the session: an answer, a numbered line, the chain.
use Rattle.std.specs.Prelude.{ℕ, ◌/◌, ◌%◌, ◌^◌, List, [], ◌∷◌, ◌++◌, Some, None}
use Rattle.text.specs.Bytes.{bytes}
use Rattle.text.specs.Decimal.{decimal}
use Rattle.chain.specs.declared.answer.Position.{Position}
use Rattle.chain.specs.declared.answer.Answer.{Answer}
use Rattle.chain.specs.declared.answer.Answer.TheVariants.{Done, WasClosed, Behind, Written, Refused}
use Rattle.chain.specs.Answers.{refusal_number}
use Rattle.requests.specs.Requests.{Reply}

abbrev pub position_text : Position → List ℕ
position_text p = (bytes "entry " ++ decimal p.number.0) ++ (bytes " place " ++ decimal p.place.0)

abbrev pub answer_text : Answer → List ℕ
answer_text Done = bytes "ok"
answer_text WasClosed = bytes "was"
answer_text Behind = bytes "behind"
answer_text (Written p) = position_text p
answer_text (Refused r) = bytes "ref " ++ decimal (refusal_number r)

abbrev pub reply_text : Reply → List ℕ
reply_text (Some a) = answer_text a
reply_text None = bytes "bad line"

unfoldable pub reply_line : ℕ → List ℕ → List ℕ
reply_line number reply = decimal number ++ (bytes " " ++ (reply ++ bytes "\n"))

-- A word of the chain reading: client × 2^52 + value.
unfoldable pub entry_text : ℕ → List ℕ
entry_text word = bytes " " ++ (decimal (word / 2 ^ 52) ++ (bytes ":" ++ decimal (word % 2 ^ 52)))

unfoldable pub entries_text : List ℕ → List ℕ
entries_text [] = []
entries_text (word ∷ words) = entry_text word ++ entries_text words

unfoldable pub chain_line : List ℕ → List ℕ
chain_line words = bytes "chain" ++ (entries_text words ++ bytes "\n")
