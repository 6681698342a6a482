-- No transcript is longer than the limit.
use Rattle.std.specs.Prelude.{Some, None, ℕ, suc, ◌+◌, ◌*◌, ◌/◌, ◌%◌, ◌^◌, ◌<◌, ◌≤◌, ◌≡◌, refl, List, [], ◌∷◌, ◌++◌, map, length}
use Rattle.std.proofs.Common.{arith, length-append}
use Rattle.std.proofs.lemmas.List.{length-map}
use Rattle.text.specs.Bytes.{bytes}
use Rattle.text.specs.Decimal.{decimal}
use Rattle.text.specs.DecimalLaws.{decimal-length}
use Rattle.limits.specs.Limits.{client_limit, input_limit, transcript_limit}
use Rattle.chain.specs.declared.answer.Answer.{Answer}
use Rattle.chain.specs.declared.answer.Answer.TheVariants.{Done, WasClosed, Behind, Written, Refused}
use Rattle.chain.specs.Answers.{refusal_number}
use Rattle.chain.specs.Log.{along_list}
use Rattle.chain.specs.Steps.{Step}
use Rattle.chain.specs.Rights.{all_rights}
use Rattle.chain.specs.Operations.{Buffers, held, step_answer, after_steps, fresh_buffers, word_ledger, used_words, cleared, chain_reading}
use Rattle.chain.specs.NumberSizes.{NumbersBelow}
use Rattle.chain.proofs.Laws.Numbers.{step-numbers, refusal-range}
use Rattle.chain.proofs.Laws.Readings.{read_all}
use Rattle.dispatch.specs.Dispatch.{step_of}
use Rattle.grammar.specs.Grammar.{Request}
use Rattle.requests.specs.Lines.{Line}
use Rattle.requests.specs.Requests.{request_of, reply_to, after_request, taken, request-steps}
use Rattle.requests.specs.Opening.{session_capacity}
use Rattle.requests.specs.OpeningLaws.{printed-length}
use Rattle.requests.specs.BeginningLaws.{stays-good, reading-length}
use Rattle.replies.specs.Replies.{answer_text, reply_text, reply_line, entry_text, entries_text, chain_line}
use Rattle.session.specs.Owed.{Reads}
use Rattle.session.specs.Transcript.{session, session_text, transcript}

answer-length : (a : Answer) → NumbersBelow a → length (answer_text a) ≤ 21
answer-length Done h = omega arith
answer-length WasClosed h = omega arith
answer-length Behind h = omega arith
answer-length (Written n) h = omega (
  arith,
  length-append (bytes "entry " ++ decimal n.number.0) (bytes " place " ++ decimal n.place.0),
  decimal-length 4 n.number.0 (omega arith) (omega (arith, h.0)),
  decimal-length 4 n.place.0 (omega arith) (omega (arith, h.1)),
)
answer-length (Refused r) h = omega (
  arith,
  length-append (bytes "ref ") (decimal (refusal_number r)),
  decimal-length 2 (refusal_number r) (omega arith) (omega (arith, refusal-range r)),
)

reply-length : (rights : List ℕ) (r : Request) (b : Buffers) → length (reply_text (reply_to rights r b)) ≤ 21
reply-length rights (Some x) b = answer-length (step_answer (step_of rights x) b) (step-numbers (step_of rights x) b)
reply-length rights None b = omega arith

-- A numbered line has at most 28 bytes: five digits, two separators and the reply.
line-length : (number : ℕ) (reply : List ℕ) → number < 100000 → length reply ≤ 21 → length (reply_line number reply) ≤ 28
unfolding reply_line
line-length number reply h l = omega (
  arith,
  l,
  decimal-length 5 number (omega arith) h,
  length-append (decimal number) (bytes " " ++ (reply ++ bytes "\n")),
  length-append reply (bytes "\n"),
)

-- An entry has at most 20 bytes: two digits for the client, sixteen for the value, two separators.
entry_length : (word : ℕ) → word < 2 ^ 56 → length (entry_text word) ≤ 20
unfolding entry_text
entry_length word h = omega (
  arith,
  decimal-length 2 (word / 2 ^ 52) (omega arith) (omega arith),
  decimal-length 16 (word % 2 ^ 52) (omega arith) (omega arith),
  length-append (decimal (word / 2 ^ 52)) (bytes ":" ++ decimal (word % 2 ^ 52)),
)

entries-length : (words : List ℕ) → length (entries_text (map cleared words)) ≤ 20 * length words
unfolding entries_text cleared
entries-length [] = omega arith
entries-length (w ∷ words) = omega (
  arith,
  entry_length (cleared w) (omega arith),
  entries-length words,
  length-append (entry_text (cleared w)) (entries_text (map cleared words)),
)

chain_length : (b : Buffers) → length (chain_line (chain_reading b)) ≤ 20 * length (chain_reading b) + 6
unfolding chain_line chain_reading
chain_length b = let words : List ℕ = along_list word_ledger (held b).list (used_words b) in omega (
  arith,
  entries-length words,
  length-map words cleared,
  length-append (entries_text (map cleared words)) (bytes "\n"),
)

-- A session: its lines, and the chain of the log that they lead to.
no_steps : (b : Buffers) → after_steps [] b ≡ b
unfolding after_steps
no_steps b = refl

session-length : (rights : List ℕ) (ls : List Line) (number : ℕ) (b : Buffers) → number + length ls ≤ 100000
    → length (session rights number ls b) ≤ 28 * length ls + length (chain_line (chain_reading (after_steps (taken rights ls) b)))
unfolding session taken
session-length rights [] number b h = rw (no_steps b) (omega arith)
session-length rights (l ∷ ls) number b h =
    let r : Request = request_of l in
    let reply : List ℕ = reply_text (reply_to rights r b) in
    rw (request-steps rights r (taken rights ls) b) (omega (
      arith,
      length-append (reply_line number reply) (session rights (suc number) ls (after_request rights r b)),
      line-length number reply (omega arith) (reply-length rights r b),
      session-length rights ls (suc number) (after_request rights r b) (omega arith),
    ))

-- Read chain gives the whole reading of a log that a session leads to.
pub reads : (n : ℕ) → 1 ≤ n → n ≤ client_limit → (xs : List Step) (out : List ℕ) → session_capacity ≤ length out
    → Reads (after_steps xs (fresh_buffers session_capacity n)) out
reads n some few xs out h =
    let b : Buffers = after_steps xs (fresh_buffers session_capacity n) in
    let l : length (chain_reading b) ≤ length out = omega (arith, reading-length n some few xs) in
    let r = read_all b (stays-good n some few xs) out l in
    record { answers = r.0; output = r.1; fits = l }

session-limit : (n : ℕ) (ls : List Line) → 1 ≤ n → n ≤ client_limit → length ls ≤ input_limit → length (session_text n ls) ≤ transcript_limit
session-limit n ls some few h = omega (
  arith,
  session-length (all_rights n) ls 1 (fresh_buffers session_capacity n) (omega arith),
  chain_length (after_steps (taken (all_rights n) ls) (fresh_buffers session_capacity n)),
  reading-length n some few (taken (all_rights n) ls),
)

pub transcript-length : (input : List ℕ) → length (transcript input) ≤ transcript_limit
unfolding transcript
transcript-length = printed-length session_text transcript_limit (omega arith) session-limit
