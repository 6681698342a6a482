-- The whole transcript of a session: from the bytes of its input to the bytes that are printed.
use Rattle.std.specs.Prelude.{ℕ, suc, List, [], ◌∷◌, ◌++◌, Result}
use Rattle.text.specs.declared.lent.TextTooShort.{TextTooShort}
use Rattle.text.specs.Lent.{lent_answer, lent_text}
use Rattle.limits.specs.Limits.{transcript_limit}
use Rattle.chain.specs.Rights.{all_rights}
use Rattle.chain.specs.Operations.{Buffers, fresh_buffers, chain_reading}
use Rattle.requests.specs.Lines.{Line}
use Rattle.requests.specs.Requests.{request_of, reply_to, after_request}
use Rattle.requests.specs.Opening.{session_capacity, opening, printed}
use Rattle.replies.specs.Replies.{reply_text, reply_line, chain_line}

-- The lines after the first, numbered from some number on, and then the chain.
unfoldable pub session : List ℕ → ℕ → List Line → Buffers → List ℕ
session rights number [] b = chain_line (chain_reading b)
session rights number (l ∷ ls) b =
    reply_line number (reply_text (reply_to rights (request_of l) b)) ++ session rights (suc number) ls (after_request rights (request_of l) b)

-- A session of n clients, each with all its rights, on a fresh log.
abbrev pub session_text : ℕ → List Line → List ℕ
session_text n ls = session (all_rights n) 1 ls (fresh_buffers session_capacity n)

unfoldable pub transcript : List ℕ → List ℕ
transcript input = printed session_text (opening input)

-- The transcript in a lent text. A text below the limit is refused, whatever the input; no transcript is longer (Lengths).
abbrev pub transcript_answer : List ℕ → List ℕ → Result ℕ TextTooShort
transcript_answer input text = lent_answer transcript_limit (transcript input) text

abbrev pub transcript_text : List ℕ → List ℕ → List ℕ
transcript_text input text = lent_text transcript_limit (transcript input) text
