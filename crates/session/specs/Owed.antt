-- What the parts of a session's code owe: the replies to all lines, the chain at the end.
use Rattle.std.specs.Prelude.{ℕ, ◌≤◌, ◌≡◌, List, ◌++◌, length, drop, Ok}
use Rattle.text.specs.Puts.{Left}
use Rattle.chain.specs.Operations.{Buffers, after_steps, chain_reading, read_chain_answer, read_chain_output}
use Rattle.requests.specs.Lines.{Line}
use Rattle.requests.specs.Requests.{taken}
use Rattle.replies.specs.Replies.{chain_line}
use Rattle.session.specs.Transcript.{session}

-- The replies to some lines are in the text from a place on, and the chain line of the log that they lead to is left to be put.
pub record Ran (rights : List ℕ) (ls : List Line) (b : Buffers) (text : List ℕ) (from : ℕ) (b' : Buffers) (text' : List ℕ) (at : ℕ) : Type 0 where
  pub left : Left text from (session rights 1 ls b) text' at (chain_line (chain_reading b'))
  pub steps : b' ≡ after_steps (taken rights ls) b

-- Read chain gives the whole reading.
pub record Reads (b : Buffers) (out : List ℕ) : Type 0 where
  pub answers : read_chain_answer b out ≡ Ok (length (chain_reading b))
  pub output : read_chain_output b out ≡ chain_reading b ++ drop (length (chain_reading b)) out
  pub fits : length (chain_reading b) ≤ length out
