-- How an input opens: too long, a bad start, or a client count and the lines after it.
use Rattle.std.specs.Prelude.{ℕ, cond, ◌&&◌, List, [], ◌∷◌, length, leb, ltb, Option, Some, None}
use Rattle.std.specs.Bool.{then_some}
use Rattle.limits.specs.Limits.{client_limit, large_capacity, input_limit}
use Rattle.text.specs.Bytes.{bytes}
use Rattle.text.specs.Decimal.{numeral_of}
use Rattle.requests.specs.Lines.{Line, lines}

-- The words of the entry buffer of a session's log.
abbrev pub session_capacity : ℕ
session_capacity = large_capacity

pub data Opening : Type 0 where
  too_long : Opening
  bad_start : Opening
  begins : ℕ → List Line → Opening

-- The first line is a client count from 1 to 16.
abbrev pub count_of : Option ℕ → Option ℕ
count_of (Some n) = then_some (ltb 0 n && leb n client_limit) n
count_of None = None

-- None is of a line that has none.
unfoldable pub client_count : Line → Option ℕ
client_count l = cond l.ended (count_of (numeral_of l.content)) None

unfoldable pub started : Option ℕ → List Line → Opening
started None ls = bad_start
started (Some n) ls = begins n ls

unfoldable pub started_by : List Line → Opening
started_by [] = bad_start
started_by (l ∷ ls) = started (client_count l) ls

unfoldable pub opening : List ℕ → Opening
opening input = cond (ltb input_limit (length input)) too_long (started_by (lines input))

-- All that is printed: of no session one line that says why, and of a session what its client count and lines come to.
abbrev pub printed : (ℕ → List Line → List ℕ) → Opening → List ℕ
printed session_text too_long = bytes "too long\n"
printed session_text bad_start = bytes "bad start\n"
printed session_text (begins n ls) = session_text n ls
