-- The whole output of the run total: from the bytes of a session's input to the bytes that are printed.
use Rattle.std.specs.Prelude.{ℕ, List, [], ◌∷◌, ◌++◌, Result, Ok, Err}
use Rattle.text.specs.declared.lent.TextTooShort.{TextTooShort}
use Rattle.text.specs.Bytes.{bytes}
use Rattle.text.specs.Decimal.{decimal}
use Rattle.text.specs.Lent.{lent_answer, lent_text}
use Rattle.limits.specs.Limits.{run_total_limit}
use Rattle.chain.specs.Rights.{all_rights}
use Rattle.chain.specs.Operations.{Buffers, held, after_steps, fresh_buffers}
use Rattle.amounts.specs.Amounts.{pointed, fixed}
use Rattle.totals.specs.Totals.{SumAnswer}
use Rattle.totals.specs.declared.answer.RunTotal.{RunTotal}
use Rattle.totals.specs.Totals.{TotalAnswer}
use Rattle.totals.specs.Totals.{ledger_sum, total_of, run_total}
use Rattle.requests.specs.Lines.{Line}
use Rattle.requests.specs.Requests.{taken}
use Rattle.requests.specs.Opening.{session_capacity, opening, printed}

-- A ledger's line, with the twelve decimals of its sum.
unfoldable pub ledger_line : ℕ → ℕ → ℕ → List ℕ
ledger_line ledger count n =
    (bytes "ledger " ++ decimal ledger) ++ ((bytes " entries " ++ decimal count) ++ (bytes " sum " ++ (fixed 12 n ++ bytes "\n")))

-- The total's two lines: exact with twelve decimals, and rounded with three.
unfoldable pub total_line : ℕ → ℕ → List ℕ
total_line ones parts = bytes "total " ++ (pointed ones 12 parts ++ bytes "\n")

unfoldable pub rounded_line : ℕ → List ℕ
rounded_line thousandths = bytes "rounded " ++ (fixed 3 thousandths ++ bytes "\n")

unfoldable pub total_lines : RunTotal → List ℕ
total_lines t = total_line t.ones t.parts ++ rounded_line t.rounded

-- Those of a sum.
abbrev pub end_lines : ℕ → List ℕ
end_lines n = total_lines (total_of n)

-- What is printed of a ledger and of the run, by what their totals answer: nothing on a refusal.
abbrev pub line_of : ℕ → SumAnswer → List ℕ
line_of k (Ok s) = ledger_line k s.entries s.sum
line_of k (Err r) = []

abbrev pub end_of : TotalAnswer → List ℕ
end_of (Ok t) = total_lines t
end_of (Err r) = []

abbrev pub part_line : ℕ → Buffers → List ℕ
part_line k b = line_of k (ledger_sum k b)

unfoldable pub ledger_lines : List ℕ → Buffers → List ℕ
ledger_lines [] b = []
ledger_lines (k ∷ ks) b = part_line k b ++ ledger_lines ks b

-- A log: its listed ledgers in the order of the list, and their total.
unfoldable pub log_text : Buffers → List ℕ
log_text b = ledger_lines (held b).list b ++ end_of (run_total b)

-- A session of n clients, each with all its rights, on a fresh log, after all its lines.
abbrev pub session_total : ℕ → List Line → List ℕ
session_total n ls = log_text (after_steps (taken (all_rights n) ls) (fresh_buffers session_capacity n))

unfoldable pub output : List ℕ → List ℕ
output input = printed session_total (opening input)

-- The output in a lent text. A text below the limit is refused, whatever the input; no output is longer (Lengths).
abbrev pub output_answer : List ℕ → List ℕ → Result ℕ TextTooShort
output_answer input text = lent_answer run_total_limit (output input) text

abbrev pub output_text : List ℕ → List ℕ → List ℕ
output_text input text = lent_text run_total_limit (output input) text
