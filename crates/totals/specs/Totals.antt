-- Totals of a log in two buffers of any length and content: the sum of a ledger, and that of the whole run. Values are in parts of 10^-12.
use Rattle.std.specs.Prelude.{Result, ℕ, ◌/◌, ◌%◌, ◌^◌, List, [], length, Ok, Err}
use Rattle.checks.specs.Checks.{first}
use Rattle.chain.specs.Answers.{refusal_number, done, refused}
use Rattle.chain.specs.Operations.{Buffers, log_checks, read_ledger_checks, read_ledger_part, chain_reading}
use Rattle.chain.specs.Values.{sum_of}
use Rattle.amounts.specs.Rounding.{rounded}
use Rattle.chain.specs.declared.answer.Refusal.{Refusal}
use Rattle.totals.specs.declared.answer.LedgerSum.{LedgerSum}
use Rattle.totals.specs.declared.answer.RunTotal.{RunTotal}

-- The sum of a ledger: of the values of what read ledger hands back, and refused as that is.
abbrev pub summed : List ℕ → LedgerSum
summed words = record { entries = length words; sum = sum_of words }

-- The sum of a ledger, and the run total, or the refusal.
abbrev pub SumAnswer : Type 0
SumAnswer = Result LedgerSum Refusal

abbrev pub TotalAnswer : Type 0
TotalAnswer = Result RunTotal Refusal

unfoldable pub ledger_sum : ℕ → Buffers → SumAnswer
ledger_sum l b = first (read_ledger_checks l b) Err (Ok (summed (read_ledger_part l b)))

-- It as three numbers: done or the refusal, and the ledger's entries and the sum of their values, both 0 on a refusal.
abbrev pub sum_number : SumAnswer → ℕ
sum_number (Ok s) = done
sum_number (Err r) = refused (refusal_number r)

abbrev pub sum_entries : SumAnswer → ℕ
sum_entries (Ok s) = s.entries
sum_entries (Err r) = 0

abbrev pub sum_parts : SumAnswer → ℕ
sum_parts (Ok s) = s.sum
sum_parts (Err r) = 0

-- The sum of the run: of the values of the chain reading.
unfoldable pub run_sum : Buffers → ℕ
run_sum b = sum_of (chain_reading b)

-- A sum as ones of 10^12 parts and the parts that are left, which is exact however large it is; and rounded once, from the exact sum.
abbrev pub total_of : ℕ → RunTotal
total_of n = record { ones = n / 10 ^ 12; parts = n % 10 ^ 12; rounded = rounded n }

unfoldable pub run_total : Buffers → TotalAnswer
run_total b = first (log_checks b []) Err (Ok (total_of (run_sum b)))

-- It as four numbers: done or the refusal, and the sum in ones and parts and rounded, all 0 on a refusal.
abbrev pub total_number : TotalAnswer → ℕ
total_number (Ok t) = done
total_number (Err r) = refused (refusal_number r)

abbrev pub total_ones : TotalAnswer → ℕ
total_ones (Ok t) = t.ones
total_ones (Err r) = 0

abbrev pub total_parts : TotalAnswer → ℕ
total_parts (Ok t) = t.parts
total_parts (Err r) = 0

abbrev pub total_rounded : TotalAnswer → ℕ
total_rounded (Ok t) = t.rounded
total_rounded (Err r) = 0
