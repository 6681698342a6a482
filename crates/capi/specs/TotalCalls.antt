-- What the functions of the list and of the totals owe their callers, with the answer as one number and all others 0 on a refusal.
use Rattle.std.specs.Prelude.{ℕ, ◌≡◌}
use Rattle.chain.specs.Answers.{place_number, place_ledger}
use Rattle.chain.specs.Operations.{Buffers, ledger_at}
use Rattle.totals.specs.Totals.{ledger_sum, sum_number, sum_entries, sum_parts, run_total, total_number, total_ones, total_parts, total_rounded}

-- A list place: the ledger there.
pub record PlaceCall (p : ℕ) (b : Buffers) (answer ledger : ℕ) : Type 0 where
  pub answers : answer ≡ place_number (ledger_at p b)
  pub ledgers : ledger ≡ place_ledger (ledger_at p b)

-- A ledger: its entries, and the sum of their values.
pub record SumCall (l : ℕ) (b : Buffers) (answer entries sum : ℕ) : Type 0 where
  pub answers : answer ≡ sum_number (ledger_sum l b)
  pub counts : entries ≡ sum_entries (ledger_sum l b)
  pub sums-up : sum ≡ sum_parts (ledger_sum l b)

-- The run: its sum in ones and parts, and rounded.
pub record TotalCall (b : Buffers) (answer ones parts rounded : ℕ) : Type 0 where
  pub answers : answer ≡ total_number (run_total b)
  pub ones-are : ones ≡ total_ones (run_total b)
  pub parts_are : parts ≡ total_parts (run_total b)
  pub rounds : rounded ≡ total_rounded (run_total b)
