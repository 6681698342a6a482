-- What the totals of a log promise: they are sums over the accepted writes. TotalsTheorem proves it.
use Rattle.std.specs.Prelude.{ℕ, ◌+◌, ◌-◌, ◌*◌, ◌^◌, ◌<◌, ◌≤◌, ◌≡◌, List, [], ◌∷◌, ◌⊎◌, length, get_or, Ok, Err}
use Rattle.records.specs.declared.entry.Entry.{Entry}
use Rattle.records.specs.Words.{ledger_number}
use Rattle.chain.specs.declared.answer.Refusal.TheVariants.{NotListed}
use Rattle.chain.specs.declared.answer.Answer.TheVariants.{Done}
use Rattle.chain.specs.Answers.{done, place_number}
use Rattle.chain.specs.Log.{of_ledger, entry_ledger}
use Rattle.chain.specs.Steps.{Step}
use Rattle.chain.specs.Operations.{Buffers, held, IsLog, fresh_answer, log_checks, read_ledger_checks, read_ledger_part, read_place_checks, ledger_at}
use Rattle.chain.specs.Journal.{Journal}
use Rattle.chain.specs.Values.{sum, sum_of, values}
use Rattle.chain.specs.LogPromise.{after, told, Listed}
use Rattle.chain.specs.OrderPromise.{Ordered}
use Rattle.totals.specs.Totals.{summed, ledger_sum, sum_number, run_sum, total_of, run_total, total_number}

-- The greatest sum of a ledger, and of a history: 4,096 values of 2^52 - 1. It is below 2^64.
abbrev pub greatest_sum : ℕ
greatest_sum = 4096 * (2 ^ 52 - 1)

-- The sums of some ledgers added up: of what read ledger hands back of each, and of the writes into each.
unfoldable pub parts_along : List ℕ → Buffers → ℕ
parts_along [] b = 0
parts_along (k ∷ ks) b = sum_of (read_ledger_part k b) + parts_along ks b

unfoldable pub writes_along : List ℕ → List Entry → ℕ
writes_along [] es = 0
writes_along (k ∷ ks) es = sum (values (of_ledger entry_ledger k es)) + writes_along ks es

-- Any well-formed log, also one that no history leads to.
pub record SumsLog (b : Buffers) : Type 0 where
  -- Place after place gives the list, and no other place is answered.
  pub place : (i : ℕ) → i < length (held b).list → ledger_at (i + 1) b ≡ Ok (ledger_number (get_or (held b).list i 0))
  pub no_place : (p : ℕ) → (p ≡ 0) ⊎ (length (held b).list < p) → ledger_at p b ≡ Err NotListed
  -- A listed ledger's sum is that of what read ledger hands back, and stays in 64 bits.
  pub ledger : (l : ℕ) → Listed (held b).list l → ledger_sum l b ≡ Ok (summed (read_ledger_part l b))
  pub no-ledger : (l : ℕ) → (Listed (held b).list l → ⊥) → ledger_sum l b ≡ Err NotListed
  pub few : (l : ℕ) → length (read_ledger_part l b) ≤ 4096
  pub small : (l : ℕ) → sum_of (read_ledger_part l b) ≤ greatest_sum
  -- The total is that of the listed ledgers. One that is listed twice counts twice.
  pub total : run_total b ≡ Ok (total_of (run_sum b))
  pub adds-up : parts_along (held b).list b ≡ run_sum b

-- The buffers after a history, and what its journal tells.
pub record SumsHistory (b : Buffers) (j : Journal) : Type 0 where
  -- They hold a log, so what is said of any log holds here.
  pub log : IsLog b
  pub place : (i : ℕ) → i < length j.listed → ledger_at (i + 1) b ≡ Ok (ledger_number (get_or j.listed i 0))
  pub no_place : (p : ℕ) → (p ≡ 0) ⊎ (length j.listed < p) → ledger_at p b ≡ Err NotListed
  -- A listed ledger's sum is that over the accepted writes into it.
  pub ledger : (l : ℕ) → Listed j.listed l
      → ledger_sum l b ≡ Ok (record { entries = length (of_ledger entry_ledger l j.accepted); sum = sum (values (of_ledger entry_ledger l j.accepted)) })
  pub no-ledger : (l : ℕ) → (Listed j.listed l → ⊥) → ledger_sum l b ≡ Err NotListed
  -- The total is the sum over the accepted writes, whatever the handovers; the ledgers' sums add up to it.
  pub total : run_total b ≡ Ok (total_of (sum (values j.accepted)))
  pub adds-up : writes_along j.listed j.accepted ≡ sum (values j.accepted)
  pub bounded : sum (values j.accepted) ≤ greatest_sum

pub record TotalsShowHistory : Type 0 where
  pub log : (b : Buffers) → IsLog b → SumsLog b
  pub history : (n : ℕ) (b : Buffers) → fresh_answer n b ≡ Done → (xs : List Step) → SumsHistory (after n b xs) (told n b xs)
  -- Ones and parts are the exact sum, whatever it is.
  pub exact : (n : ℕ) → ((total_of n).ones * 10 ^ 12 + (total_of n).parts ≡ n) × ((total_of n).parts < 10 ^ 12)
  -- The refusal numbers of the checks, in their order, on any buffers.
  pub place-order : (p : ℕ) (b : Buffers) → Ordered (1 ∷ 2 ∷ 15 ∷ []) (read_place_checks p b) done (place_number (ledger_at p b))
  pub sum-order : (l : ℕ) (b : Buffers) → Ordered (1 ∷ 2 ∷ 15 ∷ []) (read_ledger_checks l b) done (sum_number (ledger_sum l b))
  pub total-order : (b : Buffers) → Ordered (1 ∷ 2 ∷ []) (log_checks b []) done (total_number (run_total b))
