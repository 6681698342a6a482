-- What the run total promises: it is the sum over the accepted writes of the session's history. TotalTheorem proves it.
use Rattle.std.specs.Prelude.{ℕ, ◌-◌, ◌*◌, ◌^◌, ◌<◌, ◌≤◌, ◌≡◌, List, [], ◌∷◌, ◌++◌, length}
use Rattle.text.specs.Bytes.{bytes}
use Rattle.records.specs.declared.entry.Entry.{Entry}
use Rattle.chain.specs.declared.answer.Answer.TheVariants.{Done}
use Rattle.chain.specs.Log.{of_ledger, entry_ledger}
use Rattle.chain.specs.Rights.{all_rights}
use Rattle.chain.specs.Operations.{step_answers, fresh_answer, after_fresh}
use Rattle.chain.specs.Journal.{start, journal}
use Rattle.chain.specs.Values.{sum, values}
use Rattle.chain.specs.LogPromise.{told}
use Rattle.totals.specs.TotalsPromise.{writes_along}
use Rattle.requests.specs.Lines.{Line, lines}
use Rattle.requests.specs.Requests.{taken}
use Rattle.requests.specs.FirstLineLaws.{first_line}
use Rattle.requests.specs.BeginningLaws.{blank}
use Rattle.total.specs.Output.{ledger_line, end_lines, output}

-- A line for each of some ledgers, from the writes into it.
unfoldable pub writes_lines : List ℕ → List Entry → List ℕ
writes_lines [] es = []
writes_lines (k ∷ ks) es =
    ledger_line k (length (of_ledger entry_ledger k es)) (sum (values (of_ledger entry_ledger k es))) ++ writes_lines ks es

-- What the journal of a session's history tells, which is computed from the steps and their answers alone.
abbrev pub listed : ℕ → List Line → List ℕ
listed n ls = (told n blank (taken (all_rights n) ls)).listed

abbrev pub accepted : ℕ → List Line → List Entry
accepted n ls = (journal (taken (all_rights n) ls) (step_answers (taken (all_rights n) ls) (after_fresh n blank)) start).accepted

-- A session of n clients, each with all its rights, and some lines after the first: the history is the steps of the good lines, from a done fresh on.
pub record ShowsTotal (n : ℕ) (ls : List Line) (printed : List ℕ) : Type 0 where
  pub begins : fresh_answer n blank ≡ Done
  -- The total is the sum over the accepted writes, whatever the handovers.
  pub prints : printed ≡ writes_lines (listed n ls) (accepted n ls) ++ end_lines (sum (values (accepted n ls)))
  -- The ledgers' sums add up to it.
  pub adds-up : writes_along (listed n ls) (accepted n ls) ≡ sum (values (accepted n ls))
  -- It is at most that of 4,096 writes of the largest value.
  pub bounded : sum (values (accepted n ls)) ≤ 4096 * (2 ^ 52 - 1)

-- Two outputs that end in the same total and the same rounded line.
pub record SameEnd (one other : List ℕ) (total : ℕ) : Type 0 where
  pub before-one : List ℕ
  pub before-other : List ℕ
  pub ends-one : one ≡ before-one ++ end_lines total
  pub ends-other : other ≡ before-other ++ end_lines total

-- Every input is of one of three kinds. Two sessions that accepted the same values print the same total, whoever led.
pub record TotalShowsHistory : Type 0 where
  pub good : (n : ℕ) (rest : List ℕ) → 1 ≤ n → n ≤ 16 → length (first_line n ++ rest) ≤ 16384
      → ShowsTotal n (lines rest) (output (first_line n ++ rest))
  pub bad-start : (input : List ℕ) → length input ≤ 16384
      → ((n : ℕ) (rest : List ℕ) → 1 ≤ n → n ≤ 16 → input ≡ first_line n ++ rest → ⊥)
      → output input ≡ bytes "bad start\n"
  pub too_long : (input : List ℕ) → 16384 < length input → output input ≡ bytes "too long\n"
  pub same : (n m : ℕ) (one other : List ℕ) → 1 ≤ n → n ≤ 16 → 1 ≤ m → m ≤ 16
      → length (first_line n ++ one) ≤ 16384 → length (first_line m ++ other) ≤ 16384
      → values (accepted n (lines one)) ≡ values (accepted m (lines other))
      → SameEnd (output (first_line n ++ one)) (output (first_line m ++ other)) (sum (values (accepted n (lines one))))
