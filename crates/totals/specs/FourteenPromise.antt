-- 14 is withdrawn: it keeps its number, and no operation gives it, on any buffers. FourteenTheorem proves it.
use Rattle.std.specs.Prelude.{ℕ, ◌≡◌, List, Err}
use Rattle.chain.specs.declared.answer.Refusal.{Refusal}
use Rattle.chain.specs.declared.answer.Answer.TheVariants as answers
use Rattle.chain.specs.Answers.{refusal_number}
use Rattle.chain.specs.Steps.{Step}
use Rattle.chain.specs.Operations.{Buffers, step_answer, fresh_answer, read_ledger_answer, read_chain_answer, ledger_at}
use Rattle.chain.specs.Plans.{numbered_step, planned_answer}
use Rattle.chain.specs.Adviser.{adviser}
use Rattle.chain.specs.Windows.{first_window}
use Rattle.chain.specs.Marks.{set_answer, drop_answer, read_mark_answer}
use Rattle.totals.specs.Totals.{ledger_sum, run_total}

-- The refusal is none of number 14.
abbrev pub NotFourteen : Refusal → Type 0
NotFourteen r = refusal_number r ≡ 14 → ⊥

pub record FourteenIsWithdrawn : Type 0 where
  pub step : (x : Step) (b : Buffers) (r : Refusal) → step_answer x b ≡ answers.Refused r → NotFourteen r
  pub by_number : (rights : List ℕ) (number client value : ℕ) (b : Buffers) (r : Refusal)
      → planned_answer (numbered_step rights number client value) b ≡ answers.Refused r → NotFourteen r
  pub fresh : (n : ℕ) (b : Buffers) (r : Refusal) → fresh_answer n b ≡ answers.Refused r → NotFourteen r
  pub read-ledger : (l : ℕ) (b : Buffers) (r : Refusal) → read_ledger_answer l b ≡ answers.Refused r → NotFourteen r
  pub read-chain : (b : Buffers) (out : List ℕ) (r : Refusal) → read_chain_answer b out ≡ Err r → NotFourteen r
  pub adviser : (c : ℕ) (b : Buffers) (r : Refusal) → adviser c b ≡ Err r → NotFourteen r
  pub first-window : (n limit : ℕ) (b : Buffers) (r : Refusal) → first_window n limit b ≡ Err r → NotFourteen r
  pub set-mark : (name : ℕ) (b : Buffers) (ms : List ℕ) (r : Refusal) → set_answer name b ms ≡ answers.Refused r → NotFourteen r
  pub drop-mark : (name : ℕ) (b : Buffers) (ms : List ℕ) (r : Refusal) → drop_answer name b ms ≡ answers.Refused r → NotFourteen r
  pub read-mark : (name : ℕ) (b : Buffers) (ms out : List ℕ) (r : Refusal) → read_mark_answer name b ms out ≡ Err r → NotFourteen r
  pub ledger-at : (p : ℕ) (b : Buffers) (r : Refusal) → ledger_at p b ≡ Err r → NotFourteen r
  pub ledger-sum : (l : ℕ) (b : Buffers) (r : Refusal) → ledger_sum l b ≡ Err r → NotFourteen r
  pub run-total : (b : Buffers) (r : Refusal) → run_total b ≡ Err r → NotFourteen r
