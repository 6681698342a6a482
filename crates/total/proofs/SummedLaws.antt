-- The log that a session leads to, and its totals.
use Rattle.std.specs.Prelude.{ℕ, ◌≤◌, ◌≡◌, List}
use Rattle.std.proofs.Common.{sym, ap, subst, ◌∙◌}
use Rattle.text.specs.Puts.{Puts, Room}
use Rattle.limits.specs.Limits.{client_limit}
use Rattle.chain.specs.Steps.{Step}
use Rattle.chain.specs.Operations.{Buffers, IsLog, after_steps, fresh_buffers}
use Rattle.chain.specs.LogPromise.{after, told}
use Rattle.totals.specs.TotalsPromise.{SumsHistory}
use Rattle.totals.specs.TotalsTheorem.{totals-show-history}
use Rattle.requests.specs.Opening.{session_capacity}
use Rattle.requests.specs.BeginningLaws.{blank, begun, left-by-fresh}
use Rattle.total.specs.Output.{log_text}

module _ (n : ℕ) (some : 1 ≤ n) (few : n ≤ client_limit) (xs : List Step) where
  pub sums : SumsHistory (after n blank xs) (told n blank xs)
  sums = totals-show-history.history n blank (begun n some few) xs

  abbrev b : Buffers
  b = after_steps xs (fresh_buffers session_capacity n)

  pub sums-session : SumsHistory b (told n blank xs)
  sums-session = subst (λ (d : Buffers). SumsHistory (after_steps xs d) (told n blank xs)) (left-by-fresh n some few) sums

  -- The log after the code has made it fresh and taken the steps.
  module _ {b₁ b₂ : Buffers} (is : b₁ ≡ fresh_buffers session_capacity n) (ran : b₂ ≡ after_steps xs b₁) where
    ran-from : b₂ ≡ b
    ran-from = ran ∙ ap (after_steps xs) is

    pub run-log : IsLog b₂
    run-log = subst IsLog (sym ran-from) sums-session.log

    pub run_room : {text : List ℕ} {from : ℕ} → Room text from (log_text b) → Room text from (log_text b₂)
    run_room {text} {from} h = subst (λ (d : Buffers). Room text from (log_text d)) (sym ran-from) h

    pub run-puts : {text after : List ℕ} {from end : ℕ} → Puts text from (log_text b₂) after end → Puts text from (log_text b) after end
    run-puts {text} {after} {from} {end} p = subst (λ (d : Buffers). Puts text from (log_text d) after end) ran-from p
