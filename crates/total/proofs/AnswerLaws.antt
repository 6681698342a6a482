-- What is put into the text of an answer: its lines, or nothing of a refusal.
use Rattle.std.specs.Prelude.{ℕ, ◌≡◌, refl, List, [], Ok, Err}
use Rattle.std.proofs.Common.{arith, sym, subst, ◌∙◌}
use Rattle.text.specs.Puts.{Puts, Room}
use Rattle.chain.specs.declared.answer.Refusal.{Refusal}
use Rattle.chain.specs.Operations.{Buffers}
use Rattle.totals.specs.declared.answer.LedgerSum.{LedgerSum}
use Rattle.totals.specs.Totals.{SumAnswer}
use Rattle.totals.specs.declared.answer.RunTotal.{RunTotal}
use Rattle.totals.specs.Totals.{TotalAnswer}
use Rattle.totals.specs.Totals.{ledger_sum, run_total}
use Rattle.total.specs.Output.{ledger_line, total_lines, line_of, end_of, part_line}

puts_none : (text : List ℕ) (at : ℕ) → Puts text at [] text at
puts_none text at = record { ends = omega arith; stored = refl }

-- A ledger.
module _ (k : ℕ) (b : Buffers) {a : SumAnswer} (is : a ≡ ledger_sum k b) {text : List ℕ} {at : ℕ} where
  module _ (s : LedgerSum) (told : a ≡ Ok s) where
    pub line-room : Room text at (part_line k b) → Room text at (ledger_line k s.entries s.sum)
    line-room = subst (λ (x : SumAnswer). Room text at (line_of k x)) (sym is ∙ told)

    pub line-puts : {text' : List ℕ} {at' : ℕ} → Puts text at (ledger_line k s.entries s.sum) text' at' → Puts text at (part_line k b) text' at'
    line-puts {text'} {at'} = subst (λ (x : SumAnswer). Puts text at (line_of k x) text' at') (sym told ∙ is)

  pub line-none : (r : Refusal) → a ≡ Err r → Puts text at (part_line k b) text at
  line-none r told = subst (λ (x : SumAnswer). Puts text at (line_of k x) text at) (sym told ∙ is) (puts_none text at)

-- The run.
module _ (b : Buffers) {a : TotalAnswer} (is : a ≡ run_total b) {text : List ℕ} {at : ℕ} where
  module _ (t : RunTotal) (told : a ≡ Ok t) where
    pub end-room : Room text at (end_of (run_total b)) → Room text at (total_lines t)
    end-room = subst (λ (x : TotalAnswer). Room text at (end_of x)) (sym is ∙ told)

    pub end-puts : {text' : List ℕ} {at' : ℕ} → Puts text at (total_lines t) text' at' → Puts text at (end_of (run_total b)) text' at'
    end-puts {text'} {at'} = subst (λ (x : TotalAnswer). Puts text at (end_of x) text' at') (sym told ∙ is)

  pub end_none : (r : Refusal) → a ≡ Err r → Puts text at (end_of (run_total b)) text at
  end_none r told = subst (λ (x : TotalAnswer). Puts text at (end_of x) text at) (sym told ∙ is) (puts_none text at)
