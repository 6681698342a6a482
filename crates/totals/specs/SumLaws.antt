-- Sums of values as the code adds them up, and how many words a ledger has at most.
use Rattle.std.specs.Prelude.{ℕ, ◌+◌, ◌^◌, ◌<◌, ◌≤◌, ◌≡◌, refl, List, [], ◌∷◌, length, sum_by}
use Rattle.std.proofs.Common.{arith, ap, ◌∙◌, length-take}
use Rattle.std.proofs.lemmas.List.Sums.{sum_by-cons}
use Rattle.checks.specs.Checks.{Outcome, stops, goes, outcome}
use Rattle.chain.specs.Log.{of_ledger}
use Rattle.chain.specs.Buffers.{head}
use Rattle.chain.specs.Operations.{Buffers, word_ledger, used_words, read_ledger_checks, read_ledger_part}
use Rattle.chain.specs.Values.{sum, value_of, sum_of}
use Rattle.chain.proofs.Laws.Lists.{of-shorter}
use Rattle.chain.proofs.Laws.Values.{sum_bound}

-- The code's sum of the values.
pub sum-values : (ws : List ℕ) → sum_by value_of ws ≡ sum_of ws
unfolding sum
sum-values [] = refl
sum-values (w ∷ ws) = sum_by-cons value_of w ws ∙ ap (λ (n : ℕ). value_of w + n) (sum-values ws)

-- It stays in 64 bits.
pub sum-small : (ws : List ℕ) → length ws ≤ 4096 → sum_by value_of ws < 2 ^ 64
sum-small ws h = omega (arith, sum-values ws, sum_bound ws, h)

-- A part has no more words than the entry buffer.
pub part-within : (b : Buffers) (k : ℕ) → length (read_ledger_part k b) ≤ length b.entries
unfolding read_ledger_part
part-within b k = at (read_ledger_part k b) (outcome (read_ledger_checks k b) (λ _. []) (of_ledger word_ledger k (used_words b)))
  where
    at : (part : List ℕ) → Outcome (read_ledger_checks k b) (λ _. []) (of_ledger word_ledger k (used_words b)) part → length part ≤ length b.entries
    at part (stops r q) = rw q (omega arith)
    at part (goes p q) = rw q (omega (arith, of-shorter word_ledger k (used_words b), length-take (head b.state).entry_count b.entries))
