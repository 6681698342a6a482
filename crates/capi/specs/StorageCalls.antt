-- What rearrange and restore owe their caller, with the answer as one number.
use Rattle.std.specs.Prelude.{ℕ, ◌≡◌, List, length}
use Rattle.std.proofs.Common.{sym, subst}
use Rattle.chain.specs.declared.answer.Answer.{Answer}
use Rattle.chain.specs.Answers.{answer_number}
use Rattle.chain.specs.NumberSizes.{NumbersBelow}
use Rattle.storage.specs.Storage.{storage_checks, storage_answer, bytes_after, words_after}
use Rattle.capi.specs.Calls.{numbers-none}

-- The answer, and everything that was lent afterwards.
pub record StorageCall (a : Answer) (after : List ℕ) (r : ℕ) (lent : List ℕ) : Type 0 where
  pub answers : r ≡ answer_number a
  pub contents : lent ≡ after

abbrev pub RearrangeCall : List ℕ → List ℕ → ℕ → List ℕ → Type 0
RearrangeCall ws bs = StorageCall (storage_answer (length ws) (length bs)) (bytes_after ws bs)

abbrev pub RestoreCall : List ℕ → List ℕ → ℕ → List ℕ → Type 0
RestoreCall bs ws = StorageCall (storage_answer (length ws) (length bs)) (words_after bs ws)

pub storage-small : (n m : ℕ) {a : Answer} → a ≡ storage_answer n m → NumbersBelow a
unfolding storage_answer
storage-small n m e = subst NumbersBelow (sym e) (numbers-none (storage_checks n m))
