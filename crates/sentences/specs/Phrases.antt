-- The fixed phrases of a sentence: the name of each step and the reason of each refusal, in the order of their numbers.
use Rattle.std.specs.Prelude.{ℕ, List, [], ◌∷◌, length, get_or, map}
use Rattle.std.specs.Borrow.{Bor}
use Rattle.text.specs.Bytes.{bytes}
use Rattle.checks.specs.Test.{Test, same, at_most, both, either, every}

-- The names of steps 0 to 9.
unfoldable pub step_names : List (List ℕ)
step_names =
    bytes "name"
    ∷ bytes "become"
    ∷ bytes "abdicate"
    ∷ bytes "fetch"
    ∷ bytes "close last"
    ∷ bytes "finish"
    ∷ bytes "create"
    ∷ bytes "append"
    ∷ bytes "write"
    ∷ bytes "close own"
    ∷ []

-- The reasons of refusals 1 to 28.
unfoldable pub reasons : List (List ℕ)
reasons =
    bytes "a buffer has the wrong length"
    ∷ bytes "a buffer is not well formed"
    ∷ bytes "the client number is not below the client count"
    ∷ bytes "the client is the named leader"
    ∷ bytes "the client leads already"
    ∷ bytes "the client is not the named leader"
    ∷ bytes "the client does not lead"
    ∷ bytes "the client is at another stage"
    ∷ bytes "the client remembers what cannot be"
    ∷ bytes "no ledger number is left"
    ∷ bytes "the value has more than fifty two bits"
    ∷ bytes "another leader has fenced the ledger"
    ∷ bytes "the log is full"
    ∷ bytes "the ledger has no entry"
    ∷ bytes "the ledger is not in the list"
    ∷ bytes "the output buffer is shorter than the reading"
    ∷ bytes "the client count is not one to sixteen"
    ∷ bytes "there are no scores or more than four thousand"
    ∷ bytes "a score is above three hundred and seventy two"
    ∷ bytes "the window length is zero or too large"
    ∷ bytes "the name of the mark is taken or all zero"
    ∷ bytes "thirty two marks are kept already"
    ∷ bytes "no mark of this name is kept"
    ∷ bytes "the client lacks the right to this step"
    ∷ bytes "the step number is above nine"
    ∷ bytes "too many words or not eight bytes for each"
    ∷ bytes "the text buffer has fewer than ninety six bytes"
    ∷ bytes "there is no sentence for these numbers"
    ∷ []

-- The phrases of a table of the code.
abbrev pub texts : List (Bor (List ℕ)) → List (List ℕ)
texts table = map (λ phrase. phrase.now) table

-- Where there is no such step or refusal, its phrase is empty.
unfoldable pub step_name : ℕ → List ℕ
step_name step = get_or step_names step []

unfoldable pub reason : ℕ → List ℕ
reason refusal = get_or ([] ∷ reasons) refusal []

-- 1 to so many bytes, each a small letter or a space.
abbrev pub phrase_test : ℕ → List ℕ → Test
phrase_test longest bs =
    both (both (at_most 1 (length bs)) (at_most (length bs) longest)) (every (λ _ _ b. either (same b 32) (both (at_most 97 b) (at_most b 122))) bs)

abbrev pub longest_name : ℕ
longest_name = 10

abbrev pub longest_reason : ℕ
longest_reason = 64
