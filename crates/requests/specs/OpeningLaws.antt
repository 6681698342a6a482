-- Every input opens in one of three ways, and which one it is.
use Prim.Native.Nat.{ℕ, ◌≤◌, ◌<◌}
use native.Mathlib.Omega.{arith}
use Rattle.std.specs.Prelude.{◌≡◌, refl, length, ltb, Option, Some, None}
use Rattle.std.proofs.Common.{ap, ◌∙◌}
use mathlib.Core.List.{List, [], ◌∷◌, ◌++◌}
use borrow.Author.Tests.{lt-ltb, le-ltb, ltb-false}
use Rattle.text.specs.Decimal.{decimal}
use Rattle.text.specs.DecimalLaws.{all-decimal}
use Rattle.checks.specs.TestLaws.{by_bool}
use Rattle.limits.specs.Limits.{client_limit, input_limit}
use Rattle.requests.specs.Lines.{Line, lines}
use Rattle.requests.specs.LineLaws.{first-line, few-lines}
use Rattle.requests.specs.Opening.{too_long, bad_start, begins, client_count, started, started_by, opening, printed}
use Rattle.requests.specs.FirstLineLaws.{first_line, few-clients, digits-line, counted, is-count, first_of, after_first, count-first}

pub opens-good : (n : ℕ) → 1 ≤ n → n ≤ client_limit → (rest : List ℕ) → length (first_line n ++ rest) ≤ input_limit
    → opening (first_line n ++ rest) ≡ begins n (lines rest)
unfolding opening started_by started
opens-good n some few rest h = rw (le-ltb input_limit (length (first_line n ++ rest)) h)
    (ap started_by (digits-line (decimal n) rest (all-decimal n))
    ∙ ap (λ (m : Option ℕ). started m (lines rest)) (counted n few ∙ is-count n some few))

no_start : (input : List ℕ) → ((n : ℕ) (rest : List ℕ) → 1 ≤ n → n ≤ client_limit → input ≡ first_line n ++ rest → ⊥)
    → started_by (lines input) ≡ bad_start
unfolding started_by started lines
no_start [] none = refl
no_start (b ∷ bs) none = ap started_by (first-line (b ∷ bs) (omega arith)) ∙ at (client_count (first_of (b ∷ bs))) refl
  where
    at : (m : Option ℕ) → client_count (first_of (b ∷ bs)) ≡ m → started m (lines (after_first (b ∷ bs))) ≡ bad_start
    at None e = refl
    at (Some n) e = let range = few-clients (first_of (b ∷ bs)) n e in
        absurd (none n (after_first (b ∷ bs)) range.0 range.1 (count-first (b ∷ bs) n e))

pub opens-bad : (input : List ℕ) → length input ≤ input_limit
    → ((n : ℕ) (rest : List ℕ) → 1 ≤ n → n ≤ client_limit → input ≡ first_line n ++ rest → ⊥) → opening input ≡ bad_start
unfolding opening
opens-bad input h none = rw (le-ltb input_limit (length input) h) (no_start input none)

pub opens-long : (input : List ℕ) → input_limit < length input → opening input ≡ too_long
unfolding opening
opens-long input h = rw (lt-ltb input_limit (length input) h)

-- A limit that every session's text keeps is kept by all that is printed.
module _ (session_text : ℕ → List Line → List ℕ) (limit : ℕ) (some : 10 ≤ limit)
    (keeps : (n : ℕ) (ls : List Line) → 1 ≤ n → n ≤ client_limit → length ls ≤ input_limit → length (session_text n ls) ≤ limit) where
  started-length : (m : Option ℕ) (ls : List Line) → ((n : ℕ) → m ≡ Some n → (1 ≤ n) × (n ≤ client_limit)) → length ls ≤ input_limit
      → length (printed session_text (started m ls)) ≤ limit
  unfolding started
  started-length None ls range h = omega arith
  started-length (Some n) ls range h = let r = range n refl in keeps n ls r.0 r.1 h

  started-by-length : (ls : List Line) → length ls ≤ input_limit → length (printed session_text (started_by ls)) ≤ limit
  unfolding started_by
  started-by-length [] h = omega arith
  started-by-length (l ∷ ls) h = started-length (client_count l) ls (few-clients l) (omega arith)

  pub printed-length : (input : List ℕ) → length (printed session_text (opening input)) ≤ limit
  unfolding opening
  printed-length input = by_bool (ltb input_limit (length input))
      (λ t. rw t (omega arith))
      (λ t. rw t (started-by-length (lines input) (omega (arith, few-lines input, ltb-false input_limit (length input) t))))
