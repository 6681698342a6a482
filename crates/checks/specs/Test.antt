-- Tests of numbers as data: what a test computes, and what it says.
use Rattle.std.specs.Prelude.{ℕ, suc, ◌<◌, ◌≤◌, ◌≡◌, Bool, true, false, not, cond, ◌&&◌, ◌||◌, List, [], ◌∷◌, ◌⊎◌, length, get_or, ltb, leb, eqb}
use Rattle.fields.specs.Bit.{bit}

-- `every f ws` tests each word of ws, by its index, the word before it (0 before the first) and the word.
pub data Test : Type 0 where
  flag : Bool → Test
  same differ less at_most : ℕ → ℕ → Test
  both either implies : Test → Test → Test
  is_not : Test → Test
  every : (ℕ → ℕ → ℕ → Test) → List ℕ → Test

-- One pass over the words: looking each up by its index would make the test quadratic to compute.
unfoldable pub every_from : (ℕ → ℕ → ℕ → Bool) → ℕ → ℕ → List ℕ → Bool
every_from f i before [] = true
every_from f i before (w ∷ ws) = f i before w && every_from f (suc i) w ws

abbrev pub test : Test → Bool
test (flag b) = b
test (same a b) = eqb a b
test (differ a b) = not (eqb a b)
test (less a b) = ltb a b
test (at_most a b) = leb a b
test (both t u) = test t && test u
test (either t u) = test t || test u
test (implies t u) = cond (test t) (test u) true
test (is_not t) = not (test t)
test (every f ws) = every_from (λ i before w. test (f i before w)) 0 0 ws

-- What it says that a test is true, and that it is false.
abbrev pub Says : Test → Bool → Type 0
Says (flag b) true = bit b ≡ 1
Says (flag b) false = bit b ≡ 0
Says (same a b) true = a ≡ b
Says (same a b) false = a ≡ b → ⊥
Says (differ a b) true = a ≡ b → ⊥
Says (differ a b) false = a ≡ b
Says (less a b) true = a < b
Says (less a b) false = b ≤ a
Says (at_most a b) true = a ≤ b
Says (at_most a b) false = b < a
Says (both t u) true = Says t true × Says u true
Says (both t u) false = Says t true → Says u false
Says (either t u) true = Says t true ⊎ Says u true
Says (either t u) false = Says t false × Says u false
Says (implies t u) true = Says t true → Says u true
Says (implies t u) false = Says t true × Says u false
Says (is_not t) true = Says t false
Says (is_not t) false = Says t true
Says (every f ws) true = (i : ℕ) → i < length ws → Says (f i (get_or (0 ∷ ws) i 0) (get_or ws i 0)) true
Says (every f ws) false = ((i : ℕ) → i < length ws → Says (f i (get_or (0 ∷ ws) i 0) (get_or ws i 0)) true) → ⊥

abbrev pub Holds : Test → Type 0
Holds t = Says t true

abbrev pub Fails : Test → Type 0
Fails t = Says t false
