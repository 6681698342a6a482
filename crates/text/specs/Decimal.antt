-- Decimal numerals as ASCII bytes: the numeral of a number, and the number that a numeral stands for.
use Rattle.std.specs.Prelude.{ℕ, zero, suc, ◌+◌, ◌-◌, ◌*◌, ◌/◌, ◌%◌, ◌^◌, Bool, true, false, not, cond, ◌&&◌, ltb, leb, eqb, Option, Some, None}
use mathlib.Core.List.{List, [], ◌∷◌, ◌++◌, foldl}

-- The digits of n, the most significant first. The fuel bounds the digits before the last: n itself is enough.
-- What the `let` binds waits for the test, so that a large fuel costs nothing.
unfoldable pub digits : ℕ → ℕ → List ℕ
digits zero n = (48 + n) ∷ []
digits (suc fuel) n = let all : List ℕ = digits fuel (n / 10) ++ (48 + n % 10) ∷ [] in cond (ltb n 10) ((48 + n) ∷ []) all

-- The numeral of n: no leading zeros, and zero is "0".
unfoldable pub decimal : ℕ → List ℕ
decimal n = digits n n

unfoldable pub is_digit : ℕ → Bool
is_digit b = leb 48 b && leb b 57

unfoldable pub all_digits : List ℕ → Bool
all_digits [] = true
all_digits (b ∷ bs) = is_digit b && all_digits bs

-- Not empty, and no zero before other bytes.
unfoldable pub starts : List ℕ → Bool
starts [] = false
starts (b ∷ []) = true
starts (b ∷ c ∷ bs) = not (eqb b 48)

-- The number that digits stand for, after those that stand for v.
abbrev pub value_from : ℕ → List ℕ → ℕ
value_from v bs = foldl (λ (w b : ℕ). w * 10 + (b - 48)) v bs

unfoldable pub value : List ℕ → ℕ
value bs = value_from 0 bs

-- The number, where the bytes are a numeral as `decimal` writes them and the number has at most 64 bits.
unfoldable pub numeral_of : List ℕ → Option ℕ
numeral_of bs = cond (starts bs && all_digits bs && ltb (value bs) (2 ^ 64)) (Some (value bs)) None
