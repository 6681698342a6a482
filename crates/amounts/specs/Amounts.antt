-- An amount with a fixed number of decimals, as text.
use Rattle.std.specs.Prelude.{ℕ, zero, suc, ◌/◌, ◌%◌, ◌^◌, List, [], ◌++◌}
use Rattle.text.specs.Bytes.{bytes}
use Rattle.text.specs.Decimal.{decimal}

-- The last digits of a number, so many of them.
unfoldable pub padded : ℕ → ℕ → List ℕ
padded zero n = []
padded (suc places) n = padded places (n / 10) ++ decimal (n % 10)

-- The whole part without leading zeros, a point, and the decimals.
unfoldable pub pointed : ℕ → ℕ → ℕ → List ℕ
pointed ones places parts = decimal ones ++ (bytes "." ++ padded places parts)

-- n parts of 10^-places.
unfoldable pub fixed : ℕ → ℕ → List ℕ
fixed places n = pointed (n / 10 ^ places) places (n % 10 ^ places)
