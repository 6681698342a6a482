-- Amounts as text: their lengths, and their digits one after the other.
use Rattle.std.specs.Prelude.{ℕ, zero, suc, ◌+◌, ◌-◌, ◌/◌, ◌%◌, ◌^◌, ◌<◌, ◌≤◌, ◌≡◌, refl, List, ◌++◌, length}
use Rattle.std.proofs.Common.{arith, length-append}
use Rattle.text.specs.Bytes.{bytes}
use Rattle.text.specs.Decimal.{decimal}
use Rattle.text.specs.DecimalLaws.{decimal-length}
use Rattle.text.specs.DigitLaws.{one-length}
use Rattle.text.specs.Puts.{Puts}
use Rattle.amounts.specs.Amounts.{padded, pointed, fixed}
use Rattle.amounts.specs.Rounding.{rounded, rounded-small}

pub padded-length : (places n : ℕ) → length (padded places n) ≡ places
unfolding padded
padded-length zero n = omega arith
padded-length (suc places) n = omega (
  arith,
  padded-length places (n / 10),
  one-length (n % 10) (omega arith),
  length-append (padded places (n / 10)) (decimal (n % 10)),
)

fixed-length : (whole places n : ℕ) → length (decimal (n / 10 ^ places)) ≤ whole → length (fixed places n) ≤ whole + 1 + places
unfolding fixed pointed
fixed-length whole places n h = omega (
  arith,
  padded-length places (n % 10 ^ places),
  length-append (decimal (n / 10 ^ places)) (bytes "." ++ padded places (n % 10 ^ places)),
)

-- The whole part of a number of 64 bits has at most eight digits.
pub exact-length : (amount : ℕ) → amount < 2 ^ 64 → length (fixed 12 amount) ≤ 21
exact-length amount l = fixed-length 8 12 amount (decimal-length 8 (amount / 10 ^ 12) (omega arith) (omega arith))

pub rounded-length : (amount : ℕ) → amount < 2 ^ 64 → length (fixed 3 (rounded amount)) ≤ 12
rounded-length amount l =
    fixed-length 8 3 (rounded amount) (decimal-length 8 (rounded amount / 10 ^ 3) (omega arith) (omega (arith, rounded-small amount l)))

-- The digits put one after the other: none, or those before the last one and then that one.
pub no-digits : (places n : ℕ) → places ≡ 0 → (text : List ℕ) (at : ℕ) → Puts text at (padded places n) text at
unfolding padded
no-digits zero n e text at = record { ends = omega arith; stored = refl }
no-digits (suc places) n e text at = absurd (omega arith)

pub last-digit : (places n : ℕ) → (places ≡ 0 → ⊥) → padded places n ≡ padded (places - 1) (n / 10) ++ decimal (n % 10)
unfolding padded
last-digit zero n h = absurd (h refl)
last-digit (suc places) n h = let q : suc places - 1 ≡ places = omega arith in rw q refl

pub fixed-parts : (places n unit : ℕ) → unit ≡ 10 ^ places → fixed places n ≡ pointed (n / unit) places (n % unit)
unfolding fixed
fixed-parts places n unit e = rw e
