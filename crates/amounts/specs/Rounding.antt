-- An amount in parts of 10^-12, rounded to thousandths: half up.
use Rattle.std.specs.Prelude.{ℕ, ◌+◌, ◌*◌, ◌/◌, ◌%◌, ◌^◌, ◌<◌, ◌≤◌, ◌≡◌}
use Rattle.std.proofs.Common.{arith}

abbrev pub rounded : ℕ → ℕ
rounded amount = (amount + 500000000) / 1000000000

-- It is off by at most half of a thousandth.
pub not-above : (amount : ℕ) → rounded amount * 1000000000 ≤ amount + 500000000
not-above amount = omega arith

pub not-below : (amount : ℕ) → amount ≤ rounded amount * 1000000000 + 500000000
not-below amount = omega arith

-- No other number of thousandths is nearer: one that is lower is off by half of a thousandth or more, and so is one that is higher.
pub lower-is-off : (amount other : ℕ) → other < rounded amount → other * 1000000000 + 500000000 ≤ amount
lower-is-off amount other l = omega arith

pub higher-is-off : (amount other : ℕ) → rounded amount < other → amount + 500000000 ≤ other * 1000000000
higher-is-off amount other l = omega arith

-- A tie goes up.
pub tie_up : (amount : ℕ) → amount % 1000000000 ≡ 500000000 → rounded amount ≡ amount / 1000000000 + 1
tie_up amount e = omega arith

-- Whole thousandths stay.
pub whole-stays : (thousandths : ℕ) → rounded (thousandths * 1000000000) ≡ thousandths
whole-stays thousandths = omega arith

pub rounded-small : (amount : ℕ) → amount < 2 ^ 64 → rounded amount < 10 ^ 11
rounded-small amount l = omega arith
