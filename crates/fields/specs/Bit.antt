-- A flag as a field of one bit.
use Rattle.std.specs.Prelude.{◌≡◌, refl, Bool, true, false, ℕ, zero, suc, ◌<◌, eqb}
use Rattle.std.proofs.Common.{arith}

abbrev pub bit : Bool → ℕ
bit true = 1
bit false = 0

pub bit-fits : (b : Bool) → bit b < 2
bit-fits true = omega arith
bit-fits false = omega arith

pub flag-bit : (b : Bool) → eqb (bit b) 1 ≡ b
flag-bit true = refl
flag-bit false = refl

pub bit-flag : (n : ℕ) → n < 2 → bit (eqb n 1) ≡ n
bit-flag zero h = refl
bit-flag (suc zero) h = refl
bit-flag (suc (suc n)) h = absurd (omega arith)

pub bit-true : (b : Bool) → bit b ≡ 1 → b ≡ true
bit-true true h = refl
bit-true false h = absurd (omega arith)

pub bit-false : (b : Bool) → bit b ≡ 0 → b ≡ false
bit-false true h = absurd (omega arith)
bit-false false h = refl
