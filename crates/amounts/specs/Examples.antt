-- Ties and their neighbours, a carry into the whole part, and the largest total of a log.
use Rattle.std.specs.Prelude.{◌≡◌, refl}
use Rattle.text.specs.Bytes.{bytes}
use Rattle.text.specs.Decimal.{decimal, digits}
use Rattle.amounts.specs.Amounts.{padded, pointed, fixed}
use Rattle.amounts.specs.Rounding.{rounded}

below-tie : fixed 3 (rounded 1499999999) ≡ bytes "0.001"
unfolding fixed pointed padded decimal digits
below-tie = refl

tie : fixed 3 (rounded 1500000000) ≡ bytes "0.002"
unfolding fixed pointed padded decimal digits
tie = refl

carry : fixed 3 (rounded 9999500000000) ≡ bytes "10.000"
unfolding fixed pointed padded decimal digits
carry = refl

exact-zero : fixed 12 0 ≡ bytes "0.000000000000"
unfolding fixed pointed padded decimal digits
exact-zero = refl

-- 4,096 entries of 2^52 - 1.
largest-exact : fixed 12 18446744073709547520 ≡ bytes "18446744.073709547520"
unfolding fixed pointed padded decimal digits
largest-exact = refl

largest-rounded : fixed 3 (rounded 18446744073709547520) ≡ bytes "18446744.074"
unfolding fixed pointed padded decimal digits
largest-rounded = refl
