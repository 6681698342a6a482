-- Some numerals: of zero, of 1205 and of the largest number of 64 bits; and bytes that are none.
use Rattle.std.specs.Prelude.{◌≡◌, refl, [], ◌∷◌, Some, None}
use Rattle.text.specs.Decimal.{digits, decimal, is_digit, all_digits, starts, value, numeral_of}

zero-decimal : decimal 0 ≡ 48 ∷ []
unfolding decimal digits
zero-decimal = refl

some-decimal : decimal 1205 ≡ 49 ∷ 50 ∷ 48 ∷ 53 ∷ []
unfolding decimal digits
some-decimal = refl

largest-decimal : decimal 18446744073709551615
    ≡ 49 ∷ 56 ∷ 52 ∷ 52 ∷ 54 ∷ 55 ∷ 52 ∷ 52 ∷ 48 ∷ 55 ∷ 51 ∷ 55 ∷ 48 ∷ 57 ∷ 53 ∷ 53 ∷ 49 ∷ 54 ∷ 49 ∷ 53 ∷ []
unfolding decimal digits
largest-decimal = refl

some_number : numeral_of (49 ∷ 50 ∷ 48 ∷ 53 ∷ []) ≡ Some 1205
unfolding numeral_of starts all_digits is_digit value
some_number = refl

zero_number : numeral_of (48 ∷ []) ≡ Some 0
unfolding numeral_of starts all_digits is_digit value
zero_number = refl

nothing : numeral_of [] ≡ None
unfolding numeral_of starts
nothing = refl

leading-zero : numeral_of (48 ∷ 55 ∷ []) ≡ None
unfolding numeral_of starts
leading-zero = refl

other_byte : numeral_of (55 ∷ 58 ∷ []) ≡ None
unfolding numeral_of starts all_digits is_digit
other_byte = refl

-- One more than the largest number of 64 bits.
too_large : numeral_of (49 ∷ 56 ∷ 52 ∷ 52 ∷ 54 ∷ 55 ∷ 52 ∷ 52 ∷ 48 ∷ 55 ∷ 51 ∷ 55 ∷ 48 ∷ 57 ∷ 53 ∷ 53 ∷ 49 ∷ 54 ∷ 49 ∷ 54 ∷ []) ≡ None
unfolding numeral_of starts all_digits is_digit value
too_large = refl
