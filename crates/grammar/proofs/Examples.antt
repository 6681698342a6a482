-- Some lines: the largest clients and values and one more, and bytes that are no line.
use Rattle.std.specs.Prelude.{◌≡◌, refl, [], ◌∷◌, Some, None}
use Rattle.text.specs.Bytes.{bytes}
use Rattle.text.specs.Decimal.{is_digit, all_digits, starts, value, numeral_of}
use Rattle.text.specs.Find.{index_of}
use Rattle.chain.specs.declared.kind.Kind.TheVariants.{Write, Finish, CloseOwn}
use Rattle.grammar.specs.Grammar.{with_client, letter_kind, parse_write, parse_line}

write : parse_line (bytes "W 3 4503599627370496") ≡ Some (record { client = 3; kind = Write; value = 4503599627370496 })
unfolding parse_line parse_write with_client index_of numeral_of starts all_digits is_digit value
write = refl

largest-value : parse_line (bytes "W 0 18446744073709551615") ≡ Some (record { client = 0; kind = Write; value = 18446744073709551615 })
unfolding parse_line parse_write with_client index_of numeral_of starts all_digits is_digit value
largest-value = refl

value-too-large : parse_line (bytes "W 0 18446744073709551616") ≡ None
unfolding parse_line parse_write with_client index_of numeral_of starts all_digits is_digit value
value-too-large = refl

no_value : parse_line (bytes "W 3") ≡ None
unfolding parse_line parse_write with_client index_of numeral_of starts all_digits is_digit value
no_value = refl

empty-value : parse_line (bytes "W 3 ") ≡ None
unfolding parse_line parse_write with_client index_of numeral_of starts all_digits is_digit value
empty-value = refl

space-at-end : parse_line (bytes "W 3 4 ") ≡ None
unfolding parse_line parse_write with_client index_of numeral_of starts all_digits is_digit value
space-at-end = refl

value-after-name : parse_line (bytes "N 1 2") ≡ None
unfolding parse_line numeral_of starts all_digits is_digit
value-after-name = refl

largest-client : parse_line (bytes "O 255") ≡ Some (record { client = 255; kind = CloseOwn; value = 0 })
unfolding parse_line with_client letter_kind numeral_of starts all_digits is_digit value
largest-client = refl

finish : parse_line (bytes "K 1") ≡ Some (record { client = 1; kind = Finish; value = 0 })
unfolding parse_line with_client letter_kind numeral_of starts all_digits is_digit value
finish = refl

client-too-large : parse_line (bytes "N 256") ≡ None
unfolding parse_line with_client letter_kind numeral_of starts all_digits is_digit value
client-too-large = refl

small-letter : parse_line (bytes "n 1") ≡ None
unfolding parse_line with_client letter_kind numeral_of starts all_digits is_digit value
small-letter = refl

leading-zero : parse_line (bytes "N 01") ≡ None
unfolding parse_line numeral_of starts
leading-zero = refl

two-spaces : parse_line (bytes "N  1") ≡ None
unfolding parse_line numeral_of starts all_digits is_digit
two-spaces = refl

-- N, a tab and 1.
tab : parse_line (78 ∷ 9 ∷ 49 ∷ []) ≡ None
unfolding parse_line
tab = refl

empty-line : parse_line (bytes "") ≡ None
unfolding parse_line
empty-line = refl
