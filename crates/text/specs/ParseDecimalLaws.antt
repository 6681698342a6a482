-- A numeral read digit by digit: what the loop over its bytes meets.
use Rattle.std.specs.Prelude.{ℕ, ◌+◌, ◌-◌, ◌*◌, ◌^◌, ◌<◌, ◌≤◌, ◌≡◌, refl, true, false, not, cond, ◌&&◌, List, [], ◌∷◌, length, get_or, drop, ltb, eqb, Option, Some, None}
use Rattle.std.proofs.Common.{arith, add-one, ◌∙◌, drop_of_length-le, drop-cons}
use Rattle.std.proofs.Math.Path.{sym}
use Rattle.std.proofs.Math.Bool.{and-false}
use borrow.Author.Tests.{lt-ltb, le-ltb}
use Rattle.std.specs.Char.{is_ascii_digit}
use Rattle.text.specs.Decimal.{is_digit, all_digits, starts, value_from, value, numeral_of}
use Rattle.text.specs.DecimalLaws.{digit-range}

-- The numeral that the bytes so far, whose value is v, make with the rest.
unfoldable pub number_from : ℕ → List ℕ → Option ℕ
number_from v bs = cond (all_digits bs && ltb (value_from v bs) (2 ^ 64)) (Some (value_from v bs)) None

pub number-start : (bs : List ℕ) → starts bs ≡ true → numeral_of bs ≡ number_from 0 bs
unfolding numeral_of number_from value
number-start bs h = rw h

pub number-not : (bs : List ℕ) → starts bs ≡ false → None ≡ numeral_of bs
unfolding numeral_of
number-not bs h = rw h

-- The value grows with each digit.
grows : (v : ℕ) (bs : List ℕ) → v ≤ value_from v bs
grows v [] = omega arith
grows v (b ∷ bs) = omega (arith, grows (v * 10 + (b - 48)) bs)

large : (v : ℕ) (bs : List ℕ) → 2 ^ 64 ≤ v → number_from v bs ≡ None
unfolding number_from
large v bs l = let w : 2 ^ 64 ≤ value_from v bs = omega (arith, grows v bs) in
    rw (le-ltb (value_from v bs) (2 ^ 64) w) (rw (and-false (all_digits bs)))

cons-digit : (v b : ℕ) (bs : List ℕ) → is_digit b ≡ true → number_from v (b ∷ bs) ≡ number_from (v * 10 + (b - 48)) bs
unfolding number_from all_digits
cons-digit v b bs h = rw h

cons-other : (v b : ℕ) (bs : List ℕ) → is_digit b ≡ false → number_from v (b ∷ bs) ≡ None
unfolding number_from all_digits
cons-other v b bs h = rw h

module _ (bs : List ℕ) (whole : Option ℕ) (v i : ℕ) (so_far : whole ≡ number_from v (drop i bs)) where
  next : i < length bs → whole ≡ number_from v (get_or bs i 0 ∷ drop (i + 1) bs)
  next l = so_far ∙ rw (add-one i, drop-cons bs i 0 l)

  pub number-turn : i < length bs → is_digit (get_or bs i 0) ≡ true → whole ≡ number_from (v * 10 + (get_or bs i 0 - 48)) (drop (i + 1) bs)
  number-turn l h = next l ∙ cons-digit v (get_or bs i 0) (drop (i + 1) bs) h

  pub number-other : i < length bs → is_digit (get_or bs i 0) ≡ false → None ≡ whole
  number-other l h = sym (next l ∙ cons-other v (get_or bs i 0) (drop (i + 1) bs) h)

  pub number-large : i < length bs → is_digit (get_or bs i 0) ≡ true → 2 ^ 64 ≤ v * 10 + (get_or bs i 0 - 48) → None ≡ whole
  number-large l h m =
      let r = digit-range (get_or bs i 0) h in
      sym (number-turn l h ∙ large (v * 10 + (get_or bs i 0 - 48)) (drop (i + 1) bs) (omega arith))

  pub number-end : length bs ≤ i → v < 2 ^ 64 → Some v ≡ whole
  unfolding number_from all_digits
  number-end l m = sym (so_far ∙ rw (drop_of_length-le bs l, lt-ltb v (2 ^ 64) m))

-- The tests of one byte and of the first bytes.
pub digit-is : (b : ℕ) → is_digit b ≡ is_ascii_digit b
unfolding is_digit
digit-is b = refl

pub starts-short : (bs : List ℕ) → length bs < 2 → eqb (length bs) 1 ≡ starts bs
unfolding starts
starts-short [] l = refl
starts-short (b ∷ []) l = refl
starts-short (b ∷ c ∷ bs) l = absurd (omega arith)

pub starts-long : (bs : List ℕ) → 2 ≤ length bs → not (eqb (get_or bs 0 0) 48) ≡ starts bs
unfolding starts
starts-long [] l = absurd (omega arith)
starts-long (b ∷ []) l = absurd (omega arith)
starts-long (b ∷ c ∷ bs) l = refl
