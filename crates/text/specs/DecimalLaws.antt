-- A numeral and its number determine each other; the length and the bytes of a numeral.
use Rattle.std.specs.Prelude.{ℕ, zero, suc, ◌+◌, ◌-◌, ◌*◌, ◌/◌, ◌%◌, ◌^◌, ◌<◌, ◌≤◌, ◌≡◌, refl, Bool, true, false, not, ◌&&◌, length, get_or, ltb, leb, eqb, Some, None}
use Rattle.std.proofs.Common.{arith, pow-suc, sym, ap, ◌∙◌, ⊎_elim, lt-ltb, le-leb, ne_eqb, leb-true}
use Rattle.std.proofs.Math.Decide.{dec_lt}
use Rattle.std.proofs.Math.Bool.{and-eq-true_iff}
use mathlib.Mathlib.Data.Bool.Basic.{dichotomy}
use mathlib.Core.List.{List, [], ◌∷◌, ◌++◌, foldl-append, append-nil, append_assoc}
use Rattle.std.proofs.lemmas.Bool.{eqb-false, not-true}
use Rattle.text.specs.Decimal.{decimal, is_digit, all_digits, starts, value_from, value, numeral_of}
use Rattle.text.specs.DigitLaws.{decimal-one, decimal-more, one-length, more-length, by_digits}

pub digit-range : (b : ℕ) → is_digit b ≡ true → (48 ≤ b) × (b ≤ 57)
unfolding is_digit
digit-range b h = let t = (and-eq-true_iff (leb 48 b) (leb b 57)).0 h in (leb-true 48 b t.0, leb-true b 57 t.1)

pub range-digit : (b : ℕ) → 48 ≤ b → b ≤ 57 → is_digit b ≡ true
unfolding is_digit
range-digit b l m = rw (le-leb 48 b l, le-leb b 57 m)

-- The value of a numeral.
pub value-decimal : (n : ℕ) → value (decimal n) ≡ n
unfolding value
value-decimal = by_digits (λ n. value (decimal n) ≡ n) one more
  where
    one : (n : ℕ) → n < 10 → value (decimal n) ≡ n
    one n l = rw (decimal-one n l) (omega arith)

    more : (n : ℕ) → 10 ≤ n → value (decimal (n / 10)) ≡ n / 10 → value (decimal n) ≡ n
    more n l h = rw (decimal-more n l, foldl-append, h) (omega arith)

-- The bytes of a numeral.
digits_append : (ds bs : List ℕ) → all_digits ds ≡ true → all_digits bs ≡ true → all_digits (ds ++ bs) ≡ true
unfolding all_digits
digits_append [] bs g h = h
digits_append (a ∷ ds) bs g h = let t = (and-eq-true_iff (is_digit a) (all_digits ds)).0 g in rw t.0 (digits_append ds bs t.1 h)

last-digit : (d : ℕ) → d < 10 → all_digits ((48 + d) ∷ []) ≡ true
unfolding all_digits
last-digit d l = rw (range-digit (48 + d) (omega arith) (omega arith))

pub all-decimal : (n : ℕ) → all_digits (decimal n) ≡ true
all-decimal = by_digits (λ n. all_digits (decimal n) ≡ true) one more
  where
    one : (n : ℕ) → n < 10 → all_digits (decimal n) ≡ true
    one n l = rw (decimal-one n l) (last-digit n l)

    more : (n : ℕ) → 10 ≤ n → all_digits (decimal (n / 10)) ≡ true → all_digits (decimal n) ≡ true
    more n l h = rw (decimal-more n l) (digits_append (decimal (n / 10)) ((48 + n % 10) ∷ []) h (last-digit (n % 10) (omega arith)))

digit_at : (bs : List ℕ) (i : ℕ) → all_digits bs ≡ true → i < length bs → is_digit (get_or bs i 0) ≡ true
unfolding all_digits
digit_at [] i h l = absurd (omega arith)
digit_at (b ∷ bs) zero h l = ((and-eq-true_iff (is_digit b) (all_digits bs)).0 h).0
digit_at (b ∷ bs) (suc i) h l = digit_at bs i ((and-eq-true_iff (is_digit b) (all_digits bs)).0 h).1 (omega arith)

pub decimal-bytes : (n i : ℕ) → i < length (decimal n) → (48 ≤ get_or (decimal n) i 0) × (get_or (decimal n) i 0 ≤ 57)
decimal-bytes n i l = digit-range (get_or (decimal n) i 0) (digit_at (decimal n) i (all-decimal n) l)

pub decimal_injective : (a b : ℕ) → decimal a ≡ decimal b → a ≡ b
decimal_injective a b e = sym (value-decimal a) ∙ ap value e ∙ value-decimal b

-- The length of a numeral.
pub decimal-length : (k n : ℕ) → 1 ≤ k → n < 10 ^ k → length (decimal n) ≤ k
decimal-length zero n p l = absurd (omega arith)
decimal-length (suc k) n p l = elim (dec_lt n 10) [
  | yes s ↦ omega (arith, one-length n s)
  | no m ↦ omega (arith, more-length n (omega arith), decimal-length k (n / 10) (positive k l (omega arith)) (omega (arith, l, pow-suc 10 k)))
]
  where
    positive : (k : ℕ) → n < 10 ^ suc k → 10 ≤ n → 1 ≤ k
    positive zero l m = absurd (omega arith)
    positive (suc k) l m = omega arith

pub decimal-length-20 : (n : ℕ) → n < 2 ^ 64 → length (decimal n) ≤ 20
decimal-length-20 n l = decimal-length 20 n (omega arith) (omega arith)

pub decimal-some : (n : ℕ) → 1 ≤ length (decimal n)
decimal-some n = elim (dec_lt n 10) [
  | yes s ↦ omega (arith, one-length n s)
  | no m ↦ omega (arith, more-length n (omega arith))
]

-- A numeral has no leading zero.
leads : List ℕ → Bool
leads [] = false
leads (b ∷ bs) = not (eqb b 48)

leads-append : (ds bs : List ℕ) → leads ds ≡ true → leads (ds ++ bs) ≡ true
unfolding leads
leads-append [] bs h = let z : ◌≡◌ {A = ℕ} 0 1 = cc in absurd (omega arith)
leads-append (a ∷ ds) bs h = h

leads-starts : (bs : List ℕ) → leads bs ≡ true → starts bs ≡ true
unfolding leads starts
leads-starts [] h = h
leads-starts (b ∷ []) h = refl
leads-starts (b ∷ c ∷ bs) h = h

leads-decimal : (n : ℕ) → 1 ≤ n → leads (decimal n) ≡ true
unfolding leads
leads-decimal = by_digits (λ n. 1 ≤ n → leads (decimal n) ≡ true) one more
  where
    one : (n : ℕ) → n < 10 → 1 ≤ n → leads (decimal n) ≡ true
    one n l p = rw (decimal-one n l, ne_eqb (48 + n) 48 (λ e. omega arith))

    more : (n : ℕ) → 10 ≤ n → (1 ≤ n / 10 → leads (decimal (n / 10)) ≡ true) → 1 ≤ n → leads (decimal n) ≡ true
    more n l h p = rw (decimal-more n l) (leads-append (decimal (n / 10)) ((48 + n % 10) ∷ []) (h (omega arith)))

starts-decimal : (n : ℕ) → starts (decimal n) ≡ true
unfolding starts
starts-decimal zero = rw (decimal-one 0 (omega arith))
starts-decimal (suc n) = leads-starts (decimal (suc n)) (leads-decimal (suc n) (omega arith))

pub parse-print : (n : ℕ) → n < 2 ^ 64 → numeral_of (decimal n) ≡ Some n
unfolding numeral_of
parse-print n l = rw (starts-decimal n, all-decimal n, value-decimal n, lt-ltb n (2 ^ 64) l)

-- Digits after a numeral that is not "0" make a numeral.
shift : (v b : ℕ) → 1 ≤ v → 48 ≤ b → b ≤ 57 → decimal v ++ b ∷ [] ≡ decimal (v * 10 + (b - 48))
shift v b p l m =
    let n : ℕ = v * 10 + (b - 48) in
    let q : n / 10 ≡ v = omega arith in
    let r : 48 + n % 10 ≡ b = omega arith in
    sym (decimal-more n (omega arith) ∙ ap (λ (k : ℕ). decimal k ++ (48 + n % 10) ∷ []) q ∙ ap (λ (k : ℕ). decimal v ++ k ∷ []) r)

more_of : (v : ℕ) (bs : List ℕ) → 1 ≤ v → all_digits bs ≡ true → decimal v ++ bs ≡ decimal (value_from v bs)
unfolding all_digits
more_of v [] p h = append-nil (decimal v)
more_of v (b ∷ bs) p h =
    let t = (and-eq-true_iff (is_digit b) (all_digits bs)).0 h in
    let r = digit-range b t.0 in
    sym (append_assoc (decimal v) (b ∷ []) bs)
    ∙ ap (λ (ds : List ℕ). ds ++ bs) (shift v b p r.0 r.1)
    ∙ more_of (v * 10 + (b - 48)) bs (omega arith) t.1

one_of : (b : ℕ) → is_digit b ≡ true → b ∷ [] ≡ decimal (b - 48)
one_of b h =
    let r = digit-range b h in
    let q : 48 + (b - 48) ≡ b = omega arith in
    sym (decimal-one (b - 48) (omega arith) ∙ ap (λ (k : ℕ). k ∷ []) q)

numeral-of : (bs : List ℕ) → starts bs ≡ true → all_digits bs ≡ true → bs ≡ decimal (value bs)
unfolding starts all_digits value
numeral-of [] s h = let z : ◌≡◌ {A = ℕ} 0 1 = cc in absurd (omega arith)
numeral-of (b ∷ []) s h = one_of b ((and-eq-true_iff (is_digit b) true).0 h).0 ∙ ap decimal (omega arith)
numeral-of (b ∷ c ∷ bs) s h =
    let t = (and-eq-true_iff (is_digit b) (all_digits (c ∷ bs))).0 h in
    let r = digit-range b t.0 in
    let n : b ≡ 48 → ⊥ = eqb-false b 48 (not-true (eqb b 48) s) in
    let q : 0 * 10 + (b - 48) ≡ b - 48 = omega arith in
    rw q (ap (λ (ds : List ℕ). ds ++ c ∷ bs) (one_of b t.0) ∙ more_of (b - 48) (c ∷ bs) (omega (arith, n)) t.1)

pub print-parse : (bs : List ℕ) (n : ℕ) → numeral_of bs ≡ Some n → bs ≡ decimal n
unfolding numeral_of
print-parse bs n e = ⊎_elim is-not is (dichotomy (starts bs && all_digits bs && ltb (value bs) (2 ^ 64)))
  where
    is : starts bs && all_digits bs && ltb (value bs) (2 ^ 64) ≡ true → bs ≡ decimal n
    is h =
        let t = (and-eq-true_iff (starts bs && all_digits bs) (ltb (value bs) (2 ^ 64))).0 h in
        let u = (and-eq-true_iff (starts bs) (all_digits bs)).0 t.0 in
        let f : Some (value bs) ≡ Some n = rw h at e in
        let q : value bs ≡ n = cc in
        numeral-of bs u.0 u.1 ∙ ap decimal q

    is-not : starts bs && all_digits bs && ltb (value bs) (2 ^ 64) ≡ false → bs ≡ decimal n
    is-not h = let f : None ≡ Some n = rw h at e in let z : ◌≡◌ {A = ℕ} 0 1 = cc in absurd (omega arith)
