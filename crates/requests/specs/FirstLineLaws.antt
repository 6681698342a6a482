-- The first line of an input, and its client count.
use Rattle.std.specs.Prelude.{ℕ, suc, ◌&&◌, ◌<◌, ◌≤◌, ◌≡◌, refl, true, List, [], ◌∷◌, ◌++◌, length, take, drop, eqb, leb, ltb, Option, Some, None}
use Rattle.std.proofs.Common.{arith, ap, ◌∙◌, le-leb, leb-true, lt-ltb, ne_eqb, eqb-true, ltb-true}
use Rattle.std.proofs.Math.Bool.{and-eq-true_iff}
use Rattle.text.specs.Find.{index_of}
use Rattle.text.specs.Decimal.{decimal, numeral_of, is_digit, all_digits}
use Rattle.text.specs.DecimalLaws.{digit-range, parse-print, print-parse}
use Rattle.checks.specs.TestLaws.{by_bool}
use Rattle.limits.specs.Limits.{client_limit}
use Rattle.requests.specs.Lines.{Line, line, longer, lines}
use Rattle.requests.specs.Opening.{count_of, client_count}

-- A first line: a client count and byte 10.
abbrev pub first_line : ℕ → List ℕ
first_line n = decimal n ++ (10 ∷ [])

-- A numeral that is a client count, and the count's range.
record Counts (m : Option ℕ) (n : ℕ) : Type 0 where
  is : m ≡ Some n
  some : 1 ≤ n
  few : n ≤ client_limit

pub none-some : (n : ℕ) → ◌≡◌ {A = Option ℕ} None (Some n) → ⊥
none-some n e = let z : ◌≡◌ {A = ℕ} 0 1 = cc in omega arith

count-is : (m : Option ℕ) (n : ℕ) → count_of m ≡ Some n → Counts m n
count-is (Some k) n e = by_bool (ltb 0 k && leb k 16)
    (λ t. let told : ◌≡◌ {A = Option ℕ} (Some k) (Some n) = rw t at e in
    let both = (and-eq-true_iff (ltb 0 k) (leb k 16)).0 t in
    let same : k ≡ n = cc in
    record { is = told; some = omega (arith, ltb-true 0 k both.0); few = omega (arith, leb-true k 16 both.1) })
    (λ t. absurd (none-some n (rw t at e)))
count-is None n e = absurd (none-some n e)

pub few-clients : (l : Line) (n : ℕ) → client_count l ≡ Some n → (1 ≤ n) × (n ≤ client_limit)
unfolding client_count
few-clients l n e = by_bool l.ended
    (λ t. let c = count-is (numeral_of l.content) n (rw t at e) in (c.some, c.few))
    (λ t. absurd (none-some n (rw t at e)))

-- Digits and byte 10 are a first line.
pub digits-line : (ds rest : List ℕ) → all_digits ds ≡ true → lines ((ds ++ (10 ∷ [])) ++ rest) ≡ line ds true ∷ lines rest
unfolding lines longer all_digits
digits-line [] rest h = refl
digits-line (d ∷ ds) rest h =
    let t = (and-eq-true_iff (is_digit d) (all_digits ds)).0 h in
    rw (ne_eqb d 10 (λ e. omega (arith, digit-range d t.0)), digits-line ds rest t.1)

pub counted : (n : ℕ) → n ≤ client_limit → client_count (line (decimal n) true) ≡ count_of (Some n)
unfolding client_count
counted n few = rw (parse-print n (omega arith))

pub is-count : (n : ℕ) → 1 ≤ n → n ≤ client_limit → count_of (Some n) ≡ Some n
is-count n some few = rw (lt-ltb 0 n some, le-leb n 16 few)

-- An input as its first line and what follows, and a line with a client count as that count's numeral.
abbrev pub first_of : List ℕ → Line
first_of input = line (take (index_of 10 input) input) (ltb (index_of 10 input) (length input))

abbrev pub after_first : List ℕ → List ℕ
after_first input = drop (suc (index_of 10 input)) input

parted : (input : List ℕ) → index_of 10 input < length input → input ≡ (take (index_of 10 input) input ++ (10 ∷ [])) ++ after_first input
unfolding index_of
parted [] h = absurd (omega arith)
parted (b ∷ bs) h = by_bool (eqb b 10)
    (λ t. rw t (ap (λ (d : ℕ). d ∷ bs) (eqb-true b 10 t)))
    (λ t. rw t (ap (λ (ds : List ℕ). b ∷ ds) (parted bs (omega (arith, rw t at h)))))

pub count-first : (input : List ℕ) (n : ℕ) → client_count (first_of input) ≡ Some n → input ≡ first_line n ++ after_first input
unfolding client_count
count-first input n e = by_bool (ltb (index_of 10 input) (length input))
    (λ t. parted input (ltb-true (index_of 10 input) (length input) t)
    ∙ ap (λ (ds : List ℕ). (ds ++ (10 ∷ [])) ++ after_first input)
    (print-parse (take (index_of 10 input) input) n (count-is _ n (rw t at e)).is))
    (λ t. absurd (none-some n (rw t at e)))
