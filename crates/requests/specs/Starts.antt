-- How the code finds out how an input opens.
use Prim.Native.Nat.{ℕ, ◌+◌, ◌-◌, ◌<◌, ◌≤◌}
use Rattle.std.proofs.Common.{arith, sym, subst, ◌∙◌, take_all, length-drop}
use Rattle.std.specs.Prelude.{◌≡◌, ◌==◌, true, List, [], ◌∷◌, length, take, drop, ltb, position, Option, Some, None, Result, Ok, Err, ok_or}
use Rattle.std.proofs.Math.Path.{refl, ap}
use borrow.Author.Tests.{lt-ltb, le-ltb, ltb-true}
use Rattle.text.specs.Bytes.{bytes}
use Rattle.text.specs.Find.{index_of, place-some, place-none}
use Rattle.checks.specs.TestLaws.{by_bool}
use Rattle.checks.specs.ResultLaws.{ok-err}
use Rattle.limits.specs.Limits.{client_limit, input_limit}
use Rattle.requests.specs.declared.start.Beginning.{Beginning}
use Rattle.requests.specs.declared.start.StartError.{StartError}
use Rattle.requests.specs.declared.start.StartError.TheVariants.{TooLong, BadStart}
use Rattle.requests.specs.Lines.{Line, line, lines}
use Rattle.requests.specs.LineLaws.{next-line}
use Rattle.requests.specs.Opening.{too_long, bad_start, begins, client_count, started, started_by, opening, printed}
use Rattle.requests.specs.FirstLineLaws.{few-clients, none-some}

-- A session: its client count, and the bytes of its lines.
pub record Begun (n : ℕ) (rest : List ℕ) : Type 0 where
  pub some : 1 ≤ n
  pub few : n ≤ client_limit
  pub small : length rest ≤ input_limit

-- The session that an input opens: its bytes are those of the input from a place on.
pub record Opened (input : List ℕ) (n : ℕ) (rest : List ℕ) : Type 0 where
  pub opens : opening input ≡ begins n (lines rest)
  pub begun : Begun n rest
  pub from : ℕ
  pub within : from ≤ length input
  pub left : rest ≡ drop from input
  pub small : length input ≤ input_limit

abbrev pub Start : Type 0
Start = Result Beginning StartError

abbrev pub Opens : List ℕ → Start → Type 0
Opens input (Err TooLong) = opening input ≡ too_long
Opens input (Err BadStart) = opening input ≡ bad_start
Opens input (Ok b) = Opened input b.clients b.lines.rest.now

-- What is printed of each: some words, and the byte that ends them.
abbrev pub error_words : StartError → List ℕ
error_words TooLong = bytes "too long"
error_words BadStart = bytes "bad start"

abbrev pub error_line : StartError → List ℕ
error_line TooLong = bytes "too long\n"
error_line BadStart = bytes "bad start\n"

module _ (session_text : ℕ → List Line → List ℕ) (input : List ℕ) (s : Start) (o : Opens input s) where
  pub prints-error : (e : StartError) → s ≡ Err e → printed session_text (opening input) ≡ error_line e
  prints-error TooLong is = ap (printed session_text) (subst (Opens input) is o)
  prints-error BadStart is = ap (printed session_text) (subst (Opens input) is o)

  module _ (b : Beginning) (is : s ≡ Ok b) where
    opened_by : Opened input b.clients b.lines.rest.now
    opened_by = subst (Opens input) is o

    pub begun : Begun b.clients b.lines.rest.now
    begun = opened_by.begun

    pub prints-session : printed session_text (opening input) ≡ session_text b.clients (lines b.lines.rest.now)
    prints-session = ap (printed session_text) opened_by.opens

-- The first line, by where it ends.
first-start : (input : List ℕ) (end : ℕ) → end ≡ 0 + index_of 10 input
    → started_by (lines input) ≡ started (client_count (line (take end input) (ltb end (length input)))) (lines (drop (end + 1) input))
unfolding started_by started lines client_count index_of
first-start [] end e = rw e
first-start (b ∷ bs) end e =
    let z : end - 0 ≡ end = omega arith in
    ap started_by (rw z at (next-line (b ∷ bs) 0 end (omega arith) e))

module _ (input : List ℕ) (small : length input ≤ input_limit) (end : ℕ) (ends : end ≡ 0 + index_of 10 input) (m : Option ℕ)
    (counted : m ≡ client_count (line (take end input) (ltb end (length input)))) where
  opened : opening input ≡ started m (lines (drop (end + 1) input))
  unfolding opening
  opened = rw (le-ltb input_limit (length input) small)
      (first-start input end ends ∙ ap (λ (k : Option ℕ). started k (lines (drop (end + 1) input))) (sym counted))

  pub bad-start : m ≡ None → opening input ≡ bad_start
  unfolding started
  bad-start z = opened ∙ ap (λ (k : Option ℕ). started k (lines (drop (end + 1) input))) z

  module _ (n : ℕ) (is : m ≡ Some n) where
    ended : end < length input
    unfolding client_count
    ended = by_bool (ltb end (length input))
        (λ t. ltb-true end (length input) t)
        (λ t. absurd (none-some n (sym (rw t at counted) ∙ is)))

    pub good_start : Opened input n (drop (end + 1) input)
    unfolding started
    good_start = let range = few-clients (line (take end input) (ltb end (length input))) n (sym counted ∙ is) in record {
      opens = opened ∙ ap (λ (k : Option ℕ). started k (lines (drop (end + 1) input))) is;
      begun = record { some = range.0; few = range.1; small = omega (arith, small, length-drop (end + 1) input) };
      from = end + 1;
      within = omega (arith, ended);
      left = refl;
      small = small;
    }

-- The same by the place of the byte that ends the line: without one there is no session.
module _ (input : List ℕ) (small : length input ≤ input_limit) where
  unended : (bs : List ℕ) → None ≡ client_count (line bs (ltb (length input) (length input)))
  unfolding client_count
  unended bs = rw (le-ltb (length input) (length input) (omega arith)) refl

  pub not-ended : position (λ b. b == 10) input ≡ None → opening input ≡ bad_start
  not-ended e = bad-start input small (length input) (omega (arith, place-none 10 input e)) None (unended (take (length input) input)) refl

  module _ (end : ℕ) (ends : position (λ b. b == 10) input ≡ Some end) (m : Option ℕ) (counted : m ≡ client_count (line (take end input) true)) where
    pub place : (end ≡ index_of 10 input) × (end < length input)
    place = place-some 10 input end ends

    told : m ≡ client_count (line (take end input) (ltb end (length input)))
    told = rw (lt-ltb end (length input) place.1) counted

    pub bad-count : m ≡ None → opening input ≡ bad_start
    bad-count = bad-start input small end (omega (arith, place.0)) m told

    pub good-count : (n : ℕ) (rest : List ℕ) → m ≡ Some n → rest ≡ take (length input - (end + 1)) (drop (end + 1) input) → Opened input n rest
    good-count n rest is e =
        let whole = take_all (length input - (end + 1)) (drop (end + 1) input) (omega (arith, length-drop (end + 1) input)) in
        subst (Opened input n) (sym (e ∙ whole)) (good_start input small end (omega (arith, place.0)) m told n is)

-- A count that was looked for, as its Result.
pub found-none : (m : Option ℕ) (r : Result ℕ StartError) (e : StartError) → r ≡ ok_or m BadStart → r ≡ Err e → (m ≡ None) × (e ≡ BadStart)
found-none None r e o is = let q : ◌≡◌ {A = Result ℕ StartError} (Err BadStart) (Err e) = cc in (refl, cc)
found-none (Some n) r e o is = absurd (ok-err n e (sym o ∙ is))

pub found-some : (m : Option ℕ) (r : Result ℕ StartError) (n : ℕ) → r ≡ ok_or m BadStart → r ≡ Ok n → m ≡ Some n
found-some None r n o is = absurd (ok-err n BadStart (sym is ∙ o))
found-some (Some k) r n o is = let q : ◌≡◌ {A = Result ℕ StartError} (Ok k) (Ok n) = cc in cc
