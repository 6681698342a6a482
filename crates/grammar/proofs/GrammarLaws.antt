-- A line read in the order of the code: the short line, the space, the letter and what comes after.
use Prim.Native.Nat.{ℕ, suc, ◌+◌, ◌-◌, ◌<◌, ◌≤◌}
use Prim.Native.Char.{code}
use native.Mathlib.Omega.{arith}
use Rattle.std.proofs.Math.Numerals.{add-one}
use Rattle.std.specs.Prelude.{◌≡◌, ◌==◌, refl, get_or, take, Option, Some, None, position}
use mathlib.Core.List.{List, []}
use Rattle.std.proofs.Math.ListN.{length, drop, drop_of_length-le, get_or-eq_default}
use Rattle.std.proofs.Common.{length-drop, take_all}
use borrow.Author.Tests.{ne_eqb}
use Rattle.text.specs.Decimal.{starts, numeral_of}
use Rattle.text.specs.Find.{index_of, place-some, place-none}
use Rattle.grammar.specs.Grammar.{Request, client_step, write_step, parse_write, parse_line}

-- The part of a slice from n on is all that is left.
rest : (n : ℕ) (bs : List ℕ) → take (length bs - n) (drop n bs) ≡ drop n bs
rest n bs = take_all (length bs - n) (drop n bs) (omega (arith, length-drop n bs))

no_value : (client : Option ℕ) → ◌≡◌ {A = Request} None (write_step client None)
no_value (Some c) = refl
no_value None = refl

nothing : numeral_of [] ≡ None
unfolding numeral_of starts
nothing = refl

-- The first space, as the code looks for it.
module _ (bs : List ℕ) where
  pub write-no-space : position (λ b. b == code " ") bs ≡ None → ◌≡◌ {A = Request} None (parse_write bs)
  unfolding parse_write
  write-no-space e =
      let none : drop (suc (index_of (code " ") bs)) bs ≡ [] =
      drop_of_length-le bs {i = suc (index_of (code " ") bs)} (omega (arith, place-none (code " ") bs e)) in
      rw (none, nothing) (no_value (numeral_of (take (index_of (code " ") bs) bs)))

  pub write-parts : (space : ℕ) → position (λ b. b == code " ") bs ≡ Some space → (client value : Option ℕ) → client ≡ numeral_of (take space bs)
      → value ≡ numeral_of (take (length bs - (space + 1)) (drop (space + 1) bs)) → write_step client value ≡ parse_write bs
  unfolding parse_write
  write-parts space e client value c v = rw (c, v, rest (space + 1) bs, add-one space, (place-some (code " ") bs space e).0)

module _ (bs : List ℕ) where
  pub line-short : length bs < 2 → ◌≡◌ {A = Request} None (parse_line bs)
  unfolding parse_line
  line-short l = let m : length bs ≤ 1 = omega arith in rw (get_or-eq_default bs 0 m)

  pub line-no-space : (get_or bs 1 0 ≡ code " " → ⊥) → ◌≡◌ {A = Request} None (parse_line bs)
  unfolding parse_line
  line-no-space n = rw (ne_eqb (get_or bs 1 0) (code " ") n)

  module _ (space : get_or bs 1 0 ≡ code " ") where
    pub line_write : get_or bs 0 0 ≡ code "W" → parse_write (take (length bs - 2) (drop 2 bs)) ≡ parse_line bs
    unfolding parse_line
    line_write w = rw (space, w, rest 2 bs)

    pub line-client : (get_or bs 0 0 ≡ code "W" → ⊥) → (client : Option ℕ) → client ≡ numeral_of (take (length bs - 2) (drop 2 bs))
        → client_step (get_or bs 0 0) client ≡ parse_line bs
    unfolding parse_line
    line-client n client c = rw (space, ne_eqb (get_or bs 0 0) (code "W") n, c, rest 2 bs)
