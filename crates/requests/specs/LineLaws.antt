-- The lines of an input, one after the other: what a loop that looks for byte 10 meets.
use Rattle.std.specs.Prelude.{ℕ, suc, ◌+◌, ◌-◌, ◌<◌, ◌≤◌, ◌≡◌, ◌==◌, refl, true, false, List, [], ◌∷◌, length, take, drop, eqb, ltb, position, Some, None}
use Rattle.std.proofs.Common.{arith, sym, ap, ◌∙◌, add-one, length-drop, drop-drop, drop_of_length-le, take_all, lt-ltb, le-ltb}
use Rattle.std.proofs.Math.Decide.{dec_lt}
use Rattle.checks.specs.TestLaws.{by_bool}
use Rattle.text.specs.Find.{index_of, place-some, place-none}
use Rattle.requests.specs.Lines.{Line, line, longer, lines}

less_both : (a b : ℕ) → ltb (suc a) (suc b) ≡ ltb a b
less_both a b = elim (dec_lt a b) [
  | yes x ↦ lt-ltb (suc a) (suc b) (omega arith) ∙ sym (lt-ltb a b x)
  | no x ↦ le-ltb (suc a) (suc b) (omega arith) ∙ sym (le-ltb a b (omega arith))
]

-- The first line of an input that is not empty.
pub first-line : (bs : List ℕ) → 1 ≤ length bs
    → lines bs ≡ line (take (index_of 10 bs) bs) (ltb (index_of 10 bs) (length bs)) ∷ lines (drop (suc (index_of 10 bs)) bs)
unfolding lines index_of longer
first-line [] h = absurd (omega arith)
first-line (b ∷ []) h = by_bool (eqb b 10) (λ t. rw t refl) (λ t. rw t refl)
first-line (b ∷ c ∷ bs) h = by_bool (eqb b 10)
    (λ t. rw (t, lt-ltb 0 (suc (suc (length bs))) (omega arith)) refl)
    (λ t. rw (t, less_both (index_of 10 (c ∷ bs)) (suc (length bs))) (ap (longer b) (first-line (c ∷ bs) (omega arith))))

-- No input has more lines than bytes.
longer-length : (b : ℕ) (ls : List Line) → length (longer b ls) ≤ suc (length ls)
unfolding longer
longer-length b [] = omega arith
longer-length b (l ∷ ls) = omega arith

pub few-lines : (bs : List ℕ) → length (lines bs) ≤ length bs
unfolding lines
few-lines [] = omega arith
few-lines (b ∷ bs) = let h : length (lines bs) ≤ length bs = few-lines bs in by_bool (eqb b 10)
    (λ t. rw t (omega (arith, h)))
    (λ t. rw t (omega (arith, h, longer-length b (lines bs))))

-- The line from a place on, by where it ends, and the lines after it.
pub next-line : (bs : List ℕ) (i end : ℕ) → i < length bs → end ≡ i + index_of 10 (drop i bs)
    → lines (drop i bs) ≡ line (take (end - i) (drop i bs)) (ltb end (length bs)) ∷ lines (drop (end + 1) bs)
next-line bs i end l e =
    let k : ℕ = index_of 10 (drop i bs) in
    let q : end - i ≡ k = omega (arith, e) in
    let r : i + suc k ≡ end + 1 = omega (arith, e) in
    first-line (drop i bs) (omega (arith, length-drop i bs))
    ∙ rw (q, drop-drop (suc k) i bs, r, ended k (omega (arith, e))) refl
  where
    ended : (k : ℕ) → end ≡ i + k → ltb k (length (drop i bs)) ≡ ltb end (length bs)
    ended k h = elim (dec_lt end (length bs)) [
      | yes x ↦ lt-ltb k (length (drop i bs)) (omega (arith, h, x, length-drop i bs)) ∙ sym (lt-ltb end (length bs) x)
      | no x ↦ le-ltb k (length (drop i bs)) (omega (arith, h, x, length-drop i bs)) ∙ sym (le-ltb end (length bs) (omega arith))
    ]

-- The first line, by the place of the byte that ends it, or as the last line.
module _ (bs : List ℕ) where
  pub line-ended : (end : ℕ) → position (λ b. b == 10) bs ≡ Some end → lines bs ≡ line (take end bs) true ∷ lines (drop (end + 1) bs)
  line-ended end e =
      let p = place-some 10 bs end e in
      let here : index_of 10 bs ≡ end = sym p.0 in
      rw (here, lt-ltb end (length bs) p.1, ← add-one end) at (first-line bs (omega (arith, p.1)))

  pub line-unended : 1 ≤ length bs → position (λ b. b == 10) bs ≡ None → lines bs ≡ line bs false ∷ lines []
  line-unended some e =
      let here : index_of 10 bs ≡ length bs = sym (place-none 10 bs e) in
      let none : drop (suc (length bs)) bs ≡ [] = drop_of_length-le bs {i = suc (length bs)} (omega arith) in
      let all : take (length bs) bs ≡ bs = take_all (length bs) bs (omega arith) in
      rw (here, le-ltb (length bs) (length bs) (omega arith), none, all) at (first-line bs some)

pub none-left : (bs : List ℕ) → length bs ≡ 0 → lines bs ≡ []
unfolding lines
none-left [] e = refl
none-left (b ∷ bs) e = absurd (omega arith)
