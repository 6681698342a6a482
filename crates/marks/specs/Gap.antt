-- A gap of two words closed: those behind it move up, and the last two are zero.
use Rattle.std.specs.Prelude.{ℕ, ◌+◌, ◌-◌, ◌≤◌, ◌≡◌, List, [], ◌∷◌, ◌++◌, length, take, drop, replicate}
use Rattle.std.specs.List.{copy_within}
use borrow.Rule.Slice.PartMut.{put_mid}
use Rattle.std.proofs.Common.{arith, ap, ◌∙◌, append_assoc, length-append, length-drop, length-take-le, take_all, take_at, drop_at, drop_of_length-le}
use Rattle.chain.specs.Marks.{marks_length}

unfoldable pub gap_closed : List ℕ → ℕ → List ℕ
gap_closed ms from = take from ms ++ (drop (from + 2) ms ++ (0 ∷ 0 ∷ []))

-- The words behind the gap moved up, and then the last two filled with zeros.
module _ (ms : List ℕ) (from : ℕ) (long : length ms ≡ marks_length) (within : from + 2 ≤ marks_length) where
  front : List ℕ
  front = take from ms ++ drop (from + 2) ms

  front-length : length front ≡ 62
  unfolding front
  front-length = omega (arith, length-append (take from ms) (drop (from + 2) ms), length-take-le from ms (omega arith), length-drop (from + 2) ms)

  moved-front : (past : ℕ) → past ≡ length ms → copy_within ms (from + 2) past from ≡ front ++ drop 62 ms
  unfolding front
  moved-front past e =
      let n : from + (past - (from + 2)) ≡ 62 = omega arith in
      rw (n, take_all (past - (from + 2)) (drop (from + 2) ms) (omega (arith, length-drop (from + 2) ms)))

  pub closed : (past : ℕ) → past ≡ length ms → {moved zeros : List ℕ} → moved ≡ copy_within ms (from + 2) past from
      → zeros ≡ replicate (length (take (length moved - 62) (drop 62 moved))) 0 → put_mid 62 (length moved - 62) moved zeros ≡ gap_closed ms from
  unfolding gap_closed front
  closed past e {moved} {zeros} m z =
      let is : moved ≡ front ++ drop 62 ms = m ∙ moved-front past e in
      let two : length (drop 62 ms) ≡ 2 = omega (arith, length-drop 62 ms) in
      let all : length moved ≡ 64 = omega (arith, ap length is, length-append front (drop 62 ms), front-length, two) in
      let behind : drop 62 moved ≡ drop 62 ms = rw is (drop_at front (drop 62 ms) 62 front-length) in
      let before : take 62 moved ≡ front = rw is (take_at front (drop 62 ms) 62 front-length) in
      let none : drop 2 (drop 62 ms) ≡ [] = drop_of_length-le (drop 62 ms) {i = 2} (omega (arith, two)) in
      let whole : take 2 (drop 62 ms) ≡ drop 62 ms = take_all 2 (drop 62 ms) (omega (arith, two)) in
      let count : length (take (length moved - 62) (drop 62 moved)) ≡ 2 = rw (all, behind, whole) two in
      let zs : zeros ≡ 0 ∷ 0 ∷ [] = z ∙ ap (λ (n : ℕ). replicate n 0) count in
      rw (zs, all, before, behind, none) (append_assoc (take from ms) (drop (from + 2) ms) (0 ∷ 0 ∷ []))
