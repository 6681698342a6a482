-- Setting, dropping and reading a mark, by the index of its pair.
use Rattle.std.specs.Prelude.{ℕ, zero, suc, ◌+◌, ◌*◌, ◌≡◌, refl, true, List, [], ◌∷◌, ◌++◌, map, eqb, length, get_or, set}
use Rattle.std.proofs.Common.{arith, ap}
use Rattle.std.proofs.lemmas.Bool.{false≢true}
use Rattle.checks.specs.TestLaws.{by_bool}
use Rattle.chain.specs.Marks.{Pair, pair, pairs_of, words_of, among, word_of, with_mark, without_mark}
use Rattle.marks.specs.Pairs.{pair_in, place_of}
use Rattle.marks.specs.Gap.{gap_closed}

words-pairs : (n : ℕ) (ms : List ℕ) → length ms ≡ 2 * n → words_of (pairs_of ms) ≡ ms
unfolding words_of pairs_of
words-pairs zero [] e = refl
words-pairs zero (m ∷ ms) e = absurd (omega arith)
words-pairs (suc n) [] e = absurd (omega arith)
words-pairs (suc n) (m ∷ []) e = absurd (omega arith)
words-pairs (suc n) (name ∷ word ∷ ms) e = rw (words-pairs n ms (omega arith))

words-end : (ps : List Pair) → words_of (ps ++ (pair 0 0 ∷ [])) ≡ words_of ps ++ (0 ∷ 0 ∷ [])
unfolding words_of
words-end [] = refl
words-end (p ∷ ps) = rw (words-end ps)

-- Two words further on.
two-more : (k : ℕ) → 2 * suc k ≡ suc (suc (2 * k))
two-more k = omega arith

three-more : (k : ℕ) → suc (suc (2 * k)) + 1 ≡ suc (suc (2 * k + 1))
three-more k = omega arith

four-more : (k : ℕ) → suc (suc (2 * k)) + 2 ≡ suc (suc (2 * k + 2))
four-more k = omega arith

pub set-placed : (name word n : ℕ) (ms : List ℕ) → length ms ≡ 2 * n → among 0 (pairs_of ms) ≡ true
    → set (set ms (2 * place_of 0 (pairs_of ms)) name) (2 * place_of 0 (pairs_of ms) + 1) word ≡ words_of (with_mark name word (pairs_of ms))
unfolding words_of pairs_of place_of with_mark among
set-placed name word zero [] e h = absurd (false≢true h)
set-placed name word zero (m ∷ ms) e h = absurd (omega arith)
set-placed name word (suc n) [] e h = absurd (omega arith)
set-placed name word (suc n) (m ∷ []) e h = absurd (omega arith)
set-placed name word (suc n) (a ∷ b ∷ ms) e h = by_bool (eqb a 0)
    (λ t. rw (t, words-pairs n ms (omega arith)))
    (λ t. rw (t, two-more (place_of 0 (pairs_of ms)), three-more (place_of 0 (pairs_of ms)), set-placed name word n ms (omega arith) (rw t at h)))

pub drop-placed : (name n : ℕ) (ms : List ℕ) → length ms ≡ 2 * n → among name (pairs_of ms) ≡ true
    → gap_closed ms (2 * place_of name (pairs_of ms)) ≡ words_of (without_mark name (pairs_of ms))
unfolding words_of pairs_of place_of without_mark among gap_closed
drop-placed name zero [] e h = absurd (false≢true h)
drop-placed name zero (m ∷ ms) e h = absurd (omega arith)
drop-placed name (suc n) [] e h = absurd (omega arith)
drop-placed name (suc n) (m ∷ []) e h = absurd (omega arith)
drop-placed name (suc n) (a ∷ b ∷ ms) e h = by_bool (eqb a name)
    (λ t. rw (t, words-end (pairs_of ms), words-pairs n ms (omega arith)))
    (λ t. rw (t, two-more (place_of name (pairs_of ms)), four-more (place_of name (pairs_of ms))) (ap (λ (l : List ℕ). a ∷ b ∷ l) (drop-placed name n ms (omega arith) (rw t at h))))

-- By the pairs as the code reads them.
pub word-placed : (name : ℕ) (cs : List (List ℕ)) (d : List ℕ) → among name (map pair_in cs) ≡ true
    → get_or (get_or cs (place_of name (map pair_in cs)) d) 1 0 ≡ word_of name (map pair_in cs)
unfolding place_of word_of among
word-placed name [] d h = absurd (false≢true h)
word-placed name (c ∷ cs) d h = by_bool (eqb (get_or c 0 0) name) (λ t. rw t) (λ f. rw f (word-placed name cs d (rw f at h)))
