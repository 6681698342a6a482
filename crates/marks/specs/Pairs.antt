-- The pairs of a marks buffer as the code reads them, and what its searches through them find.
use Rattle.std.specs.Prelude.{Option, Some, None, ℕ, zero, suc, ◌*◌, ◌/◌, ◌<◌, ◌≡◌, refl, Bool, true, cond, if◌then◌else◌, ◌==◌, ◌&&◌, ◌||◌, List, [], ◌∷◌, map, eqb, ltb, length, get_or}
use Rattle.std.specs.List.{list_any, list_all, position_or_len}
use Rattle.std.specs.Simd.{first_chunks}
use Rattle.std.proofs.Common.{arith, sym, ap, ◌∙◌, ltb-true, ltb-false, lt-ltb, le-ltb}
use Rattle.std.proofs.lemmas.Bool.{false≢true}
use Rattle.checks.specs.TestLaws.{by_bool}
use Rattle.chain.specs.Marks.{Pair, pair, pairs_of, among, all_zero}

abbrev pub pair_in : List ℕ → Pair
pair_in two = pair (get_or two 0 0) (get_or two 1 0)

pub chunks-pairs : (n : ℕ) (ms : List ℕ) → n ≡ length ms / 2 → map pair_in (first_chunks 2 n ms) ≡ pairs_of ms
unfolding pairs_of
chunks-pairs zero [] e = refl
chunks-pairs zero (a ∷ []) e = refl
chunks-pairs zero (a ∷ b ∷ ms) e = absurd (omega arith)
chunks-pairs (suc n) [] e = absurd (omega arith)
chunks-pairs (suc n) (a ∷ []) e = absurd (omega arith)
chunks-pairs (suc n) (a ∷ b ∷ ms) e = ap (λ (l : List Pair). pair a b ∷ l) (chunks-pairs n ms (omega arith))

pub any-among : (name : ℕ) (cs : List (List ℕ)) → list_any (λ two. eqb (get_or two 0 0) name) cs ≡ among name (map pair_in cs)
unfolding among
any-among name [] = refl
any-among name (c ∷ cs) = ap (λ (b : Bool). eqb (get_or c 0 0) name || b) (any-among name cs)

pub all-zero : (cs : List (List ℕ)) → list_all (λ two. eqb (get_or two 0 0) 0 && eqb (get_or two 1 0) 0) cs ≡ all_zero (map pair_in cs)
unfolding all_zero
all-zero [] = refl
all-zero (c ∷ cs) = ap (λ (b : Bool). (eqb (get_or c 0 0) 0 && eqb (get_or c 1 0) 0) && b) (all-zero cs)

-- The index of the first pair with a name.
unfoldable pub place_of : ℕ → List Pair → ℕ
place_of name [] = 0
place_of name (p ∷ ps) = cond (eqb p.name name) 0 (suc (place_of name ps))

-- The same, or none if no pair has it.
abbrev pub place : ℕ → List Pair → Option ℕ
place name ps = cond (among name ps) (Some (place_of name ps)) None

-- That of a mark: no pair has the name of zero bytes for its mark.
abbrev pub mark : ℕ → List Pair → Option ℕ
mark name ps = if name == 0 then None else place name ps

first-place : (name : ℕ) (cs : List (List ℕ)) → position_or_len (λ two. eqb (get_or two 0 0) name) cs ≡ place_of name (map pair_in cs)
unfolding place_of
first-place name [] = refl
first-place name (c ∷ cs) = by_bool (eqb (get_or c 0 0) name) (λ t. rw t) (λ f. rw f (omega (arith, first-place name cs)))

both-more : (a b : ℕ) → ltb (suc a) (suc b) ≡ ltb a b
both-more a b = by_bool (ltb a b)
    (λ t. lt-ltb (suc a) (suc b) (omega (arith, ltb-true a b t)) ∙ sym t)
    (λ f. le-ltb (suc a) (suc b) (omega (arith, ltb-false a b f)) ∙ sym f)

found-within : (name : ℕ) (cs : List (List ℕ)) → ltb (place_of name (map pair_in cs)) (length cs) ≡ among name (map pair_in cs)
unfolding place_of among
found-within name [] = refl
found-within name (c ∷ cs) = by_bool (eqb (get_or c 0 0) name)
    (λ t. rw t (lt-ltb 0 (suc (length cs)) (omega arith)))
    (λ f. rw f (both-more (place_of name (map pair_in cs)) (length cs) ∙ found-within name cs))

pub pair-within : (name : ℕ) (cs : List (List ℕ)) → among name (map pair_in cs) ≡ true → place_of name (map pair_in cs) < length cs
pair-within name cs h = ltb-true (place_of name (map pair_in cs)) (length cs) (found-within name cs ∙ h)

pub position-place : (name : ℕ) (cs : List (List ℕ))
    → cond (ltb (position_or_len (λ two. eqb (get_or two 0 0) name) cs) (length cs)) (Some (position_or_len (λ two. eqb (get_or two 0 0) name) cs)) None
    ≡ place name (map pair_in cs)
position-place name cs = rw (first-place name cs, found-within name cs)

pub place-within : (name n : ℕ) (ms : List ℕ) → length ms ≡ 2 * n → among name (pairs_of ms) ≡ true → place_of name (pairs_of ms) < n
unfolding pairs_of place_of among
place-within name zero [] e h = absurd (false≢true h)
place-within name zero (m ∷ ms) e h = absurd (omega arith)
place-within name (suc n) [] e h = absurd (omega arith)
place-within name (suc n) (m ∷ []) e h = absurd (omega arith)
place-within name (suc n) (a ∷ b ∷ ms) e h = by_bool (eqb a name)
    (λ t. rw t (omega arith))
    (λ t. rw t (omega (arith, place-within name n ms (omega arith) (rw t at h))))
