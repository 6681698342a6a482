-- Where a byte stands first.
use Rattle.std.specs.Prelude.{ℕ, suc, ◌+◌, ◌<◌, ◌≤◌, ◌≡◌, ◌==◌, refl, Bool, true, false, not, cond, List, [], ◌∷◌, length, position, unwrap_or, eqb, ltb, Some, None}
use Rattle.std.specs.List.{position_or_len}
use Rattle.std.proofs.Common.{arith, ap, sym, ◌∙◌, ⊎_elim, ltb-false}
use Rattle.std.proofs.lemmas.List.Quantifiers.{position-Some}
use mathlib.Mathlib.Data.Bool.Basic.{dichotomy}

-- How many bytes stand before the first byte x; all of them where there is none.
unfoldable pub index_of : ℕ → List ℕ → ℕ
index_of x [] = 0
index_of x (b ∷ bs) = cond (eqb b x) 0 (suc (index_of x bs))

few : (x : ℕ) (bs : List ℕ) → index_of x bs ≤ length bs
unfolding index_of
few x [] = omega arith
few x (b ∷ bs) = ⊎_elim
    (λ h. let z : index_of x (b ∷ bs) ≡ suc (index_of x bs) = rw h in omega (arith, z, few x bs))
    (λ h. let z : index_of x (b ∷ bs) ≡ 0 = rw h in omega (arith, z))
    (dichotomy (eqb b x))

swap : (t : Bool) (n : ℕ) → cond (not t) (1 + n) 0 ≡ cond t 0 (suc n)
swap true n = refl
swap false n = omega arith

same : (x : ℕ) (bs : List ℕ) → position_or_len (λ b. b == x) bs ≡ index_of x bs
unfolding index_of
same x [] = refl
same x (b ∷ bs) = ap (λ (n : ℕ). cond (not (b == x)) (1 + n) 0) (same x bs) ∙ swap (eqb b x) (index_of x bs)

-- The library's first place of the byte, or else the length.
pub first-is : (x : ℕ) (bs : List ℕ) → unwrap_or (position (λ b. b == x) bs) (length bs) ≡ index_of x bs
first-is x bs = rw (same x bs) (⊎_elim (λ h. rw h (omega (arith, few x bs, ltb-false _ _ h))) (λ h. rw h) (dichotomy (ltb (index_of x bs) (length bs))))

-- The same of a place that was looked for: there is one before the end, or none.
pub place-some : (x : ℕ) (bs : List ℕ) (i : ℕ) → position (λ b. b == x) bs ≡ Some i → (i ≡ index_of x bs) × (i < length bs)
place-some x bs i e =
    let within = position-Some (λ b. b == x) bs i 0 e in
    (sym (ap (λ m. unwrap_or m (length bs)) e) ∙ first-is x bs, within.0)

pub place-none : (x : ℕ) (bs : List ℕ) → position (λ b. b == x) bs ≡ None → length bs ≡ index_of x bs
place-none x bs e = sym (ap (λ m. unwrap_or m (length bs)) e) ∙ first-is x bs
