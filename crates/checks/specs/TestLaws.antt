-- A test computes what it says.
use Rattle.std.specs.Prelude.{ℕ, zero, suc, ◌+◌, ◌<◌, ◌≡◌, refl, Bool, true, false, cond, List, [], ◌∷◌, length, get_or, ltb, leb, eqb}
use Rattle.std.proofs.Common.{arith, sym, ap, ◌∙◌, inl, inr, ⊎_elim, eqb-true, leb-true, leb-false, ltb-true, ltb-false}
use Rattle.std.proofs.lemmas.Bool.{false≢true, eqb-false}
use Rattle.fields.specs.Bit.{bit}
use Rattle.checks.specs.Test.{Test, flag, same, differ, less, at_most, both, either, implies, is_not, every, every_from, test, Holds, Fails}

pub by_bool {ℓ} : {P : Type ℓ} (b : Bool) → (b ≡ true → P) → (b ≡ false → P) → P
by_bool true f g = f refl
by_bool false f g = g refl

-- A test is true and holds, or is false and fails.
pub data Decided (t : Test) : Type 0 where
  holds : test t ≡ true → Holds t → Decided t
  fails : test t ≡ false → Fails t → Decided t

pub clash : (t : Test) → Holds t → Fails t → ⊥
clash (flag b) h f = omega arith
clash (same a b) h f = f h
clash (differ a b) h f = h f
clash (less a b) h f = omega arith
clash (at_most a b) h f = omega arith
clash (both t u) h f = clash u h.1 (f h.0)
clash (either t u) h f = ⊎_elim (λ k. clash t k f.0) (λ k. clash u k f.1) h
clash (implies t u) h f = clash u (h f.0) f.1
clash (is_not t) h f = clash t f h
clash (every f ws) h g = g h

-- The pass over words from index i on, with the word before them.
abbrev EachFrom : (ℕ → ℕ → ℕ → Test) → ℕ → ℕ → List ℕ → Type 0
EachFrom f i before ws = (j : ℕ) → j < length ws → Holds (f (i + j) (get_or (before ∷ ws) j 0) (get_or ws j 0))

data Pass (f : ℕ → ℕ → ℕ → Test) (i before : ℕ) (ws : List ℕ) : Type 0 where
  each : every_from (λ i b w. test (f i b w)) i before ws ≡ true → EachFrom f i before ws → Pass f i before ws
  some-not : every_from (λ i b w. test (f i b w)) i before ws ≡ false → (EachFrom f i before ws → ⊥) → Pass f i before ws

pass : (f : ℕ → ℕ → ℕ → Test) → ((i b w : ℕ) → Decided (f i b w)) → (i before : ℕ) (ws : List ℕ) → Pass f i before ws
unfolding every_from
pass f d i before [] = each refl (λ j h. absurd (omega arith))
pass f d i before (w ∷ ws) = join (d i before w) (pass f d (suc i) w ws)
  where
    shift : (j : ℕ) → i + suc j ≡ suc i + j
    shift j = omega arith

    start : i + 0 ≡ i
    start = omega arith

    join : Decided (f i before w) → Pass f (suc i) w ws → Pass f i before (w ∷ ws)
    join (holds e h) (each q k) = each (rw (e, q)) at
      where
        at : EachFrom f i before (w ∷ ws)
        at zero l = rw start h
        at (suc j) l = rw (shift j) (k j (omega arith))
    join (holds e h) (some-not q k) = some-not (rw (e, q)) (λ g. k (λ j l. rw (shift j) at (g (suc j) (omega arith))))
    join (fails e h) _ = some-not (rw e) (λ g. clash (f i before w) (rw start at (g 0 (omega arith))) h)

pub decided : (t : Test) → Decided t
decided (flag b) = by_bool b (λ e. holds e (ap bit e)) (λ e. fails e (ap bit e))
decided (same a b) = by_bool (eqb a b) (λ e. holds e (eqb-true a b e)) (λ e. fails e (eqb-false a b e))
decided (differ a b) = by_bool (eqb a b) (λ e. fails (rw e) (eqb-true a b e)) (λ e. holds (rw e) (eqb-false a b e))
decided (less a b) = by_bool (ltb a b) (λ e. holds e (ltb-true a b e)) (λ e. fails e (ltb-false a b e))
decided (at_most a b) = by_bool (leb a b) (λ e. holds e (leb-true a b e)) (λ e. fails e (leb-false a b e))
decided (both t u) = two (decided t) (decided u)
  where
    two : Decided t → Decided u → Decided (both t u)
    two (holds e h) (holds q k) = holds (rw (e, q)) (h, k)
    two (holds e h) (fails q k) = fails (rw (e, q)) (λ _. k)
    two (fails e h) _ = fails (rw e) (λ k. absurd (clash t k h))
decided (either t u) = two (decided t) (decided u)
  where
    two : Decided t → Decided u → Decided (either t u)
    two (holds e h) _ = holds (rw e) (inl h)
    two (fails e h) (holds q k) = holds (rw (e, q)) (inr k)
    two (fails e h) (fails q k) = fails (rw (e, q)) (h, k)
decided (implies t u) = two (decided t) (decided u)
  where
    two : Decided t → Decided u → Decided (implies t u)
    two (holds e h) (holds q k) = holds (rw (e, q)) (λ _. k)
    two (holds e h) (fails q k) = fails (rw (e, q)) (h, k)
    two (fails e h) _ = holds (rw e) (λ k. absurd (clash t k h))
decided (is_not t) = one (decided t)
  where
    one : Decided t → Decided (is_not t)
    one (holds e h) = fails (rw e) h
    one (fails e h) = holds (rw e) h
decided (every f ws) = many (pass f (λ i b w. decided (f i b w)) 0 0 ws)
  where
    start : (j : ℕ) → 0 + j ≡ j
    start j = omega arith

    many : Pass f 0 0 ws → Decided (every f ws)
    many (each e h) = holds e (λ j l. rw (start j) at (h j l))
    many (some-not e h) = fails e (λ g. h (λ j l. rw (start j) (g j l)))

pub true-holds : (t : Test) → test t ≡ true → Holds t
true-holds t e = at (decided t)
  where
    at : Decided t → Holds t
    at (holds _ h) = h
    at (fails q _) = absurd (false≢true (sym q ∙ e))

pub false-fails : (t : Test) → test t ≡ false → Fails t
false-fails t e = at (decided t)
  where
    at : Decided t → Fails t
    at (holds q _) = absurd (false≢true (sym e ∙ q))
    at (fails _ h) = h

pub holds-true : (t : Test) → Holds t → test t ≡ true
holds-true t h = at (decided t)
  where
    at : Decided t → test t ≡ true
    at (holds q _) = q
    at (fails _ k) = absurd (clash t h k)

pub fails-false : (t : Test) → Fails t → test t ≡ false
fails-false t h = at (decided t)
  where
    at : Decided t → test t ≡ false
    at (holds _ k) = absurd (clash t k h)
    at (fails q _) = q

-- Case by case on a test, with what it says.
pub by-test {ℓ} : {P : Type ℓ} (t : Test) → (Holds t → P) → (Fails t → P) → P
by-test t f g = by_bool (test t) (λ e. f (true-holds t e)) (λ e. g (false-fails t e))

-- What holds of each branch holds of the choice.
pub split : {A : Type 0} (P : A → Type 0) (t : Test) {a b : A} → (Holds t → P a) → (Fails t → P b) → P (cond (test t) a b)
split P t {a} {b} f g = at (test t) (λ e. f (true-holds t e)) (λ e. g (false-fails t e))
  where
    at : (x : Bool) → (x ≡ true → P a) → (x ≡ false → P b) → P (cond x a b)
    at true f g = f refl
    at false f g = g refl
