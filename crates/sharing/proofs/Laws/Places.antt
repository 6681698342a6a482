-- Laws of the places of a list, and of lists in which all items of another stand.
use Rattle.std.specs.Prelude.{ℕ, zero, suc, ◌+◌, ◌<◌, ◌≤◌, ◌≡◌, refl, List, [], ◌∷◌, ◌++◌, map, ◌⊎◌, cond, length, take, drop, eqb}
use Rattle.std.proofs.Common.{arith, sym, ap, subst, ◌∙◌, inl, inr, ⊎_elim, eqb-true}
use Rattle.std.proofs.lemmas.Bool.{eqb-false}
use Rattle.checks.specs.TestLaws.{by_bool}
use Rattle.sharing.specs.Places.{At, In}

none_more : (i : ℕ) → i ≡ 0 + i
none_more i = omega arith

one_more : (n i : ℕ) → suc (n + i) ≡ suc n + i
one_more n i = omega arith

module _ {A : Type 0} where
  pub at_less : (l : List A) (i : ℕ) (a : A) → At l i a → i < length l
  at_less [] i a h = absurd h
  at_less (x ∷ l) zero a h = omega arith
  at_less (x ∷ l) (suc i) a h = omega (arith, at_less l i a h)

  pub at_some : (l : List A) (i : ℕ) → i < length l → (a : A) × At l i a
  at_some [] i h = absurd (omega arith)
  at_some (x ∷ l) zero h = (x, refl)
  at_some (x ∷ l) (suc i) h = at_some l i (omega arith)

  pub at_one : (l : List A) (i : ℕ) (a b : A) → At l i a → At l i b → a ≡ b
  at_one [] i a b h k = absurd h
  at_one (x ∷ l) zero a b h k = sym h ∙ k
  at_one (x ∷ l) (suc i) a b h k = at_one l i a b h k

  pub at-append : (l m : List A) (i : ℕ) (a : A) → At l i a → At (l ++ m) i a
  at-append [] m i a h = absurd h
  at-append (x ∷ l) m zero a h = h
  at-append (x ∷ l) m (suc i) a h = at-append l m i a h

  pub at_new : (l : List A) (a : A) → At (l ++ (a ∷ [])) (length l) a
  at_new [] a = refl
  at_new (x ∷ l) a = at_new l a

  -- Of one more item: it stands at an old place, or at the new one.
  pub at-cases : (l : List A) (b : A) (i : ℕ) (a : A) → At (l ++ (b ∷ [])) i a → At l i a ⊎ ((i ≡ length l) × (b ≡ a))
  at-cases [] b zero a h = inr (refl, h)
  at-cases [] b (suc i) a h = absurd h
  at-cases (x ∷ l) b zero a h = inl h
  at-cases (x ∷ l) b (suc i) a h = at (at-cases l b i a h)
    where
      at : At l i a ⊎ ((i ≡ length l) × (b ≡ a)) → At l i a ⊎ ((suc i ≡ suc (length l)) × (b ≡ a))
      at (inl k) = inl k
      at (inr k) = inr (ap suc k.0, k.1)

  -- The list up to a place, the item there, and what comes after.
  pub at_split : (l : List A) (i : ℕ) (a : A) → At l i a → l ≡ take i l ++ (a ∷ drop (suc i) l)
  at_split [] i a h = absurd h
  at_split (x ∷ l) zero a h = ap (λ (y : A). y ∷ l) h
  at_split (x ∷ l) (suc i) a h = ap (λ (m : List A). x ∷ m) (at_split l i a h)

  pub at-seam : (l : List A) (a : A) (m : List A) → At (l ++ (a ∷ m)) (length l) a
  at-seam [] a m = refl
  at-seam (x ∷ l) a m = at-seam l a m

  pub at_take : (l : List A) (i j : ℕ) (a : A) → At l i a → i < j → At (take j l) i a
  at_take [] i j a h w = absurd h
  at_take (x ∷ l) i zero a h w = absurd (omega arith)
  at_take (x ∷ l) zero (suc j) a h w = h
  at_take (x ∷ l) (suc i) (suc j) a h w = at_take l i j a h (omega arith)

  pub at-untake : (l : List A) (i j : ℕ) (a : A) → At (take j l) i a → At l i a
  at-untake [] i zero a h = absurd h
  at-untake [] i (suc j) a h = absurd h
  at-untake (x ∷ l) i zero a h = absurd h
  at-untake (x ∷ l) zero (suc j) a h = h
  at-untake (x ∷ l) (suc i) (suc j) a h = at-untake l i j a h

  -- After the items of a list come those of the next.
  pub at_right : (l m : List A) (i : ℕ) (a : A) → At m i a → At (l ++ m) (length l + i) a
  at_right [] m i a h = subst (λ (n : ℕ). At m n a) (none_more i) h
  at_right (x ∷ l) m i a h = subst (λ (n : ℕ). At (x ∷ (l ++ m)) n a) (one_more (length l) i) (at_right l m i a h)

  pub take-right : (l m : List A) (i : ℕ) → take (length l + i) (l ++ m) ≡ l ++ take i m
  take-right [] m i = ap (λ (n : ℕ). take n m) (sym (none_more i))
  take-right (x ∷ l) m i = ap (λ (n : ℕ). take n (x ∷ (l ++ m))) (sym (one_more (length l) i)) ∙ ap (λ (k : List A). x ∷ k) (take-right l m i)

pub at_map : {A B : Type 0} (f : A → B) (l : List A) (i : ℕ) (a : A) → At l i a → At (map f l) i (f a)
at_map f [] i a h = absurd h
at_map f (x ∷ l) zero a h = ap f h
at_map f (x ∷ l) (suc i) a h = at_map f l i a h

pub in_map : {A B : Type 0} (f : A → B) (l : List A) (a : A) → In a l → In (f a) (map f l)
in_map f [] a i = absurd i
in_map {A} f (x ∷ l) a i = ⊎_elim (λ (e : a ≡ x). inl (ap f e)) (λ (j : In a l). inr (in_map f l a j)) i

pub in_left : {A : Type 0} (l m : List A) (a : A) → In a l → In a (l ++ m)
in_left [] m a i = absurd i
in_left (x ∷ l) m a i = ⊎_elim (λ (e : a ≡ x). inl e) (λ (j : In a l). inr (in_left l m a j)) i

pub in_right : {A : Type 0} (l m : List A) (a : A) → In a m → In a (l ++ m)
in_right [] m a i = i
in_right (x ∷ l) m a i = inr (in_right l m a i)

-- A list in which the numbers of all items of another stand, which are different, is at least as long.
without : ℕ → List ℕ → List ℕ
without x [] = []
without x (y ∷ l) = cond (eqb x y) l (y ∷ without x l)

one_less : (x : ℕ) (l : List ℕ) → In x l → length l ≡ suc (length (without x l))
unfolding without
one_less x [] i = absurd i
one_less x (y ∷ l) i = by_bool (eqb x y) (λ t. rw t)
    (λ t. rw t (ap suc (one_less x l (⊎_elim (λ (e : x ≡ y). absurd (eqb-false x y t e)) (λ (j : In x l). j) i))))

others-left : (x i : ℕ) (l : List ℕ) → In i l → (i ≡ x → ⊥) → In i (without x l)
unfolding without
others-left x i [] h n = absurd h
others-left x i (y ∷ l) h n = by_bool (eqb x y)
    (λ t. rw t (⊎_elim (λ (e : i ≡ y). absurd (n (e ∙ sym (eqb-true x y t)))) (λ (j : In i l). j) h))
    (λ t. rw t (⊎_elim (λ (e : i ≡ y). inl e) (λ (j : In i l). inr (others-left x i l j n)) h))

pub covers : {A : Type 0} (f : A → ℕ) (l : List A) (m : List ℕ) → ((i j : ℕ) (a b : A) → At l i a → At l j b → f a ≡ f b → i ≡ j)
    → ((i : ℕ) (a : A) → At l i a → In (f a) m) → length l ≤ length m
covers f [] m one all = omega arith
covers f (x ∷ l) m one all = omega (
  arith,
  one_less (f x) m (all 0 x refl),
  covers f l (without (f x) m) (λ i j a b h k e. omega (arith, one (suc i) (suc j) a b h k e))
      (λ i a h. others-left (f x) (f a) m (all (suc i) a h) (λ e. omega (arith, one (suc i) 0 a x h refl e))),
)
