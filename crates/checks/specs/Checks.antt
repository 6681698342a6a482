-- Checks in their order, each with the refusal that it gives: the first whose condition holds decides.
use Rattle.std.specs.Prelude.{◌≡◌, refl, Bool, true, false, not, cond, List, [], ◌∷◌, ◌++◌}
use Rattle.std.proofs.Common.{ap, subst, ◌∙◌}
use Rattle.checks.specs.Test.{Test, test, Holds, Fails}
use Rattle.checks.specs.TestLaws.{by_bool, split, true-holds, false-fails, fails-false}

infix 10 ◌when◌
pub data Check (R : Type 0) : Type 0 where
  ◌when◌ : R → Test → Check R

-- The refusal of the first check whose condition holds, as an outcome; else the other outcome.
abbrev pub first : {R A : Type 0} → List (Check R) → (R → A) → A → A
first [] refuse otherwise = otherwise
first ((r when t) ∷ cs) refuse otherwise = cond (test t) (refuse r) (first cs refuse otherwise)

-- A function of what is given.
pub first-map : {R A B : Type 0} (f : A → B) (cs : List (Check R)) (refuse : R → A) (a : A) → f (first cs refuse a) ≡ first cs (λ r. f (refuse r)) (f a)
first-map f [] refuse a = refl
first-map f ((r when t) ∷ cs) refuse a = by_bool (test t) (λ h. rw h) (λ h. rw h (first-map f cs refuse a))

-- Something of every check.
abbrev pub Each : {R : Type 0} → (R → Test → Type 0) → List (Check R) → Type 0
Each P [] = Unit {0}
Each P ((r when t) ∷ cs) = P r t × Each P cs

abbrev pub Passed : {R : Type 0} → List (Check R) → Type 0
Passed cs = Each (λ _ t. Fails t) cs

-- Either a check refuses, or all are passed.
pub data Outcome {R A : Type 0} (cs : List (Check R)) (refuse : R → A) (otherwise : A) (out : A) : Type 0 where
  stops : (r : R) → out ≡ refuse r → Outcome cs refuse otherwise out
  goes : Passed cs → out ≡ otherwise → Outcome cs refuse otherwise out

pub outcome : {R A : Type 0} (cs : List (Check R)) (refuse : R → A) (a : A) → Outcome cs refuse a (first cs refuse a)
outcome [] refuse a = goes tt refl
outcome {R} {A} ((r when t) ∷ cs) refuse a = at (test t) refl (outcome cs refuse a)
  where
    at : (b : Bool) → test t ≡ b → Outcome cs refuse a (first cs refuse a)
        → Outcome ((r when t) ∷ cs) refuse a (cond b (refuse r) (first cs refuse a))
    at true e o = stops r refl
    at false e (stops k q) = stops k q
    at false e (goes p q) = goes (false-fails t e, p) q

-- Two outcomes of the same checks: where the first is a refusal, so is the second.
pub first-refused : {R A B : Type 0} (cs : List (Check R)) (refuse : R → A) (a z : A) (x y : B) → (a ≡ z → ⊥) → first cs refuse a ≡ z
    → first cs (λ _. x) y ≡ x
first-refused [] refuse a z x y n e = absurd (n e)
first-refused ((r when t) ∷ cs) refuse a z x y n e = by_bool (test t) (λ h. rw h)
    (λ h. rw h (first-refused cs refuse a z x y n (rw h at e)))

-- Where the first is passed, all checks are.
pub first-passed : {R A : Type 0} (cs : List (Check R)) (refuse : R → A) (a : A) → ((r : R) → refuse r ≡ a → ⊥) → first cs refuse a ≡ a
    → Passed cs
first-passed [] refuse a n e = tt
first-passed ((r when t) ∷ cs) refuse a n e = by_bool (test t) (λ h. absurd (n r (rw h at e)))
    (λ h. (false-fails t h, first-passed cs refuse a n (rw h at e)))

-- Where all are passed, the other outcome is given.
pub passed_first : {R A : Type 0} (cs : List (Check R)) (refuse : R → A) (a : A) → Passed cs → first cs refuse a ≡ a
passed_first [] refuse a p = refl
passed_first ((r when t) ∷ cs) refuse a p = rw (fails-false t p.0) (passed_first cs refuse a p.1)

-- Checks that are passed, and then others.
pub first-after : {R A : Type 0} (cs ds : List (Check R)) (refuse : R → A) (a : A) → Passed cs → first (cs ++ ds) refuse a ≡ first ds refuse a
first-after [] ds refuse a p = refl
first-after ((r when t) ∷ cs) ds refuse a p = rw (fails-false t p.0) (first-after cs ds refuse a p.1)

-- One check more, at any place: its refusal is given where its condition holds, or what is given without it.
pub data Inserted {A : Type 0} (t : Test) (refusal without out : A) : Type 0 where
  stopped : Holds t → out ≡ refusal → Inserted t refusal without out
  as_before : out ≡ without → Inserted t refusal without out

pub inserted : {R A : Type 0} (cs ds : List (Check R)) (r : R) (t : Test) (refuse : R → A) (a : A)
    → Inserted t (refuse r) (first (cs ++ ds) refuse a) (first (cs ++ ((r when t) ∷ ds)) refuse a)
inserted [] ds r t refuse a = by_bool (test t) (λ h. stopped (true-holds t h) (rw h)) (λ h. as_before (rw h))
inserted ((q when u) ∷ cs) ds r t refuse a = by_bool (test u) (λ h. as_before (rw h)) (λ h. rw h (inserted cs ds r t refuse a))

-- A check that never holds where those before it are passed changes nothing.
pub idle : {R A : Type 0} (cs ds : List (Check R)) (r : R) (t : Test) (refuse : R → A) (a : A) → (Passed cs → Fails t)
    → first (cs ++ ((r when t) ∷ ds)) refuse a ≡ first (cs ++ ds) refuse a
idle [] ds r t refuse a w = rw (fails-false t (w tt))
idle ((q when u) ∷ cs) ds r t refuse a w = by_bool (test u) (λ h. rw h)
    (λ h. rw h (idle cs ds r t refuse a (λ p. w (false-fails u h, p))))

-- One check replaced by one that refuses no more: what is given stays, unless it was that refusal.
pub relaxed : {R A : Type 0} (cs ds : List (Check R)) (r : R) (t u : Test) (refuse : R → A) (a : A) → (Fails t → Fails u)
    → (first (cs ++ ((r when t) ∷ ds)) refuse a ≡ refuse r → ⊥)
    → first (cs ++ ((r when u) ∷ ds)) refuse a ≡ first (cs ++ ((r when t) ∷ ds)) refuse a
relaxed [] ds r t u refuse a w n = by_bool (test t) (λ h. absurd (n (rw h))) (λ h. rw (h, fails-false u (w (false-fails t h))))
relaxed ((q when v) ∷ cs) ds r t u refuse a w n = by_bool (test v) (λ h. rw h)
    (λ h. rw h (relaxed cs ds r t u refuse a w (λ e. n (rw h e))))

-- The checks that give some of the refusals, the others, and those before the first of them, each in their order. Proofs take a check by its
-- refusal and not by its place, so that another check can be added, moved or dropped.
abbrev pub select : {R : Type 0} → (R → Bool) → List (Check R) → List (Check R)
select kind [] = []
select kind ((r when t) ∷ cs) = cond (kind r) ((r when t) ∷ select kind cs) (select kind cs)

abbrev pub others : {R : Type 0} → (R → Bool) → List (Check R) → List (Check R)
others kind cs = select (λ r. not (kind r)) cs

abbrev pub before : {R : Type 0} → (R → Bool) → List (Check R) → List (Check R)
before kind [] = []
before kind ((r when t) ∷ cs) = cond (kind r) [] ((r when t) ∷ before kind cs)

-- Fewer of the refusals can be taken from those selected.
pub select-fewer : {R : Type 0} (kind fewer : R → Bool) (cs : List (Check R)) → ((r : R) → fewer r ≡ true → kind r ≡ true)
    → select fewer cs ≡ select fewer (select kind cs)
select-fewer kind fewer [] w = refl
select-fewer kind fewer ((r when t) ∷ cs) w = by_bool (fewer r) (λ h. rw (h, w r h) (rw h (ap (λ ds. (r when t) ∷ ds) (select-fewer kind fewer cs w))))
    (λ h. by_bool (kind r) (λ k. rw (h, k) (rw h (select-fewer kind fewer cs w))) (λ k. rw (h, k) (select-fewer kind fewer cs w)))

pub each-selected : {R : Type 0} (P : R → Test → Type 0) (kind : R → Bool) (cs : List (Check R)) → Each P cs → Each P (select kind cs)
each-selected P kind [] p = tt
each-selected P kind ((r when t) ∷ cs) p = by_bool (kind r) (λ h. rw h (p.0, each-selected P kind cs p.1))
    (λ h. rw h (each-selected P kind cs p.1))

pub each_after : {R : Type 0} (P : R → Test → Type 0) (cs ds : List (Check R)) → Each P (cs ++ ds) → Each P ds
each_after P [] ds p = p
each_after P ((r when t) ∷ cs) ds p = each_after P cs ds p.1

pub each-without : {R : Type 0} (P : R → Test → Type 0) (cs ds : List (Check R)) (r : R) (t : Test) → Each P (cs ++ ((r when t) ∷ ds))
    → P r t × Each P (cs ++ ds)
each-without P [] ds r t p = p
each-without P ((q when u) ∷ cs) ds r t p = let o : P r t × Each P (cs ++ ds) = each-without P cs ds r t p.1 in (o.0, (p.0, o.1))

each-joined : {R : Type 0} (P : R → Test → Type 0) (kind : R → Bool) (cs : List (Check R)) → Each P (select kind cs)
    → Each P (others kind cs) → Each P cs
each-joined P kind [] a b = tt
each-joined P kind ((r when t) ∷ cs) a b = by_bool (kind r)
    (λ h. let x : P r t × Each P (select kind cs) = rw h at a in (x.0, each-joined P kind cs x.1 (rw h at b)))
    (λ h. let y : P r t × Each P (others kind cs) = rw h at b in (y.0, each-joined P kind cs (rw h at a) y.1))

-- Something of every check, told refusal by refusal in any order.
pub data Reasons {R : Type 0} (P : R → Test → Type 0) : List (Check R) → Type 0 where
  no_more : Reasons P []
  because : (kind : R → Bool) {cs : List (Check R)} → Each P (select kind cs) → Reasons P (others kind cs) → Reasons P cs

pub reasons : {R : Type 0} {P : R → Test → Type 0} {cs : List (Check R)} → Reasons P cs → Each P cs
reasons no_more = tt
reasons {R} {P} {cs} (because kind a rest) = each-joined P kind cs a (reasons rest)

-- A refusal is given on a condition of its own: what each of these conditions gives holds of it.
pub given : {R A : Type 0} (P : R → Type 0) (kind : R → Bool) (cs : List (Check R)) (refuse : R → A) (a : A) (r : R)
    → ((q : R) → refuse q ≡ refuse r → q ≡ r) → (a ≡ refuse r → ⊥) → Each (λ q t. Holds t → P q) (select kind cs) → kind r ≡ true
    → first cs refuse a ≡ refuse r → P r
given P kind [] refuse a r inj n o w = λ e. absurd (n e)
given {R} {A} P kind ((q when t) ∷ cs) refuse a r inj n o w = split (λ (x : A). x ≡ refuse r → P r) t (λ y e. here y (inj q e))
    (λ _. given P kind cs refuse a r inj n rest w)
  where
    here : Holds t → q ≡ r → P r
    here y e = let k : kind q ≡ true = ap kind e ∙ w in subst P e ((rw k at o).0 y)

    rest : Each (λ q t. Holds t → P q) (select kind cs)
    rest = by_bool (kind q) (λ h. (rw h at o).1) (λ h. rw h at o)

-- And where those before it were passed.
pub passed-before : {R A : Type 0} (kind : R → Bool) (cs : List (Check R)) (refuse : R → A) (a : A) (r : R)
    → ((q : R) → refuse q ≡ refuse r → q ≡ r) → kind r ≡ true → first cs refuse a ≡ refuse r → Passed (before kind cs)
passed-before kind [] refuse a r inj w = λ _. tt
passed-before {R} {A} kind ((q when t) ∷ cs) refuse a r inj w = split (λ (x : A). x ≡ refuse r → Passed (before kind ((q when t) ∷ cs))) t
    (λ _ e. let k : kind q ≡ true = ap kind (inj q e) ∙ w in rw k tt)
    (λ y e. by_bool (kind q) (λ h. rw h tt) (λ h. rw h (y, passed-before kind cs refuse a r inj w e)))
