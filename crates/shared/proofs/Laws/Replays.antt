-- Rows, and their single steps: replayed alike, and found at their spots.
use Rattle.std.specs.Prelude.{ℕ, zero, suc, ◌+◌, ◌<◌, ◌≤◌, ◌≡◌, refl, List, [], ◌∷◌, ◌++◌, ◌⊎◌, length, take}
use Rattle.std.proofs.Common.{arith, sym, ap, subst, ◌∙◌, append_assoc, inl, inr, length-append}
use Rattle.std.proofs.lemmas.List.{take-append-le}
use Rattle.checks.specs.Test.{less}
use Rattle.checks.specs.TestLaws.{by-test}
use Rattle.chain.specs.Steps.{Step, by}
use Rattle.chain.specs.Operations.{after_steps}
use Rattle.sharing.specs.Places.{At}
use Rattle.sharing.proofs.Laws.Places.{at-append, at_right, take-right}
use Rattle.sharing.specs.Sharing.{Row, replay, log_at}
use Rattle.shared.specs.Shared.{Kept, Change, step, set_mark, drop_mark, set_rights, change_answer, after_change, after_changes, change_answers, run_log, changes, spot}

-- Rows are replayed as their single steps are taken, one after another.
pub changes-append : (xs ys : List Change) (m : Kept) → after_changes (xs ++ ys) m ≡ after_changes ys (after_changes xs m)
unfolding after_changes
changes-append [] ys m = refl
changes-append (x ∷ xs) ys m = changes-append xs ys (after_change x m)

pub replay-changes : (rows : List (Row run_log)) (m : Kept) → replay rows m ≡ after_changes (changes rows) m
unfolding replay changes after_changes
replay-changes [] m = refl
replay-changes (r ∷ rows) m = replay-changes rows (after_changes r.request m) ∙ sym (changes-append r.request (changes rows) m)

pub rows_append : (rows more : List (Row run_log)) → changes (rows ++ more) ≡ changes rows ++ changes more
unfolding changes
rows_append [] more = refl
rows_append (r ∷ rows) more = ap (λ (xs : List Change). r.request ++ xs) (rows_append rows more) ∙ sym (append_assoc r.request (changes rows) (changes more))

-- The steps of clients among single steps, each under the rights as they are by then.
abbrev pub step_of : Change → Kept → List Step
step_of (step k c) m = by m.rights c k ∷ []
step_of (set_mark n) m = []
step_of (drop_mark n) m = []
step_of (set_rights c word) m = []

unfoldable pub steps : List Change → Kept → List Step
steps [] m = []
steps (x ∷ xs) m = step_of x m ++ steps xs (after_change x m)

pub steps-append : (xs ys : List Change) (m : Kept) → steps (xs ++ ys) m ≡ steps xs m ++ steps ys (after_changes xs m)
unfolding steps after_changes
steps-append [] ys m = refl
steps-append (x ∷ xs) ys m = ap (λ (l : List Step). step_of x m ++ l) (steps-append xs ys (after_change x m))
    ∙ sym (append_assoc (step_of x m) (steps xs (after_change x m)) (steps ys (after_changes xs (after_change x m))))

change-log : (x : Change) (m : Kept) (xs : List Step) → after_steps (step_of x m ++ xs) m.log ≡ after_steps xs (after_change x m).log
unfolding after_steps
change-log (step k c) m xs = refl
change-log (set_mark n) m xs = refl
change-log (drop_mark n) m xs = refl
change-log (set_rights c word) m xs = refl

changes-steps : (xs : List Change) (m : Kept) → (after_changes xs m).log ≡ after_steps (steps xs m) m.log
unfolding after_changes after_steps steps
changes-steps [] m = refl
changes-steps (x ∷ xs) m = changes-steps xs (after_change x m) ∙ sym (change-log x m (steps xs (after_change x m)))

pub replayed : (rows : List (Row run_log)) (m : Kept) → (replay rows m).log ≡ after_steps (steps (changes rows) m) m.log
replayed rows m = ap (λ (k : Kept). k.log) (replay-changes rows m) ∙ changes-steps (changes rows) m

-- The j-th step of a row among those of all rows, and what was there before it.
pub split-spot : (r : Row run_log) (rows : List (Row run_log)) (p j : ℕ) → spot (r ∷ rows) (suc p) j ≡ length r.request + spot rows p j
unfolding changes
split-spot r rows p j = omega (arith, length-append r.request (changes (take p rows)))

pub at-changes : (rows : List (Row run_log)) (p j : ℕ) (r : Row run_log) (x : Change) → At rows p r → At r.request j x → At (changes rows) (spot rows p j) x
unfolding changes
at-changes [] p j r x h k = absurd h
at-changes (q ∷ rows) zero j r x h k = subst (λ (n : ℕ). At (q.request ++ changes rows) n x) (zero_more j)
    (at-append q.request (changes rows) j x (subst (λ (y : Row run_log). At y.request j x) (sym h) k))
  where
    zero_more : (i : ℕ) → i ≡ 0 + i
    zero_more i = omega arith
at-changes (q ∷ rows) (suc p) j r x h k = subst (λ (n : ℕ). At (q.request ++ changes rows) n x) (sym (split-spot q rows p j))
    (at_right q.request (changes rows) (spot rows p j) x (at-changes rows p j r x h k))

pub state-at : (rows : List (Row run_log)) (m : Kept) (p j : ℕ) (r : Row run_log) → At rows p r → j ≤ length r.request
    → after_changes (take (spot rows p j) (changes rows)) m ≡ after_changes (take j r.request) (log_at m rows p)
unfolding changes replay
state-at [] m p j r h w = absurd h
state-at (q ∷ rows) m zero j r h w = ap (λ (n : ℕ). after_changes (take n (q.request ++ changes rows)) m) (zero_more j)
    ∙ ap (λ (y : Row run_log). after_changes (take j (y.request ++ changes rows)) m) h
    ∙ ap (λ (l : List Change). after_changes l m) (take-append-le j r.request (changes rows) w)
  where
    zero_more : (i : ℕ) → 0 + i ≡ i
    zero_more i = omega arith
state-at (q ∷ rows) m (suc p) j r h w = ap (λ (n : ℕ). after_changes (take n (q.request ++ changes rows)) m) (split-spot q rows p j)
    ∙ ap (λ (l : List Change). after_changes l m) (take-right q.request (changes rows) (spot rows p j))
    ∙ changes-append q.request (take (spot rows p j) (changes rows)) m
    ∙ state-at rows (after_changes q.request m) p j r h w

pub answers_at : (xs : List Change) (m : Kept) (j : ℕ) (x : Change) → At xs j x → At (change_answers xs m) j (change_answer x (after_changes (take j xs) m))
unfolding change_answers after_changes
answers_at [] m j x h = absurd h
answers_at (y ∷ xs) m zero x h = ap (λ (z : Change). change_answer z m) h
answers_at (y ∷ xs) m (suc j) x h = answers_at xs (after_change y m) j x h

-- Before a later row come more single steps, by those of the row.
pub later-row : (rows : List (Row run_log)) (p q j i : ℕ) (r : Row run_log) → At rows p r → j < length r.request → p < q → spot rows p j < spot rows q i
unfolding changes
later-row [] p q j i r h w e = absurd h
later-row (x ∷ rows) p zero j i r h w e = absurd (omega arith)
later-row (x ∷ rows) zero (suc q) j i r h w e = omega (
  arith,
  split-spot x rows q i,
  ap (λ (y : Row run_log). length y.request) h,
)
later-row (x ∷ rows) (suc p) (suc q) j i r h w e = omega (
  arith,
  split-spot x rows p j,
  split-spot x rows q i,
  later-row rows p q j i r h w (omega arith),
)

-- Where what comes later has a higher index, one index is one place.
pub one_spot : (p q j i u v : ℕ) → ((p < q) ⊎ ((p ≡ q) × (j < i)) → u < v) → ((q < p) ⊎ ((q ≡ p) × (i < j)) → v < u) → u ≡ v → (p ≡ q) × (j ≡ i)
one_spot p q j i u v f g same = (place, change)
  where
    place : p ≡ q
    place = by-test (less p q) (λ (h : p < q). absurd (omega (arith, f (inl h), same)))
        (λ (h : q ≤ p). by-test (less q p) (λ (k : q < p). absurd (omega (arith, g (inl k), same))) (λ (k : p ≤ q). omega arith))

    change : j ≡ i
    change = by-test (less j i) (λ (h : j < i). absurd (omega (arith, f (inr (place, h)), same)))
        (λ (h : i ≤ j). by-test (less i j) (λ (k : i < j). absurd (omega (arith, g (inr (sym place, k)), same))) (λ (k : j ≤ i). omega arith))
