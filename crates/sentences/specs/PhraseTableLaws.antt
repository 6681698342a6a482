-- The tables of phrases, tested once by computing: how many there are, and the bytes of each. What the code finds in its own tables.
use Rattle.std.specs.Prelude.{ℕ, zero, suc, ◌-◌, ◌<◌, ◌≤◌, ◌≡◌, refl, Bool, true, ◌&&◌, List, [], ◌∷◌, length, get_or}
use Rattle.std.proofs.Common.{arith, sym, ap, ◌∙◌}
use Rattle.std.specs.List.{position_or_len, position}
use Rattle.std.specs.Borrow.{Bor}
use Rattle.std.proofs.lemmas.List.{length-map, get_or-map}
use Rattle.std.proofs.Math.ListN.{get_or-eq_default}
use Rattle.std.proofs.Math.Bool.{and-eq-true_iff}
use Rattle.checks.specs.Test.{every_from, test, Holds}
use Rattle.checks.specs.TestLaws.{true-holds, by_bool}
use Rattle.sentences.specs.Phrases.{texts, step_names, reasons, step_name, reason, phrase_test, longest_name, longest_reason}

passes_all : ℕ → List (List ℕ) → Bool
passes_all longest [] = true
passes_all longest (bs ∷ others) = test (phrase_test longest bs) && passes_all longest others

passes : (longest : ℕ) (table : List (List ℕ)) → passes_all longest table ≡ true → (i : ℕ) → i < length table → Holds (phrase_test longest (get_or table i []))
unfolding passes_all
passes longest [] h i l = absurd (omega arith)
passes longest (bs ∷ others) h zero l =
    true-holds (phrase_test longest bs) ((and-eq-true_iff (test (phrase_test longest bs)) (passes_all longest others)).0 h).0
passes longest (bs ∷ others) h (suc i) l = passes longest others ((and-eq-true_iff (test (phrase_test longest bs)) (passes_all longest others)).0 h).1 i (omega arith)

pub name-count : length step_names ≡ 10
unfolding step_names
name-count = refl

pub reason-count : length reasons ≡ 28
unfolding reasons
reason-count = refl

names-pass : passes_all longest_name step_names ≡ true
unfolding passes_all step_names every_from
names-pass = refl

reasons-pass : passes_all longest_reason reasons ≡ true
unfolding passes_all reasons every_from
reasons-pass = refl

-- Behind the tables each phrase is empty.
pub no_name : (step : ℕ) → 9 < step → step_name step ≡ []
unfolding step_name
no_name step l = get_or-eq_default step_names [] (omega (arith, name-count))

pub no-reason : (refusal : ℕ) → 28 < refusal → reason refusal ≡ []
unfolding reason
no-reason refusal l = get_or-eq_default ([] ∷ reasons) [] (omega (arith, reason-count))

pub name-holds : (step : ℕ) → step ≤ 9 → Holds (phrase_test longest_name (step_name step))
unfolding step_name
name-holds step l = passes longest_name step_names names-pass step (omega (arith, name-count))

pub reason-holds : (refusal : ℕ) → 1 ≤ refusal → refusal ≤ 28 → Holds (phrase_test longest_reason (reason refusal))
unfolding reason
reason-holds zero s l = absurd (omega arith)
reason-holds (suc i) s l = passes longest_reason reasons reasons-pass i (omega (arith, reason-count))

pub reason-entry : (refusal : ℕ) → 1 ≤ refusal → get_or reasons (refusal - 1) [] ≡ reason refusal
unfolding reason
reason-entry zero l = absurd (omega arith)
reason-entry (suc i) l = let e : suc i - 1 ≡ i = omega arith in rw e

-- A table of the code with the phrases of a table here.
module _ (found : List (Bor (List ℕ))) (table : List (List ℕ)) (same : texts found ≡ table) where
  pub texts-length : length found ≡ length table
  texts-length = sym (length-map found (λ phrase. phrase.now)) ∙ ap (length {A = List ℕ}) same

  pub texts-at : (i : ℕ) (d : Bor (List ℕ)) → i < length table → (get_or found i d).now ≡ get_or table i []
  texts-at i d l = sym (get_or-map (λ phrase. phrase.now) found i d [] (omega (arith, texts-length))) ∙ ap (λ (t : List (List ℕ)). get_or t i []) same

texts-first : (p : List ℕ → Bool) (found : List (Bor (List ℕ))) → position_or_len (λ phrase. p phrase.now) found ≡ position_or_len p (texts found)
texts-first p [] = refl
texts-first p (x ∷ others) = by_bool (p x.now) (λ h. rw h) (λ h. rw (h, texts-first p others))

pub texts-position : (p : List ℕ → Bool) (found : List (Bor (List ℕ))) → position (λ phrase. p phrase.now) found ≡ position p (texts found)
texts-position p found = rw (texts-first p found, length-map found (λ phrase. phrase.now))
