-- What the checks of set and of drop decide, by the verdict on all three buffers and by where the name stands.
use Rattle.std.specs.Prelude.{ℕ, ◌≡◌, true, false, not, ◌&&◌, ◌||◌, List, [], ◌∷◌, eqb, Ok, Err}
use Rattle.std.proofs.Math.Path.{sym}
use Rattle.std.specs.Option.{ok_or}
use Rattle.std.proofs.Common.{◌∙◌}
use Rattle.checks.specs.TestLaws.{by_bool}
use Rattle.checks.specs.Test.{same, either, is_not, flag}
use Rattle.checks.specs.Checks.{Check, ◌when◌}
use Rattle.chain.specs.declared.answer.Refusal.{Refusal}
use Rattle.chain.specs.declared.answer.Refusal.TheVariants.{MarkNameTaken, MarksFull, MarkNotKept}
use Rattle.chain.specs.Verdicts.{Verdict}
use Rattle.chain.specs.Verdicts.{verdict, verdict-refuses, passes-first}
use Rattle.chain.specs.Operations.{buffers}
use Rattle.chain.specs.Marks.{pairs_of, among, is_kept, marks_checks, set_checks, drop_checks}
use Rattle.marks.specs.Pairs.{place_of, place, mark}
use Rattle.marks.specs.Placed.{free_place, kept_place}
use Rattle.marks.specs.MarksVerdictLaws.{refused-first, passed_on}

module _ (name : ℕ) (s e ms : List ℕ) (v : Verdict) (is : v ≡ verdict (marks_checks (buffers s e) ms [])) where
  abbrev kept_check : List (Check Refusal)
  kept_check = (MarkNotKept when is_not (is_kept name ms)) ∷ []

  abbrev free_checks : List (Check Refusal)
  free_checks = (MarkNameTaken when either (same name 0) (flag (among name (pairs_of ms)))) ∷ (MarksFull when is_not (flag (among 0 (pairs_of ms)))) ∷ []

  pub drop-refused : (r : Refusal) → v ≡ Err r → Err r ≡ kept_place name (buffers s e) ms
  unfolding kept_place
  drop-refused r p = sym (verdict-refuses (drop_checks name (buffers s e) ms) Err (Ok (place_of name (pairs_of ms))) r (refused-first s e ms kept_check v is r p))

  pub set-refused : (r : Refusal) → v ≡ Err r → Err r ≡ free_place name (buffers s e) ms
  unfolding free_place
  set-refused r p = sym (verdict-refuses (set_checks name (buffers s e) ms) Err (Ok (place_of 0 (pairs_of ms))) r (refused-first s e ms free_checks v is r p))

  module _ (p : v ≡ (Ok (tt {0}))) where
    unkept : (not (eqb name 0) && among name (pairs_of ms)) ≡ false → Err MarkNotKept ≡ kept_place name (buffers s e) ms
    unfolding verdict kept_place
    unkept f = sym (verdict-refuses (drop_checks name (buffers s e) ms) Err (Ok (place_of name (pairs_of ms))) MarkNotKept (passed_on s e ms kept_check v is p ∙ rw f))

    kept : (not (eqb name 0) && among name (pairs_of ms)) ≡ true → Ok (place_of name (pairs_of ms)) ≡ kept_place name (buffers s e) ms
    unfolding verdict kept_place
    kept t = sym (passes-first (drop_checks name (buffers s e) ms) Err (Ok (place_of name (pairs_of ms))) (passed_on s e ms kept_check v is p ∙ rw t))

    pub drop-found : ok_or (mark name (pairs_of ms)) MarkNotKept ≡ kept_place name (buffers s e) ms
    drop-found = by_bool (eqb name 0)
        (λ z. rw z (unkept (rw z)))
        (λ n. by_bool (among name (pairs_of ms)) (λ t. rw (n, t) (kept (rw (n, t)))) (λ f. rw (n, f) (unkept (rw (n, f)))))

    pub set-taken : (eqb name 0 || among name (pairs_of ms)) ≡ true → Err MarkNameTaken ≡ free_place name (buffers s e) ms
    unfolding verdict free_place
    set-taken t = sym (verdict-refuses (set_checks name (buffers s e) ms) Err (Ok (place_of 0 (pairs_of ms))) MarkNameTaken (passed_on s e ms free_checks v is p ∙ rw t))

    module _ (free : (eqb name 0 || among name (pairs_of ms)) ≡ false) where
      full : among 0 (pairs_of ms) ≡ false → Err MarksFull ≡ free_place name (buffers s e) ms
      unfolding verdict free_place
      full f = sym (verdict-refuses (set_checks name (buffers s e) ms) Err (Ok (place_of 0 (pairs_of ms))) MarksFull (passed_on s e ms free_checks v is p ∙ rw (free, f)))

      room : among 0 (pairs_of ms) ≡ true → Ok (place_of 0 (pairs_of ms)) ≡ free_place name (buffers s e) ms
      unfolding verdict free_place
      room t = sym (passes-first (set_checks name (buffers s e) ms) Err (Ok (place_of 0 (pairs_of ms))) (passed_on s e ms free_checks v is p ∙ rw (free, t)))

      pub set-found : ok_or (place 0 (pairs_of ms)) MarksFull ≡ free_place name (buffers s e) ms
      set-found = by_bool (among 0 (pairs_of ms)) (λ t. rw t (room t)) (λ f. rw f (full f))
