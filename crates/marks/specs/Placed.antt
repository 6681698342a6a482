-- What the checks of set and of drop come to, with the index of the pair that they found.
use Rattle.std.specs.Prelude.{Result, Ok, Err, ℕ, ◌≡◌, List}
use Rattle.std.proofs.Common.{refl, sym, ◌∙◌}
use Rattle.checks.specs.Checks.{Check, first}
use Rattle.chain.specs.declared.answer.Refusal.{Refusal}
use Rattle.chain.specs.Verdicts.{Verdict, verdict, verdict-refuses, passes-first}
use Rattle.chain.specs.Operations.{Buffers}
use Rattle.chain.specs.Marks.{pairs_of, set_checks, drop_checks}
use Rattle.marks.specs.Pairs.{place_of}

-- Set: the first free pair.
unfoldable pub free_place : ℕ → Buffers → List ℕ → Result ℕ Refusal
free_place name b ms = first (set_checks name b ms) Err (Ok (place_of 0 (pairs_of ms)))

-- Drop and read: the pair with the name.
unfoldable pub kept_place : ℕ → Buffers → List ℕ → Result ℕ Refusal
kept_place name b ms = first (drop_checks name b ms) Err (Ok (place_of name (pairs_of ms)))

-- The verdict of some checks, from what they come to.
module _ (cs : List (Check Refusal)) (k : ℕ) where
  abbrev with_place : Verdict → Result ℕ Refusal
  with_place (Ok _) = Ok k
  with_place (Err r) = Err r

  said : (v : Verdict) → verdict cs ≡ v → first cs Err (Ok k) ≡ with_place v
  said (Ok _) e = passes-first cs Err (Ok k) e
  said (Err r) e = verdict-refuses cs Err (Ok k) r e

  refused : {r : Refusal} (v : Verdict) → with_place v ≡ Err r → v ≡ Err r
  refused (Ok _) e = absurd (no-refusal e)
    where
      no-refusal : {r : Refusal} → ◌≡◌ {A = Result ℕ Refusal} (Ok k) (Err r) → ⊥
      no-refusal e = cc
  refused (Err q) e = cc

  passed : {n : ℕ} (v : Verdict) → with_place v ≡ Ok n → (v ≡ (Ok (tt {0}))) × (n ≡ k)
  passed (Ok _) e = (refl, cc)
  passed (Err r) e = absurd (no-pass e)
    where
      no-pass : {n : ℕ} → ◌≡◌ {A = Result ℕ Refusal} (Err r) (Ok n) → ⊥
      no-pass e = cc

  module _ {c : Result ℕ Refusal} (is : c ≡ first cs Err (Ok k)) where
    pub by-refusal : {r : Refusal} → c ≡ Err r → verdict cs ≡ Err r
    by-refusal p = refused (verdict cs) (sym (said (verdict cs) refl) ∙ sym is ∙ p)

    pub by-place : {n : ℕ} → c ≡ Ok n → (verdict cs ≡ (Ok (tt {0}))) × (n ≡ k)
    by-place p = passed (verdict cs) (sym (said (verdict cs) refl) ∙ sym is ∙ p)
