-- What the code owes at each of its ends: a short text buffer, numbers without a sentence, and the sentence itself, which has room, and behind which the
-- bytes stay.
use Rattle.std.specs.Prelude.{ℕ, ◌+◌, ◌<◌, ◌≤◌, ◌≡◌, Bool, true, false, List, ◌++◌, length, drop, Ok, Err}
use Rattle.std.proofs.Common.{arith, ap, ◌∙◌}
use Rattle.std.proofs.Math.Path.{sym}
use Rattle.std.proofs.Math.Seq.{sets-eq}
use Rattle.text.specs.Puts.{Puts, Room}
use Rattle.checks.specs.Test.{less, test, Fails}
use Rattle.checks.specs.TestLaws.{holds-true, fails-false, false-fails}
use Rattle.chain.specs.declared.answer.Refusal.TheVariants.{TextTooShort, NoSentence}
use Rattle.sentences.specs.Sentences.{sentence, fewest_bytes, unsaid, sentence_answer, sentence_text}
use Rattle.sentences.specs.LengthLaws.{sentence-length}

pub room : (step client refusal : ℕ) (text : List ℕ) → Fails (unsaid step client refusal) → fewest_bytes ≤ length text
    → Room text 0 (sentence step client refusal)
room step client refusal text said long = record { fits = omega (arith, sentence-length step client refusal said) }

pub put_front : {text bs after : List ℕ} {n : ℕ} → Puts text 0 bs after n → Room text 0 bs → (n ≡ length bs) × (after ≡ bs ++ drop (length bs) text)
put_front {text} {bs} p r =
    let z : 0 + length bs ≡ length bs = omega arith in
    (omega (arith, p.ends), p.stored ∙ sets-eq bs text 0 (omega (arith, r.fits)) ∙ ap (λ (k : ℕ). bs ++ drop k text) z)

module _ (step client refusal : ℕ) (text : List ℕ) where
  pub too_short : length text < fewest_bytes
      → (Err TextTooShort ≡ sentence_answer step client refusal text) × (text ≡ sentence_text step client refusal text)
  unfolding sentence_answer sentence_text
  too_short h = let t = holds-true (less (length text) fewest_bytes) h in (rw t, rw t)

  pub known : (b : Bool) → b ≡ test (unsaid step client refusal) → b ≡ false → Fails (unsaid step client refusal)
  known b e h = false-fails (unsaid step client refusal) (sym e ∙ h)

  module _ (long : fewest_bytes ≤ length text) where
    enough : test (less (length text) fewest_bytes) ≡ false
    enough = fails-false (less (length text) fewest_bytes) long

    pub not-said : (b : Bool) → b ≡ test (unsaid step client refusal) → b ≡ true
        → (Err NoSentence ≡ sentence_answer step client refusal text) × (text ≡ sentence_text step client refusal text)
    unfolding sentence_answer sentence_text
    not-said b e h = let t = sym e ∙ h in (rw (enough, t), rw (enough, t))

    module _ (b : Bool) (e : b ≡ test (unsaid step client refusal)) (h : b ≡ false) where
      none-unsaid : test (unsaid step client refusal) ≡ false
      none-unsaid = sym e ∙ h

      pub said : (after : List ℕ) (n : ℕ) → Puts text 0 (sentence step client refusal) after n
          → (Ok n ≡ sentence_answer step client refusal text) × (after ≡ sentence_text step client refusal text)
      unfolding sentence_answer sentence_text
      said after n p = let put = put_front p (room step client refusal text (known b e h) long) in
          (rw (enough, none-unsaid) (ap Ok put.0), rw (enough, none-unsaid) put.1)
