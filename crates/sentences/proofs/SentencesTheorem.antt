-- The promises of sentences hold.
use Rattle.std.specs.Prelude.{ℕ, ◌<◌, ◌≤◌, ◌≡◌, refl, List, ◌++◌, length, take, Some, None, Ok, Err}
use Rattle.std.proofs.Common.{arith, sym, ap, subst, ◌∙◌, length-append, length-drop}
use Rattle.std.proofs.Math.ListN.{drop}
use Rattle.std.proofs.Math.Seq.{take-append_seam, drop-append_seam}
use Rattle.text.specs.Bytes.{bytes}
use Rattle.text.specs.Decimal.{decimal}
use Rattle.checks.specs.Test.{less, Holds, Fails}
use Rattle.checks.specs.TestLaws.{by-test, clash, holds-true, fails-false}
use Rattle.checks.specs.Checks.{passed_first}
use Rattle.chain.specs.declared.answer.Refusal.{Refusal}
use Rattle.chain.specs.declared.answer.Refusal.TheVariants.{TextTooShort, NoSentence}
use Rattle.chain.specs.Answers.{refused}
use Rattle.sentences.specs.Phrases.{step_name, reason}
use Rattle.sentences.specs.Sentences.{SentenceAnswer, sentence, fewest_bytes, unsaid, sentence_checks, sentence_answer, sentence_text, sentence_number}
use Rattle.sentences.specs.PhraseTableLaws.{name-holds, reason-holds}
use Rattle.sentences.specs.LengthLaws.{some-refusal, sentence-length}
use Rattle.sentences.specs.Read.{SentenceRead, says, read_sentence, sentence_step, sentence_client, sentence_refusal}
use Rattle.sentences.proofs.ReadingLaws.{True, true-read, says-own}
use Rattle.sentences.specs.SentencesPromise.{Numbers, SaysRefusals, ReadsSentences}

-- The condition of 28 says which numbers these are not.
numbers : (s c r : ℕ) → Fails (unsaid s c r) → Numbers s c r
numbers s c r f = record {
  step-number = f.0.0;
  client-number = f.0.1;
  some-refusal = some-refusal s c r f;
  refusal-number = f.1.1;
}

pub not-unsaid : (s c r : ℕ) → Numbers s c r → Fails (unsaid s c r)
not-unsaid s c r n = ((n.step-number, n.client-number), ((λ e. omega (arith, n.some-refusal, e)), n.refusal-number))

-- The three ends of a call, each with its answer and the text afterwards.
data Ends (s c r : ℕ) (text : List ℕ) (a : SentenceAnswer) (after : List ℕ) : Type 0 where
  short : length text < fewest_bytes → a ≡ Err TextTooShort → after ≡ text → Ends s c r text a after
  none : fewest_bytes ≤ length text → (Numbers s c r → ⊥) → a ≡ Err NoSentence → after ≡ text → Ends s c r text a after
  long : fewest_bytes ≤ length text → Numbers s c r → a ≡ Ok (length (sentence s c r))
      → after ≡ sentence s c r ++ drop (length (sentence s c r)) text → Ends s c r text a after

module _ (s c r : ℕ) (text : List ℕ) where
  pub said-answer : fewest_bytes ≤ length text → Fails (unsaid s c r) → sentence_answer s c r text ≡ Ok (length (sentence s c r))
  unfolding sentence_answer
  said-answer l f = passed_first (sentence_checks s c r text) Err (Ok (length (sentence s c r))) (l, (f, tt))

  said-text : fewest_bytes ≤ length text → Fails (unsaid s c r) → sentence_text s c r text ≡ sentence s c r ++ drop (length (sentence s c r)) text
  unfolding sentence_text
  said-text l f = passed_first (sentence_checks s c r text) (λ _. text) (sentence s c r ++ drop (length (sentence s c r)) text) (l, (f, tt))

  short-ends : length text < fewest_bytes → Ends s c r text (sentence_answer s c r text) (sentence_text s c r text)
  unfolding sentence_answer sentence_text
  short-ends l = let t = holds-true (less (length text) fewest_bytes) l in short l (rw t) (rw t)

  none-ends : fewest_bytes ≤ length text → Holds (unsaid s c r) → Ends s c r text (sentence_answer s c r text) (sentence_text s c r text)
  unfolding sentence_answer sentence_text
  none-ends l h =
      let t = fails-false (less (length text) fewest_bytes) l in
      let u = holds-true (unsaid s c r) h in
      none l (λ n. clash (unsaid s c r) h (not-unsaid s c r n)) (rw (t, u)) (rw (t, u))

  ends : Ends s c r text (sentence_answer s c r text) (sentence_text s c r text)
  ends = by-test (less (length text) fewest_bytes)
      short-ends
      (λ l. by-test (unsaid s c r) (none-ends l) (λ f. long l (numbers s c r f) (said-answer l f) (said-text l f)))

module _ {s c r : ℕ} {text after : List ℕ} {a : SentenceAnswer} where
  only-short : Ends s c r text a after → sentence_number a ≡ refused 27 → length text < fewest_bytes
  only-short (short l e f) h = l
  only-short (none l n e f) h = let z = ap sentence_number e in absurd (omega (arith, z, h))
  only-short (long l n e f) h = let z = ap sentence_number e in absurd (omega (arith, z, h))

  only_none : Ends s c r text a after → sentence_number a ≡ refused 28 → (fewest_bytes ≤ length text) × (Numbers s c r → ⊥)
  only_none (short l e f) h = let z = ap sentence_number e in absurd (omega (arith, z, h))
  only_none (none l n e f) h = (l, n)
  only_none (long l n e f) h = let z = ap sentence_number e in absurd (omega (arith, z, h))

  only-long : (n : ℕ) → Ends s c r text a after → a ≡ Ok n → (fewest_bytes ≤ length text) × (Numbers s c r × (n ≡ length (sentence s c r)))
  only-long n (short l e f) h = let z : ◌≡◌ {A = ℕ} 0 1 = cc in absurd (omega arith)
  only-long n (none l m e f) h = let z : ◌≡◌ {A = ℕ} 0 1 = cc in absurd (omega arith)
  only-long n (long l m e f) h = let q : n ≡ length (sentence s c r) = cc in (l, (m, q))

  to_short : Ends s c r text a after → length text < fewest_bytes → sentence_number a ≡ refused 27
  to_short (short k e f) l = ap sentence_number e
  to_short (none k m e f) l = absurd (omega arith)
  to_short (long k m e f) l = absurd (omega arith)

  to_none : Ends s c r text a after → fewest_bytes ≤ length text → (Numbers s c r → ⊥) → sentence_number a ≡ refused 28
  to_none (short k e f) l n = absurd (omega arith)
  to_none (none k m e f) l n = ap sentence_number e
  to_none (long k m e f) l n = absurd (n m)

  leaves : (q : Refusal) → Ends s c r text a after → a ≡ Err q → after ≡ text
  leaves q (short l e f) h = f
  leaves q (none l n e f) h = f
  leaves q (long l n e f) h = let z : ◌≡◌ {A = ℕ} 0 1 = cc in absurd (omega arith)

  writes : (n : ℕ) → Ends s c r text a after → a ≡ Ok n → (take n after ≡ sentence s c r) × (drop n after ≡ drop n text)
  writes n (short l e f) h = let z : ◌≡◌ {A = ℕ} 0 1 = cc in absurd (omega arith)
  writes n (none l m e f) h = let z : ◌≡◌ {A = ℕ} 0 1 = cc in absurd (omega arith)
  writes n (long l m e f) h =
      let q : n ≡ length (sentence s c r) = cc in (
        rw (q, f) (take-append_seam (sentence s c r) (drop (length (sentence s c r)) text)),
        rw (q, f) (drop-append_seam (sentence s c r) (drop (length (sentence s c r)) text)),
      )

  keeps-length : Ends s c r text a after → length after ≡ length text
  keeps-length (short l e f) = ap (length {A = ℕ}) f
  keeps-length (none l n e f) = ap (length {A = ℕ}) f
  keeps-length (long l n e f) = omega (
    arith,
    ap (length {A = ℕ}) f,
    length-append (sentence s c r) (drop (length (sentence s c r)) text),
    length-drop (length (sentence s c r)) text,
    sentence-length s c r (not-unsaid s c r n),
  )

-- A sentence says its numbers, so equal ones have the same.
told : (s c r s' c' r' : ℕ) → Numbers s c r → Numbers s' c' r' → sentence s c r ≡ sentence s' c' r' → (s ≡ s') × ((c ≡ c') × (r ≡ r'))
told s c r s' c' r' m n e =
    let q : says s c r ≡ says s' c' r' = sym (says-own s c r m) ∙ ap read_sentence e ∙ says-own s' c' r' n in
    (ap sentence_step q, (ap sentence_client q, ap sentence_refusal q))

alike : (s c r s' c' r' : ℕ) → (s ≡ s') × ((c ≡ c') × (r ≡ r')) → sentence s c r ≡ sentence s' c' r'
alike s c r s' c' r' e = rw (e.0, e.1.0, e.1.1)

formed : (s c r : ℕ) → sentence s c r ≡ step_name s ++ (bytes " of client " ++ (decimal c ++ (bytes ": " ++ reason r)))
unfolding sentence
formed s c r = refl

pub says-refusals : SaysRefusals
says-refusals = record {
  form = formed;
  name = name-holds;
  reason = reason-holds;
  equal = λ s c r s' c' r' m n. (told s c r s' c' r' m n, alike s c r s' c' r');
  fits = λ s c r n. sentence-length s c r (not-unsaid s c r n);
  short = λ s c r text. (only-short (ends s c r text), to_short (ends s c r text));
  none = λ s c r text. (only_none (ends s c r text), λ h. to_none (ends s c r text) h.0 h.1);
  long = λ s c r text n. (
    only-long n (ends s c r text),
    λ h. said-answer s c r text h.0 (not-unsaid s c r h.1.0) ∙ ap Ok (sym h.1.1),
  );
  refused = λ s c r text q. leaves q (ends s c r text);
  written = λ s c r text n e. (writes n (ends s c r text) e).0;
  rest-stays = λ s c r text n e. (writes n (ends s c r text) e).1;
  whole = λ s c r text. keeps-length (ends s c r text);
}

only-other : (bs : List ℕ) (a : SentenceRead) → True bs a → ((s c r : ℕ) → Numbers s c r → bs ≡ sentence s c r → ⊥) → a ≡ None
only-other bs (Some x) t never = absurd (never x.step x.client x.refusal t.0 t.1)
only-other bs None t never = refl

never_other : (bs : List ℕ) → read_sentence bs ≡ None → (s c r : ℕ) → Numbers s c r → bs ≡ sentence s c r → ⊥
never_other bs h s c r n e =
    let q : says s c r ≡ None = sym (says-own s c r n) ∙ ap read_sentence (sym e) ∙ h in
    let z : ◌≡◌ {A = ℕ} 0 1 = cc in omega arith

pub reads-sentences : ReadsSentences
reads-sentences = record {
  reads = λ s c r bs. (λ h. subst (True bs) h (true-read bs), λ h. ap read_sentence h.1 ∙ says-own s c r h.0);
  other = λ bs. (never_other bs, only-other bs (read_sentence bs) (true-read bs));
  back = λ s c r text n h.
      ap read_sentence (says-refusals.written s c r text n h) ∙ says-own s c r ((says-refusals.long s c r text n).0 h).1.0;
}
