-- Reading is the inverse of the sentence: what it says is true of the bytes, and of every sentence it says its numbers.
use Prim.Native.Nat.{ℕ, zero, suc, ◌+◌, ◌<◌, ◌≤◌}
use Prim.Native.Char.{code}
use native.Mathlib.Omega.{arith}
use Rattle.std.specs.Prelude.{◌≡◌, Bool, true, Some, None, length, take, drop, leb, eqb}
use Rattle.std.specs.List.{position}
use Rattle.std.proofs.Math.Path.{refl, ap}
use Rattle.std.proofs.Common.{sym, ◌∙◌, add-one, subst, take-append-drop, le-leb, leb-true, lt-ltb, eqb-true}
use Rattle.std.proofs.Math.Bool.{and-eq-true_iff}
use Rattle.std.proofs.lemmas.List.Sums.{position_or_len_is}
use Rattle.std.proofs.lemmas.List.Quantifiers.{position-Some}
use Rattle.std.proofs.lemmas.Option.{cond_some, option_and_then_some, same_Some}
use mathlib.Core.List.{List, [], ◌∷◌, ◌++◌}
use Rattle.std.proofs.Math.ListN.{get_or}
use Rattle.std.proofs.Math.Seq.{take-append_seam, drop-append_seam}
use Rattle.text.specs.Bytes.{bytes}
use Rattle.text.specs.Decimal.{decimal, is_digit, all_digits, numeral_of}
use Rattle.text.specs.DecimalLaws.{all-decimal, digit-range, parse-print, print-parse}
use Rattle.text.specs.Find.{index_of}
use Rattle.text.specs.Phrase.{same_bytes}
use Rattle.text.specs.PhraseLaws.{same-equal, equal-same}
use Rattle.checks.specs.TestLaws.{by_bool}
use Rattle.sentences.specs.declared.answer.SentenceNumbers.{SentenceNumbers}
use Rattle.sentences.specs.Phrases.{step_names, reasons, step_name, reason}
use Rattle.sentences.specs.Sentences.{sentence}
use Rattle.sentences.specs.Read.{SentenceRead, begins, behind, client_of, says, read_sentence}
use Rattle.sentences.specs.ApartLaws.{same_place}
use Rattle.sentences.specs.PhraseTableLaws.{name-count, reason-count}
use Rattle.sentences.proofs.TablesApart.{names_apart, reasons-apart}
use Rattle.sentences.specs.SentencesPromise.{Numbers}

-- A phrase at the beginning.
begins-split : (bs phrase : List ℕ) → begins bs phrase ≡ true → bs ≡ phrase ++ drop (length phrase) bs
unfolding begins
begins-split bs phrase h =
    sym (take-append-drop (length phrase) bs)
    ∙ ap (λ (front : List ℕ). front ++ drop (length phrase) bs) (same-equal (take (length phrase) bs) phrase h)

begins-joined : (phrase tail : List ℕ) → begins (phrase ++ tail) phrase ≡ true
unfolding begins
begins-joined phrase tail = equal-same (take (length phrase) (phrase ++ tail)) phrase (take-append_seam phrase tail)

behind-split : (phrase bs tail : List ℕ) → behind phrase bs ≡ Some tail → bs ≡ phrase ++ tail
unfolding behind
behind-split phrase bs tail h =
    let t = cond_some (begins bs phrase) (drop (length phrase) bs) tail h in begins-split bs phrase t.0 ∙ ap (λ (l : List ℕ). phrase ++ l) t.1

behind-joined : (phrase tail : List ℕ) → behind phrase (phrase ++ tail) ≡ Some tail
unfolding behind
behind-joined phrase tail = rw (begins-joined phrase tail) (ap Some (drop-append_seam phrase tail))

-- The only string of a table that passes is the first.
position-only : (passes : List ℕ → Bool) (table : List (List ℕ)) (j : ℕ) → j < length table → passes (get_or table j []) ≡ true
    → ((k : ℕ) → k < length table → passes (get_or table k []) ≡ true → k ≡ j) → position passes table ≡ Some j
position-only passes table j l h only =
    let e = position_or_len_is passes table j [] (omega arith)
    (λ k m. by_bool (passes (get_or table k [])) (λ t. let z = only k (omega arith) t in absurd (omega arith)) (λ t. t)) (λ _. h) in
    rw (e, lt-ltb j (length table) l)

-- The client's numeral.
client-split : (ds : List ℕ) (c : ℕ) → client_of ds ≡ Some c → (ds ≡ decimal c) × (c ≤ 255)
client-split ds c h = option_and_then_some _ (numeral_of ds) c h (λ n e h.
    let t = cond_some (leb n 255) n c h in (print-parse ds c (e ∙ ap Some t.1), omega (arith, leb-true n 255 t.0)))

client-joined : (c : ℕ) → c ≤ 255 → client_of (decimal c) ≡ Some c
client-joined c l = rw (parse-print c (omega arith), le-leb c 255 l)

-- What reading says is true.
abbrev pub True : List ℕ → SentenceRead → Type 0
True whole (Some x) = Numbers x.step x.client x.refusal × (whole ≡ sentence x.step x.client x.refusal)
True whole None = Unit {0}

true-numbers : (bs : List ℕ) (x : SentenceNumbers) → read_sentence bs ≡ Some x
    → Numbers x.step x.client x.refusal × (bs ≡ sentence x.step x.client x.refusal)
unfolding read_sentence sentence step_name reason
true-numbers bs x h =
    option_and_then_some _ (position (begins bs) step_names) x h (λ s p h.
    option_and_then_some _ (behind (bytes " of client ") (drop (length (step_name s)) bs)) x h (λ m q h.
    option_and_then_some _ (client_of (take (index_of (code ":") m) m)) x h (λ c r h.
    option_and_then_some _ (behind (bytes ": ") (drop (index_of (code ":") m) m)) x h (λ t u h.
    option_and_then_some _ (position (same_bytes t) reasons) x h (λ i v h.
    let j = position-Some (begins bs) step_names s [] p in
    let k = position-Some (same_bytes t) reasons i [] v in
    let d = client-split (take (index_of (code ":") m) m) c r in
    let colon : m ≡ decimal c ++ (bytes ": " ++ reason (i + 1)) =
    sym (take-append-drop (index_of (code ":") m) m)
    ∙ rw (d.0, behind-split (bytes ": ") (drop (index_of (code ":") m) m) t u, same-equal t (get_or reasons i []) k.1, add-one i) in
    let all : bs ≡ sentence s c (i + 1) =
    begins-split bs (step_name s) j.1
    ∙ ap (λ (l : List ℕ). step_name s ++ l) (behind-split (bytes " of client ") (drop (length (step_name s)) bs) m q)
    ∙ ap (λ (l : List ℕ). step_name s ++ (bytes " of client " ++ l)) colon in
    let known : Numbers s c (i + 1) =
    record { step-number = omega (arith, name-count, j.0); client-number = d.1; some-refusal = omega arith; refusal-number = omega (arith, reason-count, k.0) } in
    subst (λ (y : SentenceNumbers). Numbers y.step y.client y.refusal × (bs ≡ sentence y.step y.client y.refusal))
    (same_Some (record { step = s; client = c; refusal = i + 1 }) x h) (known, all))))))

true_as : (bs : List ℕ) (a : SentenceRead) → read_sentence bs ≡ a → True bs a
true_as bs (Some x) h = true-numbers bs x h
true_as bs None h = tt

pub true-read : (bs : List ℕ) → True bs (read_sentence bs)
true-read bs = true_as bs (read_sentence bs) refl

-- A numeral ends at the colon.
colon-after : (ds bs : List ℕ) → all_digits ds ≡ true → index_of 58 (ds ++ 58 ∷ bs) ≡ length ds
unfolding index_of all_digits
colon-after [] bs h = refl
colon-after (d ∷ ds) bs h =
    let t = (and-eq-true_iff (is_digit d) (all_digits ds)).0 h in
    let r = digit-range d t.0 in
    by_bool (eqb d 58) (λ e. let z = eqb-true d 58 e in absurd (omega arith)) (λ e. rw e (ap suc (colon-after ds bs t.1)))

-- Every sentence says its numbers.
name-place : (s : ℕ) (tail : List ℕ) → s ≤ 9 → position (begins (step_name s ++ tail)) step_names ≡ Some s
unfolding step_name
name-place s tail known =
    let name : List ℕ = get_or step_names s [] in
    let l : s < length step_names = omega (arith, name-count) in
    position-only (begins (name ++ tail)) step_names s l (begins-joined name tail)
    (λ k m h. same_place step_names names_apart k s m l (drop (length (get_or step_names k [])) (name ++ tail)) tail
    (sym (begins-split (name ++ tail) (get_or step_names k []) h)))

reason-place : (i : ℕ) → i < 28 → position (same_bytes (reason (suc i))) reasons ≡ Some i
unfolding reason
reason-place i known =
    let text : List ℕ = get_or reasons i [] in
    let l : i < length reasons = omega (arith, reason-count) in
    position-only (same_bytes text) reasons i l (equal-same text text refl)
    (λ k m h. same_place reasons reasons-apart k i m l [] [] (ap (λ (t : List ℕ). t ++ []) (sym (same-equal text (get_or reasons k []) h))))

pub says-own : (s c r : ℕ) → Numbers s c r → read_sentence (sentence s c r) ≡ says s c r
unfolding read_sentence sentence
says-own s c zero n = absurd (omega (arith, n.some-refusal))
says-own s c (suc i) n =
    let v : List ℕ = 32 ∷ reason (suc i) in
    let m : List ℕ = decimal c ++ 58 ∷ v in
    rw (
      name-place s (bytes " of client " ++ m) n.step-number,
      drop-append_seam (step_name s) (bytes " of client " ++ m),
      behind-joined (bytes " of client ") m,
      colon-after (decimal c) v (all-decimal c),
      take-append_seam (decimal c) (58 ∷ v),
      client-joined c n.client-number,
      drop-append_seam (decimal c) (58 ∷ v),
      behind-joined (bytes ": ") (reason (suc i)),
      reason-place i (omega (arith, n.refusal-number)),
    ) (ap (says s c) (add-one i))
