-- What reading meets: whether a text begins with a phrase, what follows it there, and where the client's numeral ends.
use Rattle.std.specs.Prelude.{ℕ, ◌-◌, ◌<◌, ◌≤◌, ◌≡◌, refl, ◌==◌, Bool, true, false, Option, Some, None, option_and_then, List, [], take, length, drop, eqb}
use Prim.Native.Char.{code}
use Rattle.std.proofs.Common.{arith, sym, ap, ◌∙◌, length-drop, length-take, take_all, drop_of_length-le}
use Rattle.std.specs.List.{position}
use Rattle.std.proofs.lemmas.List.Quantifiers.{position-Some}
use Rattle.text.specs.Bytes.{bytes}
use Rattle.text.specs.Find.{index_of, place-some, place-none}
use Rattle.sentences.specs.Phrases.{step_names, step_name, reasons}
use Rattle.sentences.specs.PhraseTableLaws.{name-count, reason-count}
use Rattle.std.specs.Cmp.Lexicographic.{pointwise}
use Rattle.std.proofs.lemmas.Bool.Decides.{same_from_decides, Decides-eqb}
use Rattle.std.proofs.lemmas.Slice.Eq.{slice_eq-Decides}
use Rattle.text.specs.Phrase.{same_bytes}
use Rattle.text.specs.PhraseLaws.{same-equal, equal-same}
use Rattle.sentences.specs.Read.{begins, behind, client_of}

equal-bytes : (bs phrase : List ℕ) (b : Bool) → b ≡ pointwise eqb bs phrase → b ≡ same_bytes bs phrase
equal-bytes bs phrase b e =
    same_from_decides b (same_bytes bs phrase) (slice_eq-Decides Decides-eqb bs phrase b e) (same-equal bs phrase, equal-same bs phrase)

pub starts-begins : (bs phrase : List ℕ) (b : Bool) → b ≡ pointwise eqb phrase (take (length phrase) bs) → b ≡ begins bs phrase
unfolding begins
starts-begins bs phrase b e =
    same_from_decides b (begins bs phrase) (slice_eq-Decides Decides-eqb phrase (take (length phrase) bs) b e)
    (λ h. sym (same-equal (take (length phrase) bs) phrase h), λ h. equal-same (take (length phrase) bs) phrase (sym h))

-- The part of a slice from n on is all that is left.
rest : (n : ℕ) (bs : List ℕ) → take (length bs - n) (drop n bs) ≡ drop n bs
rest n bs = take_all (length bs - n) (drop n bs) (omega (arith, length-drop n bs))

-- A prefix stripped from the part from n on.
module _ (phrase bs : List ℕ) (n m : ℕ) (same : n ≡ m) where
  tells : (b : Bool) → pointwise eqb (take (length phrase) (take (length bs - n) (drop n bs))) phrase ≡ b → begins (drop m bs) phrase ≡ b
  unfolding begins
  tells b e =
      let p : take (length bs - n) (drop n bs) ≡ drop m bs = rest n bs ∙ ap (λ (k : ℕ). drop k bs) same in
      sym (equal-bytes (take (length phrase) (drop m bs)) phrase b (sym (rw p at e)))

  pub not_stripped : pointwise eqb (take (length phrase) (take (length bs - n) (drop n bs))) phrase ≡ false → behind phrase (drop m bs) ≡ None
  unfolding behind
  not_stripped e = rw (tells false e)

  pub stripped : {L : Type 0} (tail : List ℕ) → (pointwise eqb (take (length phrase) (take (length bs - n) (drop n bs))) phrase ≡ true)
      × (tail ≡ drop (length phrase) (take (length bs - n) (drop n bs))) × L → behind phrase (drop m bs) ≡ Some tail
  unfolding behind
  stripped tail e = rw (tells true e.0) (ap Some (sym (e.1 ∙ ap (drop (length phrase)) (rest n bs ∙ ap (λ (k : ℕ). drop k bs) same))))

-- The name that begins a text is of a known step, and within the text.
pub named : (bs : List ℕ) (s : ℕ) → position (begins bs) step_names ≡ Some s → (s ≤ 9) × (length (step_name s) ≤ length bs)
unfolding begins step_name
named bs s e =
    let t = position-Some (begins bs) step_names s [] e in
    let p = same-equal (take (length (step_name s)) bs) (step_name s) t.1 in
    (omega (arith, name-count, t.0), omega (arith, ap (length {A = ℕ}) p, length-take (length (step_name s)) bs))

-- The colon that ends the numeral; without one no reason follows.
pub colon_place : (bs : List ℕ) (colon : ℕ) (found : Option ℕ) → found ≡ position (λ b. b == code ":") bs → found ≡ Some colon
    → colon ≡ index_of (code ":") bs
colon_place bs colon found e is = (place-some (code ":") bs colon (sym e ∙ is)).0

pub numeral_read : (bs : List ℕ) (colon : ℕ) (r : Option ℕ) → colon ≡ index_of (code ":") bs → r ≡ client_of (take colon bs)
    → client_of (take (index_of (code ":") bs) bs) ≡ r
numeral_read bs colon r e h = let q : index_of (code ":") bs ≡ colon = sym e in rw (q, h)

pub no_colon : (bs : List ℕ) → position (λ b. b == code ":") bs ≡ None → behind (bytes ": ") (drop (index_of (code ":") bs) bs) ≡ None
unfolding behind begins same_bytes
no_colon bs e =
    let none : drop (index_of (code ":") bs) bs ≡ [] = drop_of_length-le bs {i = index_of (code ":") bs} (omega (arith, place-none (code ":") bs e)) in
    rw none refl

-- Nothing is read, whatever client there is.
pub unread : {A B : Type 0} (o : Option A) → ◌≡◌ {A = Option B} (option_and_then (λ (a : A). None) o) None
unread None = refl
unread (Some a) = refl

-- The place of a reason is below the number of refusals.
pub placed : (bs : List ℕ) (place : ℕ) → position (same_bytes bs) reasons ≡ Some place → place < 28
placed bs place e = omega (arith, reason-count, (position-Some (same_bytes bs) reasons place [] e).0)
