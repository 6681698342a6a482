-- Runs of stores, one after the other.
use Rattle.std.specs.Prelude.{ℕ, suc, ◌+◌, ◌-◌, ◌≤◌, ◌≡◌, refl, List, [], ◌∷◌, ◌++◌, length, take, drop, set}
use Rattle.std.proofs.Common.{arith, sym, ap, ◌∙◌, take_all}
use Rattle.std.proofs.lemmas.List.Edits.{sets, sets-eq}
use Rattle.std.proofs.lemmas.Slice.{put_mid-paste}
use borrow.Rule.Slice.PartMut.{put_mid}

pub sets-++ : (xs : List ℕ) (at : ℕ) (a b : List ℕ) → sets (sets xs at a) (at + length a) b ≡ sets xs at (a ++ b)
sets-++ xs at [] b = let q : at + 0 ≡ at = omega arith in rw q
sets-++ xs at (v ∷ a) b = let q : at + suc (length a) ≡ suc at + length a = omega arith in rw q (sets-++ (set xs at v) (suc at) a b)

-- A part of a text that is another's copy.
pub copied : (part copy text : List ℕ) (at : ℕ) → copy ≡ part → at + length part ≤ length text
    → put_mid at (at + length part - at) text copy ≡ sets text at part
copied part copy text at e l =
    put_mid-paste at (at + length part - at) text copy part (length part) e (omega arith) refl
    ∙ ap (λ (x : List ℕ). take at text ++ x ++ drop (at + length part) text) (take_all (length part) part (omega arith))
    ∙ sym (sets-eq part text at l)
