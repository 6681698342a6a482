-- The listed ledgers one after the other, as the log names them place after place: what the loop over the places meets.
use Rattle.std.specs.Prelude.{ℕ, ◌+◌, ◌-◌, ◌<◌, ◌≤◌, ◌≡◌, List, [], ◌∷◌, get_or, take, drop, Ok, Err}
use Rattle.std.proofs.Common.{arith, add-one, sym, subst, ◌∙◌, inr, drop_of_length-le, length-take, drop-cons}
use Rattle.std.proofs.Math.Path.{refl, ap}
use Rattle.std.proofs.Math.ListN.{length}
use Rattle.std.proofs.lemmas.List.{length-map}
use Rattle.text.specs.Puts.{Puts, Room, room-first, Left, left-all, left-room, left-turn, left-none}
use Rattle.checks.specs.Test.{less}
use Rattle.checks.specs.TestLaws.{by-test}
use Rattle.checks.specs.ResultLaws.{ok-err}
use Rattle.records.specs.declared.numbers.LedgerNumber.{LedgerNumber}
use Rattle.records.specs.Layout.{place_index}
use Rattle.records.specs.Words.{ledger_number, unpack_place}
use Rattle.records.specs.WordLaws.{head-fits}
use Rattle.chain.specs.declared.answer.Refusal.{Refusal}
use Rattle.chain.specs.Answered.{PlaceAnswer}
use Rattle.chain.specs.Buffers.{head, list_in}
use Rattle.chain.specs.Operations.{Buffers, held, IsLog, ledger_at}
use Rattle.totals.specs.TotalsTheorem.{totals-show-history}
use Rattle.total.specs.Output.{part_line, ledger_lines}

-- There are at most 255 list places in use.
pub list-few : (b : Buffers) → length (held b).list ≤ 255
unfolding list_in head
list-few b =
    let n : ℕ = (head b.state).list_length in
    let words : List ℕ = drop (place_index 1) b.state in
    omega (arith, length-map (take n words) (λ word. (unpack_place word).0), length-take n words, (head-fits (get_or b.state 0 0)).list)

-- A loop that has come to a list place.
pub record Listing (b : Buffers) (text : List ℕ) (from p : ℕ) (text' : List ℕ) (at : ℕ) : Type 0 where
  pub some : 1 ≤ p
  pub few : p ≤ length (held b).list + 1
  pub left : Left text from (ledger_lines (held b).list b) text' at (ledger_lines (drop (p - 1) (held b).list) b)

pub listing_start : (b : Buffers) (text : List ℕ) (from : ℕ) → Listing b text from 1 text from
listing_start b text from = record { some = omega arith; few = omega arith; left = left-all text from (ledger_lines (held b).list b) }

module _ {b : Buffers} {text : List ℕ} {from p : ℕ} {text' : List ℕ} {at : ℕ} (i : IsLog b) (l : Listing b text from p text' at) where
  -- The ledger that the log names there.
  module _ (k : LedgerNumber) (named : Ok k ≡ ledger_at p b) where
    pub within : p ≤ length (held b).list
    within = by-test (less (length (held b).list) p)
        (λ h. absurd (ok-err k _ (named ∙ (totals-show-history.log b i).no_place p (inr h))))
        (λ h. h)

    is : k.0 ≡ get_or (held b).list (p - 1) 0
    is =
        let q : p - 1 + 1 ≡ p = omega (arith, l.some) in
        same (named ∙ ap (λ (n : ℕ). ledger_at n b) (sym q) ∙ (totals-show-history.log b i).place (p - 1) (omega (arith, l.some, within)))
      where
        same : ◌≡◌ {A = PlaceAnswer} (Ok k) (Ok (ledger_number (get_or (held b).list (p - 1) 0))) → k.0 ≡ get_or (held b).list (p - 1) 0
        same e = cc

    here : drop (p - 1) (held b).list ≡ k.0 ∷ drop (p + 1 - 1) (held b).list
    here =
        let q : p - 1 + 1 ≡ p + 1 - 1 = omega (arith, l.some) in
        rw (is, ← q, add-one (p - 1)) (drop-cons (held b).list (p - 1) 0 (omega (arith, l.some, within)))

    left_here : Left text from (ledger_lines (held b).list b) text' at (ledger_lines (k.0 ∷ drop (p + 1 - 1) (held b).list) b)
    left_here = subst (λ (ks : List ℕ). Left text from (ledger_lines (held b).list b) text' at (ledger_lines ks b)) here l.left

    pub listing-room : Room text from (ledger_lines (held b).list b) → Room text' at (part_line k.0 b)
    unfolding ledger_lines
    listing-room room = room-first _ _ (left-room left_here room)

    pub listing-turn : {text'' : List ℕ} {at'' : ℕ} → Puts text' at (part_line k.0 b) text'' at'' → Listing b text from (p + 1) text'' at''
    unfolding ledger_lines
    listing-turn puts = record { some = omega arith; few = omega (arith, within); left = left-turn left_here refl puts }

  -- The list has no such place: all its ledgers are in the text.
  pub listing-end : (r : Refusal) → Err r ≡ ledger_at p b → Puts text from (ledger_lines (held b).list b) text' at
  unfolding ledger_lines
  listing-end r refused = left-none (rw none at l.left)
    where
      past : length (held b).list < p
      past = by-test (less (length (held b).list) p) (λ h. h)
          (λ h. let q : p - 1 + 1 ≡ p = omega (arith, l.some) in
          absurd (ok-err _ r (sym (refused ∙ ap (λ (n : ℕ). ledger_at n b) (sym q) ∙ (totals-show-history.log b i).place (p - 1) (omega (arith, l.some))))))

      none : drop (p - 1) (held b).list ≡ []
      none = let q : length (held b).list ≤ p - 1 = omega (arith, past) in drop_of_length-le (held b).list q

  -- Past the last place that there may be, too.
  pub listing_over : 255 < p → Puts text from (ledger_lines (held b).list b) text' at
  unfolding ledger_lines
  listing_over past =
      let none : drop (p - 1) (held b).list ≡ [] = drop_of_length-le (held b).list (omega (arith, list-few b)) in
      left-none (rw none at l.left)
