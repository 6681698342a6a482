-- A sum in ones of 10^12 parts and the parts left: what the loop over the ledgers' parts meets.
use Rattle.std.specs.Prelude.{ℕ, ◌+◌, ◌*◌, ◌/◌, ◌%◌, ◌^◌, ◌<◌, ◌≤◌, ◌≡◌, List, [], ◌∷◌, length, take, drop}
use Rattle.std.specs.List.{concat}
use Rattle.std.proofs.Common.{arith, sym, subst, ◌∙◌, length-take}
use Rattle.std.proofs.Math.ListN.{length-map}
use Rattle.std.proofs.Math.Path.{ap}
use Rattle.records.specs.declared.head.Head.{Head}
use Rattle.chain.specs.Log.{of_ledger}
use Rattle.chain.specs.Operations.{word_ledger}
use Rattle.chain.specs.Values.{sum, sum_of}
use Rattle.chain.proofs.Laws.Lists.{of-shorter}
use Rattle.chain.proofs.Laws.Values.{sum_bound, sum-append}
use Rattle.readers.specs.ListedLaws.{place_ledger}
use Rattle.readers.specs.Readable.{Readable}
use Rattle.readers.specs.Along.{parts, chain_parts, chain_words, chain-parts}

-- A sum of at most 255 ledgers' values. With a carry, each adds at most 18,446,745 ones: a sum of 64 bits has one less.
pub record Exactly (n ones parts : ℕ) : Type 0 where
  pub ones-are : ones ≡ n / 10 ^ 12
  pub parts_are : parts ≡ n % 10 ^ 12
  pub ones-few : ones ≤ 255 * 18446745

-- No part has more words than a log.
abbrev pub Short : List (List ℕ) → Type 0
Short [] = Unit {0}
Short (part ∷ rest) = (length part ≤ 4096) × Short rest

-- The parts added up so far, and those that are left.
pub record Carried (left whole : List (List ℕ)) (ones parts : ℕ) : Type 0 where
  pub sums : ones * 10 ^ 12 + parts + sum_of (concat left) ≡ sum_of (concat whole)
  pub small : parts < 10 ^ 12
  pub few : ones + length left * 18446745 ≤ 255 * 18446745
  pub short : Short left

parts-short : (places words : List ℕ) → length words ≤ 4096 → Short (parts places words)
parts-short [] words h = tt
parts-short (w ∷ places) words h = (omega (arith, of-shorter word_ledger (place_ledger w) words), parts-short places words h)

pub carry-start : (s e : List ℕ) (h : Head) → Readable s e h → length e ≤ 4096 → Carried (chain_parts s e h) (chain_parts s e h) 0 0
unfolding chain_parts
carry-start s e h r short =
    let listed : List ℕ = take h.list_length (drop 272 s) in
    let used : List ℕ = take h.entry_count e in
    record {
      sums = omega arith;
      small = omega arith;
      few = omega (arith, r.places, length-take h.list_length (drop 272 s), length-map listed (λ w. of_ledger word_ledger (place_ledger w) used));
      short = parts-short listed used (omega (arith, short, length-take h.entry_count e));
    }

module _ (left whole : List (List ℕ)) (ones parts : ℕ) (c : Carried left whole ones parts) where
  -- The next ledger's words, of which there are few enough for a sum of 64 bits.
  module _ (part : List ℕ) (rest : List (List ℕ)) (is : left ≡ part ∷ rest) where
    shorts : Short (part ∷ rest)
    shorts = subst Short is c.short

    pub part-short : length part ≤ 4096
    part-short = shorts.0

    pub carry-turn : (sum : ℕ) → sum ≡ sum_of part
        → Carried rest whole (ones + (sum / 10 ^ 12 + (parts + sum % 10 ^ 12) / 10 ^ 12)) ((parts + sum % 10 ^ 12) % 10 ^ 12)
    carry-turn sum at =
        let next : sum_of (concat left) ≡ sum + sum_of (concat rest) =
        ap (λ (ps : List (List ℕ)). sum_of (concat ps)) is ∙ sum-append part (concat rest) ∙ ap (λ (k : ℕ). k + sum_of (concat rest)) (sym at) in
        let one : length left ≡ 1 + length rest = ap (length {A = List ℕ}) is ∙ omega arith in
        let small : sum < 2 ^ 64 = omega (arith, at, sum_bound part, part-short) in
        record {
          sums = omega (arith, c.sums, next);
          small = omega arith;
          few = omega (arith, c.few, c.small, small, one);
          short = shorts.1;
        }

  pub carry-end : (s e : List ℕ) (h : Head) → left ≡ [] → whole ≡ chain_parts s e h → Exactly (sum_of (chain_words s e h)) ones parts
  unfolding sum
  carry-end s e h none all =
      let zero_left : sum_of (concat left) ≡ 0 = ap (λ (ps : List (List ℕ)). sum_of (concat ps)) none in
      let same : sum_of (chain_words s e h) ≡ sum_of (concat whole) = ap sum_of (chain-parts s e h) ∙ ap (λ (ps : List (List ℕ)). sum_of (concat ps)) (sym all) in
      record {
        ones-are = omega (arith, c.sums, c.small, zero_left, same);
        parts_are = omega (arith, c.sums, c.small, zero_left, same);
        ones-few = omega (arith, c.few);
      }
