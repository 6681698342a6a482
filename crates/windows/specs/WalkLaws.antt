-- The walk over the starts of windows: what it keeps of the words left at the start and of those left behind the window's words so far.
use Prim.Native.Nat.{ℕ, zero, suc, ◌+◌, ◌-◌, ◌*◌, ◌%◌, ◌^◌, ◌<◌, ◌≤◌}
use Rattle.std.proofs.Common.{arith, ◌∙◌, take-add, drop-drop, length-take-le}
use Rattle.std.specs.Prelude.{◌≡◌, refl, length, Ok, Some, None}
use Rattle.std.proofs.Math.Path.{sym, ap}
use mathlib.Core.List.{List, [], ◌∷◌, ◌++◌, map}
use Rattle.std.proofs.Math.ListN.{take, drop, length-drop}
use Rattle.std.proofs.lemmas.List.{length-map}
use Rattle.records.specs.declared.head.Head.{Head}
use Rattle.readers.specs.Readable.{Readable}
use Rattle.readers.specs.Along.{chain_words, chain-parts, chain-few}
use Rattle.chain.specs.Values.{sum, value_of, sum_of}
use Rattle.chain.specs.Windows.{reading_place, window_from}
use Rattle.chain.proofs.Laws.Values.{sum_bound, sum-append}
use Rattle.chain.proofs.Laws.Windows.{from-short, from-over, from_next}

-- The kept sum is the sum worked out afresh of the words held, which are the first ones left at the start.
pub record Window (n limit : ℕ) (whole first past : List ℕ) (start held kept : ℕ) : Type 0 where
  pub same : window_from n limit 0 (map value_of whole) ≡ window_from n limit start (map value_of first)
  pub place : start + length first ≡ length whole
  pub behind : drop held first ≡ past
  pub few : held ≤ n
  pub some : held ≤ length first
  pub sums : kept ≡ sum_of (take held first)

pub begin : (n limit : ℕ) (whole : List ℕ) → Window n limit whole whole whole 0 0 0
unfolding sum
begin n limit whole = record { same = refl; place = omega arith; behind = refl; few = omega arith; some = omega arith; sums = refl }

take-values : (k : ℕ) (ws : List ℕ) → take k (map value_of ws) ≡ map value_of (take k ws)
take-values zero ws = refl
take-values (suc k) [] = refl
take-values (suc k) (w ∷ ws) = ap (λ (l : List ℕ). value_of w ∷ l) (take-values k ws)

module _ {n limit : ℕ} {whole first past : List ℕ} {start held kept : ℕ} (w : Window n limit whole first past start held kept) where
  pub kept_small : kept ≤ held * (2 ^ 52 - 1)
  kept_small = omega (arith, w.sums, sum_bound (take held first), length-take-le held first w.some)

  -- A window that is not whole yet takes the next word, or there is none, and no window is left.
  module _ (more : held < n) where
    pub takes : (word : ℕ) (rest : List ℕ) → past ≡ word ∷ rest → Window n limit whole first rest start (held + 1) (kept + word % 2 ^ 52)
    unfolding sum
    takes word rest q = record {
      same = w.same;
      place = w.place;
      behind = sym (drop-drop 1 held first) ∙ ap (drop 1) at-word;
      few = omega arith;
      some = omega (arith, length-drop held first, ap (length {A = ℕ}) at-word);
      sums = omega (arith, w.sums, ap sum_of (take-add held 1 first ∙ ap (λ (l : List ℕ). take held first ++ take 1 l) at-word), sum-append (take held first) (word ∷ []));
    }
      where
        at-word : drop held first ≡ word ∷ rest
        at-word = w.behind ∙ q

    pub runs-out : past ≡ [] → (Ok None) ≡ window_from n limit 0 (map value_of whole)
    runs-out q = sym (w.same ∙ from-short n limit start (map value_of first) short)
      where
        short : length (map value_of first) < n
        short = omega (arith, length-map first value_of, length-drop held first, ap (length {A = ℕ}) (w.behind ∙ q), w.some)

  -- Where no word is left at the start no window is left.
  pub no-start : 1 ≤ n → first ≡ [] → (Ok None) ≡ window_from n limit 0 (map value_of whole)
  no-start one q = sym (w.same ∙ from-short n limit start (map value_of first) short)
    where
      short : length (map value_of first) < n
      short = omega (arith, one, length-map first value_of, ap (length {A = ℕ}) q)

  -- A whole window is over the limit, or the start moves on: its first word is taken off.
  module _ (full : n ≤ held) (one : 1 ≤ n) where
    pub some_left : first ≡ [] → ⊥
    some_left q = omega (arith, w.some, ap (length {A = ℕ}) q)

    module _ (word : ℕ) (rest : List ℕ) (q : first ≡ word ∷ rest) where
      fits : n ≤ length (value_of word ∷ map value_of rest)
      fits = omega (arith, w.some, ap (length {A = ℕ}) q, length-map rest value_of)

      whole_sum : kept ≡ sum (take n (value_of word ∷ map value_of rest))
      whole_sum = let k : held ≡ n = omega (arith, w.few) in
          w.sums ∙ ap sum (sym (take-values held first)) ∙ rw (k, q)

      pub goes_over : limit < kept → (Ok (Some (reading_place start))) ≡ window_from n limit 0 (map value_of whole)
      goes_over l = sym (w.same ∙ ap (λ (l : List ℕ). window_from n limit start (map value_of l)) q
          ∙ from-over n limit start (value_of word) (map value_of rest) fits (omega (arith, whole_sum)))

      pub moves : kept ≤ limit → Window n limit whole rest past (start + 1) (held - 1) (kept - word % 2 ^ 52)
      unfolding sum
      moves l =
          let h : held ≡ suc (held - 1) = omega (arith, full) in
          record {
            same = w.same ∙ ap (λ (l : List ℕ). window_from n limit start (map value_of l)) q
                ∙ from_next n limit start (value_of word) (map value_of rest) fits (omega (arith, whole_sum));
            place = omega (arith, w.place, ap (length {A = ℕ}) q);
            behind = rw (h, q) at w.behind;
            few = omega (arith, w.few);
            some = omega (arith, w.some, ap (length {A = ℕ}) q);
            sums = omega (arith, rw (h, q) at w.sums);
          }

      pub word_held : word % 2 ^ 52 ≤ kept
      unfolding sum
      word_held =
          let h : held ≡ suc (held - 1) = omega (arith, full) in
          omega (arith, rw (h, q) at w.sums)

    -- The words that are left at the start are some, since the window has some.
    pub over : limit < kept → (Ok (Some (reading_place start))) ≡ window_from n limit 0 (map value_of whole)
    over l = at first refl
      where
        at : (ws : List ℕ) → first ≡ ws → (Ok (Some (reading_place start))) ≡ window_from n limit 0 (map value_of whole)
        at [] q = absurd (some_left q)
        at (x ∷ xs) q = goes_over x xs q l

pub one-less : (word : ℕ) (rest first : List ℕ) → first ≡ word ∷ rest → length rest < length first
one-less word rest first q = omega (arith, ap (length {A = ℕ}) q)

-- Places in the reading stay far below 2^64.
pub reading-few : (s e : List ℕ) (h : Head) → Readable s e h → length (chain_words s e h) ≤ 255 * 2 ^ 13
reading-few s e h r = omega (arith, ap (length {A = ℕ}) (chain-parts s e h), chain-few s e h r)
