-- What set, drop and read at a mark answer and leave, by the index of the mark's pair or the refusal.
use Rattle.std.specs.Prelude.{Result, ℕ, ◌+◌, ◌-◌, ◌*◌, ◌/◌, ◌^◌, ◌<◌, ◌≤◌, ◌≡◌, true, get_or, take, set, Ok, Err}
use native.Mathlib.Omega.{arith}
use Rattle.std.proofs.Math.Path.{sym, ap}
use Rattle.std.proofs.Common.{◌∙◌}
use mathlib.Core.List.{List, [], ◌∷◌, ◌++◌, map}
use Rattle.std.proofs.Math.ListN.{length, drop, length-map}
use Rattle.std.proofs.Math.Seq.{sets, sets-eq, length-take-le}
use borrow.Author.Tests.{lt-ltb, le-ltb}
use Rattle.fields.specs.Bit.{bit-true}
use Rattle.checks.specs.Test.{less}
use Rattle.checks.specs.Checks.{Check, ◌when◌, Passed}
use Rattle.records.specs.declared.head.Head.{Head}
use Rattle.records.specs.Words.{unpack_head}
use Rattle.records.specs.WordLaws.{head-fits}
use Rattle.chain.specs.declared.answer.Refusal.{Refusal}
use Rattle.chain.specs.declared.answer.Refusal.TheVariants.{OutputTooShort}
use Rattle.chain.specs.declared.answer.Answer.TheVariants.{Done, Refused}
use Rattle.chain.specs.Verdicts.{Verdict}
use Rattle.chain.specs.Verdicts.{verdict, and_then, verdict-append, verdict-passes, verdict-refuses, passes-first}
use Rattle.chain.specs.Buffers.{head}
use Rattle.chain.specs.Operations.{buffers, cleared}
use Rattle.chain.specs.Marks.{marks_length, count_unit, pairs_of, words_of, word_of, among, well_marked, with_mark, without_mark, log_count, set_checks, set_answer, after_set, drop_checks, drop_answer, after_drop, first_entries, mark_count, read_mark_checks, read_mark_answer, read_mark_output}
use Rattle.chain.proofs.Laws.Formed.{formed, sized}
use Rattle.chain.proofs.Laws.Marks.{kept-count}
use Rattle.marks.specs.Pairs.{pair_in, place_of, place-within, pair-within}
use Rattle.marks.specs.Placed.{free_place, kept_place, by-refusal, by-place}
use Rattle.marks.specs.Gap.{gap_closed}
use Rattle.marks.specs.PlacedLaws.{set-placed, drop-placed, word-placed}

-- The head's count fits its field.
pub count_word : (s : List ℕ) (h : Head) → h ≡ unpack_head (get_or s 0 0) → h.entry_count * 2 ^ 51 < 2 ^ 64
count_word s h at = rw at (omega (arith, (head-fits (get_or s 0 0)).entries))

module _ (name : ℕ) (s e ms : List ℕ) {c : Result ℕ Refusal} (is : c ≡ free_place name (buffers s e) ms) where
  pub set-refuses : {r : Refusal} → c ≡ Err r → (Refused r ≡ set_answer name (buffers s e) ms) × (ms ≡ after_set name (buffers s e) ms)
  unfolding free_place set_answer after_set
  set-refuses {r} p = let v : verdict (set_checks name (buffers s e) ms) ≡ Err r = by-refusal (set_checks name (buffers s e) ms) (place_of 0 (pairs_of ms)) is p in (
    sym (verdict-refuses (set_checks name (buffers s e) ms) Refused Done r v),
    sym (verdict-refuses (set_checks name (buffers s e) ms) (λ _. ms) (words_of (with_mark name (log_count (buffers s e) * count_unit) (pairs_of ms))) r v),
  )

  module _ {k : ℕ} (p : c ≡ Ok k) where
    free-at : (verdict (set_checks name (buffers s e) ms) ≡ (Ok (tt {0}))) × (k ≡ place_of 0 (pairs_of ms))
    unfolding free_place
    free-at = by-place (set_checks name (buffers s e) ms) (place_of 0 (pairs_of ms)) is p

    passed-set : Passed (set_checks name (buffers s e) ms)
    passed-set = verdict-passes (set_checks name (buffers s e) ms) free-at.0

    pub set_long : length ms ≡ marks_length
    set_long = passed-set.0

    set_room : among 0 (pairs_of ms) ≡ true
    set_room = bit-true (among 0 (pairs_of ms)) passed-set.1.1.1.1.1.0

    pub set_within : 2 * k + 1 < marks_length
    set_within = omega (arith, free-at.1, place-within 0 32 ms set_long set_room)

    pub set-done : {h : Head} → h ≡ unpack_head (get_or s 0 0) → {after : List ℕ}
        → after ≡ set (set ms (2 * k) name) (2 * k + 1) (h.entry_count * 2 ^ 51)
        → (Done ≡ set_answer name (buffers s e) ms) × (after ≡ after_set name (buffers s e) ms)
    unfolding set_answer after_set head
    set-done is-head stored = (
      sym (passes-first (set_checks name (buffers s e) ms) Refused Done free-at.0),
      stored ∙ rw (free-at.1, is-head) (set-placed name (log_count (buffers s e) * count_unit) 32 ms set_long set_room)
          ∙ sym (passes-first (set_checks name (buffers s e) ms) (λ _. ms) (words_of (with_mark name (log_count (buffers s e) * count_unit) (pairs_of ms))) free-at.0),
    )

module _ (name : ℕ) (s e ms : List ℕ) {c : Result ℕ Refusal} (is : c ≡ kept_place name (buffers s e) ms) where
  kept-refused : {r : Refusal} → c ≡ Err r → verdict (drop_checks name (buffers s e) ms) ≡ Err r
  unfolding kept_place
  kept-refused p = by-refusal (drop_checks name (buffers s e) ms) (place_of name (pairs_of ms)) is p

  pub drop-refuses : {r : Refusal} → c ≡ Err r → (Refused r ≡ drop_answer name (buffers s e) ms) × (ms ≡ after_drop name (buffers s e) ms)
  unfolding drop_answer after_drop
  drop-refuses {r} p = (
    sym (verdict-refuses (drop_checks name (buffers s e) ms) Refused Done r (kept-refused p)),
    sym (verdict-refuses (drop_checks name (buffers s e) ms) (λ _. ms) (words_of (without_mark name (pairs_of ms))) r (kept-refused p)),
  )

  module _ {k : ℕ} (p : c ≡ Ok k) where
    kept-at : (verdict (drop_checks name (buffers s e) ms) ≡ (Ok (tt {0}))) × (k ≡ place_of name (pairs_of ms))
    unfolding kept_place
    kept-at = by-place (drop_checks name (buffers s e) ms) (place_of name (pairs_of ms)) is p

    passed-drop : Passed (drop_checks name (buffers s e) ms)
    passed-drop = verdict-passes (drop_checks name (buffers s e) ms) kept-at.0

    pub kept-long : length ms ≡ marks_length
    kept-long = passed-drop.0

    kept_there : among name (pairs_of ms) ≡ true
    kept_there = bit-true (among name (pairs_of ms)) passed-drop.1.1.1.1.0.1

    pub kept_within : 2 * k + 1 < marks_length
    kept_within = omega (arith, kept-at.1, place-within name 32 ms kept-long kept_there)

    -- The same by the pairs as the code reads them.
    module _ (cs : List (List ℕ)) (are : map pair_in cs ≡ pairs_of ms) where
      kept_in : among name (map pair_in cs) ≡ true
      kept_in = rw are kept_there

      pub pair_there : k < length cs
      pair_there = rw (kept-at.1, ← are) (pair-within name cs kept_in)

      kept_word : (d : List ℕ) → get_or (get_or cs k d) 1 0 ≡ word_of name (pairs_of ms)
      kept_word d = rw (kept-at.1, ← are) (word-placed name cs d kept_in)

    pub drop-done : {after : List ℕ} → after ≡ gap_closed ms (2 * k)
        → (Done ≡ drop_answer name (buffers s e) ms) × (after ≡ after_drop name (buffers s e) ms)
    unfolding drop_answer after_drop
    drop-done moved = (
      sym (passes-first (drop_checks name (buffers s e) ms) Refused Done kept-at.0),
      moved ∙ rw kept-at.1 (drop-placed name 32 ms kept-long kept_there)
          ∙ sym (passes-first (drop_checks name (buffers s e) ms) (λ _. ms) (words_of (without_mark name (pairs_of ms))) kept-at.0),
    )

  -- Read at a mark has one check more, of the output.
  module _ (out : List ℕ) where
    abbrev short : List (Check Refusal)
    short = (OutputTooShort when less (length out) (mark_count name ms)) ∷ []

    then : verdict (read_mark_checks name (buffers s e) ms out) ≡ and_then (verdict (drop_checks name (buffers s e) ms)) (verdict short)
    then = verdict-append (drop_checks name (buffers s e) ms) short

    refused : (r : Refusal) → verdict (read_mark_checks name (buffers s e) ms out) ≡ Err r
        → (Err r ≡ read_mark_answer name (buffers s e) ms out) × (out ≡ read_mark_output name (buffers s e) ms out)
    unfolding read_mark_answer read_mark_output
    refused r h = (
      sym (verdict-refuses (read_mark_checks name (buffers s e) ms out) Err (Ok (mark_count name ms)) r h),
      sym (verdict-refuses (read_mark_checks name (buffers s e) ms out) (λ _. out) (first_entries (mark_count name ms) (buffers s e) ++ drop (mark_count name ms) out) r h),
    )

    pub read-refuses : {r : Refusal} → c ≡ Err r
        → (Err r ≡ read_mark_answer name (buffers s e) ms out) × (out ≡ read_mark_output name (buffers s e) ms out)
    read-refuses {r} p = refused r (then ∙ ap (λ (w : Verdict). and_then w (verdict short)) (kept-refused p))

    module _ {k : ℕ} (p : c ≡ Ok k) (cs : List (List ℕ)) (are : map pair_in cs ≡ pairs_of ms) (d : List ℕ) (count : ℕ)
        (is-count : count ≡ get_or (get_or cs k d) 1 0 / 2 ^ 51) where
      counted : mark_count name ms ≡ count
      counted = sym (is-count ∙ ap (λ (n : ℕ). n / 2 ^ 51) (kept_word p cs are d))

      pub count-within : count ≤ length e
      unfolding head
      count-within =
          let o = passed-drop p in
          let g = formed s e o.1.0.0 o.1.0.1 o.1.1.0 in
          omega (
            arith,
            counted,
            kept-count (log_count (buffers s e)) name o.1.1.1.1.0.0 (pairs_of ms) (bit-true (well_marked (log_count (buffers s e)) (pairs_of ms)) o.1.1.1.0) (kept_there p),
            (sized s e g).entries,
          )

      last : verdict (read_mark_checks name (buffers s e) ms out) ≡ verdict short
      last = then ∙ ap (λ (w : Verdict). and_then w (verdict short)) (kept-at p).0

      pub read_short : length out < count
          → (Err OutputTooShort ≡ read_mark_answer name (buffers s e) ms out) × (out ≡ read_mark_output name (buffers s e) ms out)
      unfolding verdict
      read_short l = refused OutputTooShort (last ∙ rw (counted, lt-ltb (length out) count l))

      pub read_done : count ≤ length out → (after : List ℕ) → after ≡ sets out 0 (map cleared (take (count - 0) (drop 0 e)))
          → (Ok count ≡ read_mark_answer name (buffers s e) ms out) × (after ≡ read_mark_output name (buffers s e) ms out)
      unfolding verdict read_mark_answer read_mark_output
      read_done l after stored =
          let pass : verdict (read_mark_checks name (buffers s e) ms out) ≡ (Ok (tt {0})) = last ∙ rw (counted, le-ltb (length out) count l) in
          let long : length (map cleared (take count e)) ≡ count = length-map (take count e) cleared ∙ length-take-le count e count-within in
          let whole : count - 0 ≡ count = omega arith in
          let all : 0 + length (map cleared (take count e)) ≡ count = omega (arith, long) in (
            ap Ok (sym counted)
                ∙ sym (passes-first (read_mark_checks name (buffers s e) ms out) Err (Ok (mark_count name ms)) pass),
            stored
                ∙ ap (λ (i : ℕ). sets out 0 (map cleared (take i e))) whole
                ∙ sets-eq (map cleared (take count e)) out 0 (omega (arith, long))
                ∙ ap (λ (i : ℕ). map cleared (take count e) ++ drop i out) all
                ∙ ap (λ (i : ℕ). map cleared (take i e) ++ drop i out) (sym counted)
                ∙ sym (passes-first (read_mark_checks name (buffers s e) ms out) (λ _. out) (first_entries (mark_count name ms) (buffers s e) ++ drop (mark_count name ms) out) pass),
          )
