-- The promise of rearranging and restoring holds.
use Rattle.std.specs.Prelude.{◌≡◌, ℕ, zero, suc, ◌+◌, ◌-◌, ◌*◌, ◌/◌, ◌%◌, ◌^◌, ◌<◌, true, false, ◌⊎◌, ◌↔◌, List, [], ◌∷◌, length, ◌≢◌, slice_index, refl}
use Rattle.std.proofs.Common.{arith, add-one, sym, ap, subst, ◌∙◌}
use Rattle.checks.specs.Test.{test}
use Rattle.checks.specs.TestLaws.{by_bool, holds-true, fails-false, true-holds, false-fails}
use Rattle.chain.specs.Answers.{done, refused, answer_number}
use Rattle.limits.specs.Limits.{rearrange_limit}
use Rattle.storage.specs.Storage.{Below, minus, wrong_length, differences_after, differences, plane, planes, rearrangement, joined_from, sums_after, restoration, storage_answer, bytes_after, words_after}
use Rattle.storage.specs.WrappingLaws.{sums-differences, differences-sums, differences-length, differences-below, sums-length}
use Rattle.storage.specs.PlaneLaws.{planes-at, planes-length, joined-all, joined-below, joined-from-length, planes-all}
use Rattle.storage.specs.StoragePromise.{Taken, GivesBack}

-- At the lengths that are taken no check holds, and at all others the one does.
right : (n m : ℕ) → Taken n m → test (wrong_length n m) ≡ false
right n m t = fails-false (wrong_length n m) t

wrong : (n m : ℕ) → (Taken n m → ⊥) → test (wrong_length n m) ≡ true
wrong n m t = by_bool (test (wrong_length n m)) (λ e. e) (λ e. absurd (t (false-fails (wrong_length n m) e)))

module _ (n m : ℕ) where
  answer-done : (answer_number (storage_answer n m) ≡ done) ↔ Taken n m
  unfolding storage_answer
  answer-done = (there, λ t. rw (right n m t))
    where
      there : answer_number (storage_answer n m) ≡ done → Taken n m
      there a = by_bool (test (wrong_length n m)) (λ e. let z : 282 ≡ 0 = rw e at a in absurd (omega arith)) (λ e. false-fails (wrong_length n m) e)

  answer-refused : (answer_number (storage_answer n m) ≡ refused 26) ↔ ((rearrange_limit < n) ⊎ (m ≢ 8 * n))
  unfolding storage_answer
  answer-refused = (there, λ h. rw (holds-true (wrong_length n m) h))
    where
      there : answer_number (storage_answer n m) ≡ refused 26 → (rearrange_limit < n) ⊎ (m ≢ 8 * n)
      there a = by_bool (test (wrong_length n m)) (λ e. true-holds (wrong_length n m) e) (λ e. let z : 0 ≡ 282 = rw e at a in absurd (omega arith))

bytes_same : (ws bs : List ℕ) → (Taken (length ws) (length bs) → ⊥) → bytes_after ws bs ≡ bs
unfolding bytes_after
bytes_same ws bs t = rw (wrong (length ws) (length bs) t)

words_same : (bs ws : List ℕ) → (Taken (length ws) (length bs) → ⊥) → words_after bs ws ≡ ws
unfolding words_after
words_same bs ws t = rw (wrong (length ws) (length bs) t)

bytes-new : (ws bs : List ℕ) → Taken (length ws) (length bs) → bytes_after ws bs ≡ planes 8 (differences ws)
unfolding bytes_after rearrangement
bytes-new ws bs t = rw (right (length ws) (length bs) t)

words-new : (bs ws : List ℕ) → Taken (length ws) (length bs) → words_after bs ws ≡ sums_after 0 (joined_from (length ws) 0 (length ws) bs)
unfolding words_after restoration
words-new bs ws t = rw (right (length ws) (length bs) t)

first-stays : (ws : List ℕ) → slice_index (differences ws) 0 ≡ slice_index ws 0
unfolding differences
first-stays [] = refl
first-stays (w ∷ ws) = refl

after-at : (b : ℕ) (ws : List ℕ) (i : ℕ) → i < length ws → slice_index (differences_after b ws) i ≡ minus (slice_index ws i) (slice_index (b ∷ ws) i)
unfolding differences_after
after-at b [] i l = absurd (omega arith)
after-at b (w ∷ ws) zero l = refl
after-at b (w ∷ ws) (suc i) l = after-at w ws i (omega arith)

next-is : (ws : List ℕ) (i : ℕ) → suc i < length ws → slice_index (differences ws) (suc i) ≡ minus (slice_index ws (suc i)) (slice_index ws i)
unfolding differences
next-is [] i l = absurd (omega arith)
next-is (w ∷ ws) i l = after-at w ws i (omega arith)

byte-is : (ws bs : List ℕ) (i j : ℕ) → Taken (length ws) (length bs) → i < length ws → j < 8
    → slice_index (bytes_after ws bs) (j * length ws + i) ≡ slice_index (differences ws) i / 256 ^ (7 - j) % 256
byte-is ws bs i j t li lj = rw (bytes-new ws bs t)
    (subst (λ (n : ℕ). slice_index (planes 8 (differences ws)) (j * n + i) ≡ slice_index (differences ws) i / 256 ^ (7 - j) % 256) (differences-length ws)
    (planes-at 8 j i (7 - j) (differences ws) (omega (arith, differences-length ws)) (omega arith)))

restored : (ws bs us : List ℕ) → Taken (length ws) (length bs) → length us ≡ length ws → Below (2 ^ 64) ws → words_after (bytes_after ws bs) us ≡ ws
restored ws bs us t lu h =
    let d = differences ws in
    let ld : length d ≡ length us = differences-length ws ∙ sym lu in
    let long : length (planes 8 d) ≡ 8 * length us = planes-length 8 d ∙ ap (λ (n : ℕ). 8 * n) ld in
    let all : joined_from (length us) 0 (length us) (planes 8 d) ≡ d = subst (λ (n : ℕ). joined_from n 0 n (planes 8 d) ≡ d) ld (joined-all d (differences-below ws h)) in
    rw (bytes-new ws bs t) (words-new (planes 8 d) us (omega (arith, t.0), long) ∙ ap (sums_after 0) all ∙ sums-differences ws h)

rearranged : (bs ws cs : List ℕ) → Taken (length ws) (length bs) → length cs ≡ length bs → Below 256 bs → bytes_after (words_after bs ws) cs ≡ bs
rearranged bs ws cs t lc h =
    let n = length ws in
    let d = joined_from n 0 n bs in
    let lw : length (sums_after 0 d) ≡ n = sums-length 0 d ∙ joined-from-length n 0 n bs in
    rw (words-new bs ws t) (bytes-new (sums_after 0 d) cs (omega (arith, t.0), omega (arith, t.1)) ∙ ap (planes 8) (differences-sums d (joined-below n bs h)) ∙ planes-all n bs h t.1)

none : planes 8 (differences []) ≡ []
unfolding planes plane differences
none = refl

pub gives_back : GivesBack
gives_back = record {
  is-done = answer-done;
  is-refused = answer-refused;
  bytes-stay = bytes_same;
  words-stay = words_same;
  first-difference = first-stays;
  next-difference = λ ws i l. rw (add-one i) (next-is ws i (omega arith));
  byte_at = byte-is;
  no_words = bytes-new [] [] (omega arith, omega arith) ∙ none;
  restores = restored;
  rearranges = rearranged;
}
