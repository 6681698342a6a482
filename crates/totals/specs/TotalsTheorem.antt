-- The promise of the totals holds.
use Rattle.std.specs.Prelude.{ℕ, suc, ◌+◌, ◌<◌, ◌≤◌, ◌≡◌, ◌⊎◌, length, get_or, eqb, Ok, Err}
use native.Mathlib.Omega.{arith}
use Rattle.std.proofs.Common.{add-one, sym, subst, ◌∙◌}
use Rattle.std.proofs.Math.Path.{refl, ap}
use mathlib.Core.List.{List, [], ◌∷◌, map}
use Rattle.std.proofs.Math.ListN.{length-map}
use Rattle.checks.specs.Test.{Test, same, differ, less, either, every}
use Rattle.checks.specs.TestLaws.{by_bool, holds-true}
use Rattle.checks.specs.Checks.{◌when◌, passed_first, first-map, first-after}
use Rattle.records.specs.declared.entry.Entry.{Entry}
use Rattle.records.specs.Words.{ledger_number}
use Rattle.chain.specs.declared.answer.Refusal.TheVariants.{NotListed}
use Rattle.chain.specs.declared.answer.Answer.{Answer}
use Rattle.chain.specs.declared.answer.Answer.TheVariants.{Done, WasClosed, Behind, Written, Refused}
use Rattle.chain.specs.Answers.{is_refused, place_number}
use Rattle.chain.specs.Log.{place, of_ledger, along_list, entry_ledger}
use Rattle.chain.specs.Steps.{Step}
use Rattle.chain.specs.Operations.{Buffers, held, IsLog, log_checks, step_answer, after_step, after_steps, fresh_answer, after_fresh, word_ledger, used_words, read_ledger_checks, read_ledger_part, read_place_checks, ledger_at, chain_reading}
use Rattle.chain.specs.Journal.{Journal, stored_word, chain_word}
use Rattle.chain.specs.Values.{sum, sum_of, values}
use Rattle.chain.specs.LogPromise.{after, told, Listed, Small, ShowsHistory}
use Rattle.chain.proofs.LogTheorem.{refusals-change-nothing, accepted-leaves-log, whole-history}
use Rattle.chain.proofs.Laws.Formed.{capacity-most}
use Rattle.chain.proofs.Laws.Values.{sum_bound, sum-append, values-cleared, stored-values, chain-values}
use Rattle.totals.specs.Totals.{summed, ledger_sum, sum_number, run_sum, total_of, run_total, total_number}
use Rattle.totals.specs.SumLaws.{part-within}
use Rattle.totals.specs.TotalsPromise.{greatest_sum, parts_along, writes_along, SumsLog, SumsHistory, TotalsShowHistory}

-- Where each ledger's part is its words, the sums of the ledgers are that of the words along the list.
along-sum : (b : Buffers) (ks : List ℕ)
    → ((i : ℕ) → i < length ks → read_ledger_part (get_or ks i 0) b ≡ of_ledger word_ledger (get_or ks i 0) (used_words b))
    → parts_along ks b ≡ sum_of (along_list word_ledger ks (used_words b))
unfolding parts_along along_list sum
along-sum b [] h = refl
along-sum b (k ∷ ks) h = omega (
  arith,
  ap sum_of (h 0 (omega arith)),
  along-sum b ks (λ i l. h (suc i) (omega arith)),
  sum-append (of_ledger word_ledger k (used_words b)) (along_list word_ledger ks (used_words b)),
)

place-next : (list : List ℕ) (i : ℕ) → place list (i + 1) ≡ get_or list i 0
unfolding place
place-next list i = rw (add-one i)

-- Any well-formed log.
module _ (b : Buffers) (i : IsLog b) where
  abbrev no_place : ℕ → Test
  no_place p = either (same p 0) (less (length (held b).list) p)

  abbrev unlisted : ℕ → Test
  unlisted l = every (λ _ _ k. differ k l) (held b).list

  at_place : (k : ℕ) → k < length (held b).list → ledger_at (k + 1) b ≡ Ok (ledger_number (get_or (held b).list k 0))
  unfolding ledger_at
  at_place k h =
      passed_first (read_place_checks (k + 1) b) Err (Ok (ledger_number (place (held b).list (k + 1))))
      ((i.state, i.capacity), (i.words, (((λ q. omega arith), omega arith), tt)))
      ∙ ap (λ (n : ℕ). Ok (ledger_number n)) (place-next (held b).list k)

  at-no-place : (p : ℕ) → (p ≡ 0) ⊎ (length (held b).list < p) → ledger_at p b ≡ Err NotListed
  unfolding ledger_at
  at-no-place p h =
      first-after (log_checks b []) ((NotListed when no_place p) ∷ []) Err (Ok (ledger_number (place (held b).list p)))
      ((i.state, i.capacity), (i.words, tt))
      ∙ rw (holds-true (no_place p) h)

  of-ledger : (l : ℕ) → Listed (held b).list l → ledger_sum l b ≡ Ok (summed (read_ledger_part l b))
  unfolding ledger_sum
  of-ledger l h = passed_first (read_ledger_checks l b) Err (Ok (summed (read_ledger_part l b)))
      ((i.state, i.capacity), (i.words, ((λ f. f h.0 h.1 h.2), tt)))

  of-no-ledger : (l : ℕ) → (Listed (held b).list l → ⊥) → ledger_sum l b ≡ Err NotListed
  unfolding ledger_sum
  of-no-ledger l h =
      first-after (log_checks b []) ((NotListed when unlisted l) ∷ []) Err (Ok (summed (read_ledger_part l b)))
      ((i.state, i.capacity), (i.words, tt))
      ∙ rw (holds-true (unlisted l) (λ k x e. h (k, x, e)))

  part-is : (l : ℕ) → Listed (held b).list l → read_ledger_part l b ≡ of_ledger word_ledger l (used_words b)
  unfolding read_ledger_part
  part-is l h = passed_first (read_ledger_checks l b) (λ _. []) (of_ledger word_ledger l (used_words b))
      ((i.state, i.capacity), (i.words, ((λ f. f h.0 h.1 h.2), tt)))

  parts-add-up : parts_along (held b).list b ≡ run_sum b
  unfolding run_sum chain_reading
  parts-add-up =
      along-sum b (held b).list (λ k h. part-is (get_or (held b).list k 0) (k, h, refl))
      ∙ ap sum (sym (values-cleared (along_list word_ledger (held b).list (used_words b))))

  sums-log : SumsLog b
  unfolding run_total
  sums-log = record {
    place = at_place;
    no_place = at-no-place;
    ledger = of-ledger;
    no-ledger = of-no-ledger;
    few = λ l. omega (arith, part-within b l, capacity-most (length b.entries) i.capacity);
    small = λ l. omega (arith, sum_bound (read_ledger_part l b), part-within b l, capacity-most (length b.entries) i.capacity);
    total = passed_first (log_checks b []) Err (Ok (total_of (run_sum b))) ((i.state, i.capacity), (i.words, tt));
    adds-up = parts-add-up;
  }

-- What is accepted leaves a log, and a refusal leaves the one that was: so every history does.
step-log : (x : Step) (b : Buffers) → IsLog b → (a : Answer) → step_answer x b ≡ a → IsLog (after_step x b)
step-log x b i Done e = accepted-leaves-log.step x b (λ r q. omega (arith, ap is_refused (sym e ∙ q)))
step-log x b i WasClosed e = accepted-leaves-log.step x b (λ r q. omega (arith, ap is_refused (sym e ∙ q)))
step-log x b i Behind e = accepted-leaves-log.step x b (λ r q. omega (arith, ap is_refused (sym e ∙ q)))
step-log x b i (Written n) e = accepted-leaves-log.step x b (λ r q. omega (arith, ap is_refused (sym e ∙ q)))
step-log x b i (Refused r) e = subst IsLog (sym (refusals-change-nothing.step x b r e)) i

steps-log : (xs : List Step) (b : Buffers) → IsLog b → IsLog (after_steps xs b)
unfolding after_steps
steps-log [] b i = i
steps-log (x ∷ xs) b i = steps-log xs (after_step x b) (step-log x b i (step_answer x b) refl)

small_of : (k : ℕ) (es : List Entry) → Small es → Small (of_ledger entry_ledger k es)
unfolding of_ledger
small_of k [] s = tt
small_of k (e ∷ es) s = by_bool (eqb (entry_ledger e) k) (λ t. rw t (s.0, small_of k es s.1)) (λ t. rw t (small_of k es s.1))

-- A ledger whose part is the writes into it, and some such ledgers.
module _ (b : Buffers) (es : List Entry) (small : Small es) where
  abbrev Stored : ℕ → Type 0
  Stored k = read_ledger_part k b ≡ map stored_word (of_ledger entry_ledger k es)

  part-sum : (k : ℕ) → Stored k → sum_of (read_ledger_part k b) ≡ sum (values (of_ledger entry_ledger k es))
  part-sum k e = ap sum_of e ∙ ap sum (stored-values (of_ledger entry_ledger k es) (small_of k es small))

  part_length : (k : ℕ) → Stored k → length (read_ledger_part k b) ≡ length (of_ledger entry_ledger k es)
  part_length k e = ap (length {A = ℕ}) e ∙ length-map (of_ledger entry_ledger k es) stored_word

  parts-are-writes : (ks : List ℕ) → ((i : ℕ) → i < length ks → Stored (get_or ks i 0)) → parts_along ks b ≡ writes_along ks es
  unfolding parts_along writes_along
  parts-are-writes [] h = refl
  parts-are-writes (k ∷ ks) h = omega (arith, part-sum k (h 0 (omega arith)), parts-are-writes ks (λ i l. h (suc i) (omega arith)))

-- After a history.
module _ (n : ℕ) (fresh : Buffers) (d : fresh_answer n fresh ≡ Done) (xs : List Step) where
  abbrev b : Buffers
  b = after n fresh xs

  abbrev j : Journal
  j = told n fresh xs

  shows : ShowsHistory b j
  shows = whole-history.shows n fresh d xs

  is-log : IsLog b
  is-log = steps-log xs (after_fresh n fresh) (accepted-leaves-log.fresh n fresh d)

  summed-log : SumsLog b
  summed-log = sums-log b is-log

  small : Small j.accepted
  small = shows.values

  run-sum : run_sum b ≡ sum (values j.accepted)
  unfolding run_sum
  run-sum = ap sum_of shows.reading ∙ ap sum (chain-values j.accepted small)

  stored : (l : ℕ) → Listed j.listed l → read_ledger_part l b ≡ map stored_word (of_ledger entry_ledger l j.accepted)
  stored l h = (shows.ledger l h).1

  bounded : sum (values j.accepted) ≤ greatest_sum
  unfolding run_sum
  bounded = omega (
    arith,
    run-sum,
    sum_bound (chain_reading b),
    ap (length {A = ℕ}) shows.reading,
    length-map j.accepted chain_word,
    shows.few,
    capacity-most (length b.entries) is-log.capacity,
  )

  sums-history : SumsHistory b j
  sums-history = record {
    log = is-log;
    place = rw shows.listed at summed-log.place;
    no_place = rw shows.listed at summed-log.no_place;
    ledger = λ l h. summed-log.ledger l (rw (← shows.listed) at h)
        ∙ (λ i. Ok (record { entries = part_length b j.accepted small l (stored l h) i; sum = part-sum b j.accepted small l (stored l h) i }));
    no-ledger = rw shows.listed at summed-log.no-ledger;
    total = summed-log.total ∙ ap (λ (k : ℕ). Ok (total_of k)) run-sum;
    adds-up = sym (parts-are-writes b j.accepted small j.listed (λ i h. stored (get_or j.listed i 0) (i, h, refl)))
        ∙ ap (λ (ks : List ℕ). parts_along ks b) (sym shows.listed) ∙ summed-log.adds-up ∙ run-sum;
    bounded = bounded;
  }

pub totals-show-history : TotalsShowHistory
unfolding ledger_at ledger_sum run_total
totals-show-history = record {
  log = sums-log;
  history = sums-history;
  exact = λ n. (omega arith, omega arith);
  place-order = λ p b. record { in_order = refl; first_holds = first-map place_number (read_place_checks p b) Err _ };
  sum-order = λ l b. record { in_order = refl; first_holds = first-map sum_number (read_ledger_checks l b) Err _ };
  total-order = λ b. record { in_order = refl; first_holds = first-map total_number (log_checks b []) Err _ };
}
