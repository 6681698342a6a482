-- The promise of the run total holds.
use Rattle.std.specs.Prelude.{ℕ, suc, ◌<◌, ◌≤◌, ◌≡◌, refl, length, get_or, Ok}
use Rattle.std.proofs.Common.{arith, sym, ◌∙◌}
use Rattle.std.proofs.Math.Path.{ap}
use mathlib.Core.List.{List, [], ◌∷◌, ◌++◌}
use Rattle.records.specs.declared.entry.Entry.{Entry}
use Rattle.limits.specs.Limits.{client_limit, input_limit}
use Rattle.chain.specs.Log.{of_ledger, entry_ledger}
use Rattle.chain.specs.Steps.{Step}
use Rattle.chain.specs.Rights.{all_rights}
use Rattle.chain.specs.Operations.{Buffers, after_steps}
use Rattle.chain.specs.Journal.{Journal}
use Rattle.chain.specs.Values.{sum, values}
use Rattle.chain.specs.LogPromise.{after, told}
use Rattle.totals.specs.Totals.{ledger_sum}
use Rattle.totals.specs.TotalsPromise.{SumsHistory}
use Rattle.requests.specs.Lines.{lines}
use Rattle.requests.specs.Requests.{taken}
use Rattle.requests.specs.Opening.{printed}
use Rattle.requests.specs.FirstLineLaws.{first_line}
use Rattle.requests.specs.OpeningLaws.{opens-good, opens-bad, opens-long}
use Rattle.requests.specs.BeginningLaws.{blank, begun, left-by-fresh, history}
use Rattle.total.specs.Output.{line_of, end_of, end_lines, ledger_lines, log_text, session_total, output}
use Rattle.total.specs.TotalPromise.{writes_lines, listed, accepted, ShowsTotal, TotalShowsHistory}
use Rattle.total.proofs.SummedLaws as sessions

-- Some ledgers, each summed over the writes into it.
lines-show : (b : Buffers) (es : List Entry) (ks : List ℕ)
    → ((i : ℕ) → i < length ks → ledger_sum (get_or ks i 0) b ≡ Ok (record { entries = length (of_ledger entry_ledger (get_or ks i 0) es); sum = sum (values (of_ledger entry_ledger (get_or ks i 0) es)) }))
    → ledger_lines ks b ≡ writes_lines ks es
unfolding ledger_lines writes_lines
lines-show b es [] h = refl
lines-show b es (k ∷ ks) h = λ i. line_of k (h 0 (omega arith) i) ++ lines-show b es ks (λ m l. h (suc m) (omega arith)) i

-- The log that a session's steps lead to.
module _ (n : ℕ) (some : 1 ≤ n) (few : n ≤ client_limit) (xs : List Step) where
  abbrev b : Buffers
  b = after n blank xs

  abbrev j : Journal
  j = told n blank xs

  summed : SumsHistory b j
  summed = sessions.sums n some few xs

  pub log-shows : log_text b ≡ writes_lines j.listed j.accepted ++ end_lines (sum (values j.accepted))
  unfolding log_text
  log-shows =
      (λ i. ledger_lines ((history n some few xs).listed i) b ++ end_of (summed.total i))
      ∙ ap (λ (l : List ℕ). l ++ end_lines (sum (values j.accepted)))
      (lines-show b j.accepted j.listed (λ i h. summed.ledger (get_or j.listed i 0) (i, h, refl)))

module _ (n : ℕ) (some : 1 ≤ n) (few : n ≤ client_limit) where
  printed-total : (rest : List ℕ) → length (first_line n ++ rest) ≤ input_limit
      → output (first_line n ++ rest) ≡ writes_lines (listed n (lines rest)) (accepted n (lines rest)) ++ end_lines (sum (values (accepted n (lines rest))))
  unfolding output
  printed-total rest h =
      ap (printed session_total) (opens-good n some few rest h)
      ∙ ap (λ (d : Buffers). log_text (after_steps (taken (all_rights n) (lines rest)) d)) (sym (left-by-fresh n some few))
      ∙ log-shows n some few (taken (all_rights n) (lines rest))

  good-total : (rest : List ℕ) → length (first_line n ++ rest) ≤ input_limit → ShowsTotal n (lines rest) (output (first_line n ++ rest))
  good-total rest h = record {
    begins = begun n some few;
    prints = printed-total rest h;
    adds-up = (summed n some few (taken (all_rights n) (lines rest))).adds-up;
    bounded = (summed n some few (taken (all_rights n) (lines rest))).bounded;
  }

pub total-shows-history : TotalShowsHistory
unfolding output
total-shows-history = record {
  good = λ n rest some few h. good-total n some few rest h;
  bad-start = λ input h none. ap (printed session_total) (opens-bad input h none);
  too_long = λ input h. ap (printed session_total) (opens-long input h);
  same = λ n m one other some few some' few' h k e. record {
    before-one = writes_lines (listed n (lines one)) (accepted n (lines one));
    before-other = writes_lines (listed m (lines other)) (accepted m (lines other));
    ends-one = printed-total n some few one h;
    ends-other = printed-total m some' few' other k
        ∙ ap (λ (ns : List ℕ). writes_lines (listed m (lines other)) (accepted m (lines other)) ++ end_lines (sum ns)) (sym e);
  };
}
