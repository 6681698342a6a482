-- No output is longer than the limit.
use Prim.Native.Nat.{ℕ, ◌+◌, ◌*◌, ◌^◌, ◌<◌, ◌≤◌}
use native.Mathlib.Omega.{arith}
use Rattle.std.specs.Prelude.{◌≡◌, drop, Ok, Err}
use Rattle.std.proofs.Math.Path.{ap}
use mathlib.Core.List.{List, [], ◌∷◌, ◌++◌, map}
use Rattle.std.proofs.Math.ListN.{length, take, length-append, length-map}
use Rattle.text.specs.Bytes.{bytes}
use Rattle.text.specs.Decimal.{decimal}
use Rattle.text.specs.DecimalLaws.{decimal-length}
use Rattle.limits.specs.Limits.{run_total_limit}
use Rattle.checks.specs.Checks.{Outcome, stops, goes, outcome}
use Rattle.records.specs.Layout.{place_index}
use Rattle.records.specs.Words.{unpack_place}
use Rattle.records.specs.WordLaws.{place-fits}
use Rattle.chain.specs.Buffers.{head, list_in}
use Rattle.chain.specs.Rights.{all_rights}
use Rattle.chain.specs.Operations.{Buffers, held, IsLog, after_steps, fresh_buffers, read_ledger_checks, read_ledger_part}
use Rattle.chain.specs.Values.{sum_of}
use Rattle.amounts.specs.Amounts.{fixed}
use Rattle.amounts.specs.AmountLaws.{exact-length, rounded-length}
use Rattle.amounts.specs.Rounding.{rounded}
use Rattle.totals.specs.Totals.{SumAnswer}
use Rattle.totals.specs.Totals.{TotalAnswer}
use Rattle.totals.specs.Totals.{summed, ledger_sum, total_of, run_total}
use Rattle.totals.specs.TotalsPromise.{SumsLog}
use Rattle.totals.specs.TotalsTheorem.{totals-show-history}
use Rattle.requests.specs.Requests.{taken}
use Rattle.requests.specs.Opening.{session_capacity}
use Rattle.requests.specs.OpeningLaws.{printed-length}
use Rattle.total.specs.Output.{ledger_line, total_line, rounded_line, total_lines, end_lines, line_of, end_of, part_line, ledger_lines, log_text, session_total, output}
use Rattle.total.proofs.ListingLaws.{list-few}
use Rattle.total.proofs.SummedLaws.{sums-session}

sum-length : (word : List ℕ) (n : ℕ) → n < 2 ^ 64 → length (word ++ (fixed 12 n ++ bytes "\n")) ≤ length word + 22
sum-length word n l = omega (
  arith,
  exact-length n l,
  length-append word (fixed 12 n ++ bytes "\n"),
  length-append (fixed 12 n) (bytes "\n"),
)

-- A ledger's line has at most 50 bytes: three digits of its number, four of its count, eight and twelve of its sum.
ledger-line-length : (k count n : ℕ) → k < 256 → count ≤ 4096 → n < 2 ^ 64 → length (ledger_line k count n) ≤ 50
unfolding ledger_line
ledger-line-length k count n a h l = omega (
  arith,
  sum-length (bytes " sum ") n l,
  decimal-length 3 k (omega arith) (omega arith),
  decimal-length 4 count (omega arith) (omega arith),
  length-append (bytes "ledger " ++ decimal k) ((bytes " entries " ++ decimal count) ++ (bytes " sum " ++ (fixed 12 n ++ bytes "\n"))),
  length-append (bytes " entries " ++ decimal count) (bytes " sum " ++ (fixed 12 n ++ bytes "\n")),
)

total-line-length : (n : ℕ) → n < 2 ^ 64 → length (total_line (total_of n).ones (total_of n).parts) ≤ 28
unfolding total_line fixed
total-line-length n l = sum-length (bytes "total ") n l

end-length : (n : ℕ) → n < 2 ^ 64 → length (end_lines n) ≤ 49
unfolding total_lines rounded_line
end-length n l = omega (
  arith,
  total-line-length n l,
  rounded-length n l,
  length-append (total_line (total_of n).ones (total_of n).parts) (bytes "rounded " ++ (fixed 3 (rounded n) ++ bytes "\n")),
  length-append (fixed 3 (rounded n)) (bytes "\n"),
)

-- A log whose total stays in 64 bits.
module _ (b : Buffers) (i : IsLog b) (n : ℕ) (small : n < 2 ^ 64) (is : run_total b ≡ Ok (total_of n)) where
  log : SumsLog b
  log = totals-show-history.log b i

  part-line-length : (k : ℕ) → k < 256 → length (part_line k b) ≤ 50
  unfolding ledger_sum
  part-line-length k l = at (ledger_sum k b) (outcome (read_ledger_checks k b) Err (Ok (summed (read_ledger_part k b))))
    where
      at : (a : SumAnswer) → Outcome (read_ledger_checks k b) Err (Ok (summed (read_ledger_part k b))) a → length (line_of k a) ≤ 50
      at a (stops r q) = rw q (omega arith)
      at a (goes p q) = rw q (ledger-line-length k (length (read_ledger_part k b)) (sum_of (read_ledger_part k b)) l (log.few k) (omega (arith, log.small k)))

  lines-length : (words : List ℕ) → length (ledger_lines (map (λ word. (unpack_place word).0) words) b) ≤ 50 * length words
  unfolding ledger_lines
  lines-length [] = omega arith
  lines-length (w ∷ words) = omega (
    arith,
    part-line-length (unpack_place w).0 (place-fits w),
    lines-length words,
    length-append (part_line (unpack_place w).0 b) (ledger_lines (map (λ word. (unpack_place word).0) words) b),
  )

  pub log-length : length (log_text b) ≤ run_total_limit
  unfolding log_text list_in
  log-length =
      let words : List ℕ = take (head b.state).list_length (drop (place_index 1) b.state) in
      omega (
        arith,
        lines-length words,
        list-few b,
        length-map words (λ word. (unpack_place word).0),
        end-length n small,
        ap (λ (a : TotalAnswer). length (end_of a)) is,
        length-append (ledger_lines (held b).list b) (end_of (run_total b)),
      )

pub output-length : (input : List ℕ) → length (output input) ≤ run_total_limit
unfolding output
output-length = printed-length session_total run_total_limit (omega arith)
    (λ n ls some few h. let s = sums-session n some few (taken (all_rights n) ls) in
    log-length (after_steps (taken (all_rights n) ls) (fresh_buffers session_capacity n)) s.log _ (omega (arith, s.bounded)) s.total)
