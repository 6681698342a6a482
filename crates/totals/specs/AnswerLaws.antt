-- What the totals answer, by the verdict on the buffers.
use Prim.Native.Nat.{ℕ, ◌+◌, ◌*◌, ◌/◌, ◌%◌, ◌^◌, ◌≤◌}
use Rattle.std.proofs.Common.{arith, ◌∙◌}
use Rattle.std.specs.Prelude.{◌≡◌, Ok, Err}
use Rattle.std.proofs.Math.Path.{sym, ap}
use mathlib.Core.List.{List, []}
use Rattle.std.proofs.Math.ListN.{length}
use Rattle.records.specs.declared.head.Head.{Head}
use Rattle.chain.specs.declared.answer.Refusal.{Refusal}
use Rattle.chain.specs.Verdicts.{Verdict}
use Rattle.chain.specs.Verdicts.{verdict, verdict-refuses, passes-first}
use Rattle.chain.specs.Operations.{buffers, log_checks, read_ledger_checks, read_ledger_part}
use Rattle.chain.specs.Values.{sum, sum_of}
use Rattle.chain.proofs.Laws.Formed.{capacity-most}
use Rattle.chain.proofs.Laws.Values.{values-cleared}
use Rattle.amounts.specs.Rounding.{rounded}
use Rattle.wellformed.specs.Checked.{Checked}
use Rattle.wellformed.specs.Checked.{checked, said, the-verdict, the-head}
use Rattle.wellformed.specs.LogVerdictLaws.{log-formed}
use Rattle.readers.specs.Along.{chain_words, chain-reading}
use Rattle.totals.specs.Totals.{summed, ledger_sum, run_sum, total_of, run_total}
use Rattle.totals.specs.SumLaws.{part-within}
use Rattle.totals.specs.Carried.{Exactly}

-- The sum of a ledger.
module _ (l : ℕ) (s e : List ℕ) (v : Verdict) (is : v ≡ verdict (read_ledger_checks l (buffers s e))) where
  pub sum-refused : (r : Refusal) → v ≡ Err r → Err r ≡ ledger_sum l (buffers s e)
  unfolding ledger_sum
  sum-refused r p = sym (verdict-refuses (read_ledger_checks l (buffers s e)) Err (Ok (summed (read_ledger_part l (buffers s e)))) r (sym is ∙ p))

  module _ (p : v ≡ (Ok (tt {0}))) (part : List ℕ) (handed : part ≡ read_ledger_part l (buffers s e)) where
    pub part-few : length part ≤ 4096
    part-few = omega (
      arith,
      ap (length {A = ℕ}) handed,
      part-within (buffers s e) l,
      capacity-most (length e) (log-formed (buffers s e) _ (sym is ∙ p)).0.capacity,
    )

    pub sum-answered : (n : ℕ) → n ≡ sum_of part → Ok (record { entries = length part; sum = n }) ≡ ledger_sum l (buffers s e)
    unfolding ledger_sum
    sum-answered n q =
        ap (λ (k : ℕ). Ok (record { entries = length part; sum = k })) q
        ∙ ap (λ (ws : List ℕ). Ok (summed ws)) handed
        ∙ sym (passes-first (read_ledger_checks l (buffers s e)) Err (Ok (summed (read_ledger_part l (buffers s e)))) (sym is ∙ p))

-- Ones and parts round as the sum that they are does.
rounds : (n ones parts : ℕ) → ones ≡ n / 10 ^ 12 → parts ≡ n % 10 ^ 12 → ones * 1000 + rounded parts ≡ rounded n
rounds n ones parts p q = omega arith

-- The run total.
module _ (s e : List ℕ) {c : Checked} (is : c ≡ checked (buffers s e)) where
  found : {v : Verdict} → said c ≡ v → verdict (log_checks (buffers s e) []) ≡ v
  found p = sym (the-verdict (buffers s e) is) ∙ p

  pub total-refused : {r : Refusal} → c ≡ Err r → Err r ≡ run_total (buffers s e)
  unfolding run_total
  total-refused {r} p =
      sym (verdict-refuses (log_checks (buffers s e) []) Err (Ok (total_of (run_sum (buffers s e)))) r (found (ap said p)))

  module _ {h : Head} (p : c ≡ Ok h) where
    pub log-short : length e ≤ 4096
    log-short = capacity-most (length e) (log-formed (buffers s e) [] (found (ap said p))).0.capacity

    module _ (ones parts : ℕ) (x : Exactly (sum_of (chain_words s e h)) ones parts) where
      sum_is : run_sum (buffers s e) ≡ sum_of (chain_words s e h)
      unfolding run_sum
      sum_is = ap sum_of (chain-reading s e h (the-head (buffers s e) is p)) ∙ ap sum (values-cleared (chain_words s e h))

      pub total-answered : (rest : ℕ) → rest ≡ rounded parts
          → Ok (record { ones = ones; parts = parts; rounded = ones * 1000 + rest }) ≡ run_total (buffers s e)
      unfolding run_total
      total-answered rest q =
          let n : ℕ = sum_of (chain_words s e h) in
          let r : ones * 1000 + rest ≡ rounded n = omega (arith, rounds n ones parts x.ones-are x.parts_are, q) in
          (λ i. Ok (record { ones = x.ones-are i; parts = x.parts_are i; rounded = r i }))
          ∙ ap (λ (k : ℕ). Ok (total_of k)) (sym sum_is)
          ∙ sym (passes-first (log_checks (buffers s e) []) Err (Ok (total_of (run_sum (buffers s e)))) (found (ap said p)))
