-- The promise of IdsPromise holds.
use Rattle.std.specs.Prelude.{ℕ, ◌+◌, ◌*◌, ◌^◌, ◌<◌, ◌≡◌}
use Rattle.std.proofs.Common.{arith, sym, ◌∙◌}
use Rattle.checks.specs.Test.{Holds}
use Rattle.checks.specs.TestLaws.{holds-true, split}
use Rattle.sharing.specs.Sharing.{Machine}
use Rattle.sharing.specs.Ids.{fits, request_id}
use Rattle.sharing.specs.IdsPromise.{IdsDiffer}

fitting : (start count : ℕ) → Holds (fits start count) → request_id start count ≡ start * 2 ^ 32 + count
fitting start count h = rw (holds-true (fits start count) h)

different : (start count other other_count : ℕ) → Holds (fits start count) → Holds (fits other other_count) → request_id start count ≡ request_id other other_count
    → (start ≡ other) × (count ≡ other_count)
different a b c d h k e =
    let same : a * 2 ^ 32 + b ≡ c * 2 ^ 32 + d = sym (fitting a b h) ∙ e ∙ fitting c d k in
    (omega (arith, same, h.1, k.1), omega (arith, same, h.1, k.1))

pub ids-differ : (M : Machine) → IdsDiffer M
ids-differ M = record {
  different = different;
  word = λ a b. split (λ (n : ℕ). n < 2 ^ 64) (fits a b) (λ h. omega (arith, h.0.1, h.1)) (λ _. omega arith);
  not-zero = λ a b h e. omega (arith, fitting a b h, e, h.0.0);
  new = λ s starts counts f start count h g m i e.
      let o = f m i in g m i (different (starts m) (counts m) start count o.1 h (sym o.0 ∙ e));
}
