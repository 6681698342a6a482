-- Numbers that name no phase and nothing seen.
use Rattle.std.specs.Prelude.{ℕ, suc, ◌≤◌, ◌≡◌, length}
use Rattle.std.proofs.Common.{arith}
use Rattle.std.proofs.Math.ListN.{get_or-eq_default}
use Rattle.sharing.specs.declared.controller.Phase.TheVariants as phases
use Rattle.sharing.specs.declared.controller.Seen.TheVariants as seen
use Rattle.sharing.specs.Numbers.{phases_in_order, phase_of, seen_in_order, seen_of}

pub above : (k n : ℕ) → k ≤ n → (n ≡ k → ⊥) → suc k ≤ n
above k n h o = omega arith

pub no-phase : (number id : ℕ) → 4 ≤ number → phase_of number id ≡ phases.Halted
no-phase number id h = get_or-eq_default (phases_in_order id) phases.Halted (let past : length (phases_in_order id) ≤ number = omega arith in past)

pub not_seen : (number a b : ℕ) → 9 ≤ number → seen_of number a b ≡ seen.Silence
not_seen number a b h = get_or-eq_default (seen_in_order a b) seen.Silence (let past : length (seen_in_order a b) ≤ number = omega arith in past)
