-- That the numbers say all: every phase and everything seen has its numbers, and no two acts have the same. NumbersTheorem proves it.
use Rattle.std.specs.Prelude.{ℕ, ◌≡◌}
use Rattle.sharing.specs.declared.controller.Phase.{Phase}
use Rattle.sharing.specs.declared.controller.Seen.{Seen}
use Rattle.sharing.specs.declared.controller.Act.{Act}
use Rattle.sharing.specs.Numbers.{phase_number, phase_id, phase_of, seen_of, act_number}

pub record NumbersSayAll : Type 0 where
  -- A phase that comes out as numbers goes in again as the same.
  pub phase : (p : Phase) → phase_of (phase_number p) (phase_id p) ≡ p
  pub seen : (o : Seen) → (number : ℕ) × (first : ℕ) × (second : ℕ) × (seen_of number first second ≡ o)
  pub act : (a b : Act) → act_number a ≡ act_number b → a ≡ b
