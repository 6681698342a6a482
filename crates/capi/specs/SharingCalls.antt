-- What the exported decision of a shared log owes its caller, with phases, what is seen, and acts as numbers.
use Rattle.std.specs.Prelude.{ℕ, ◌≡◌}
use Rattle.sharing.specs.declared.controller.Turn.{Turn}
use Rattle.sharing.specs.Turns.{turn}
use Rattle.sharing.specs.Numbers.{phase_number, phase_id, phase_of, seen_of, act_number}

abbrev pub decided : ℕ → ℕ → ℕ → ℕ → ℕ → Turn
decided phase id seen a b = turn (phase_of phase id) (seen_of seen a b)

-- The phase that follows, as two numbers, and the act.
pub record DecideCall (phase id seen a b next awaited act : ℕ) : Type 0 where
  pub phases : next ≡ phase_number (decided phase id seen a b).phase
  pub ids : awaited ≡ phase_id (decided phase id seen a b).phase
  pub acts : act ≡ act_number (decided phase id seen a b).act
