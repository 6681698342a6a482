-- That a controller which the engine serves is done in a fixed number of turns, whatever goes on around it. EndingTheorem proves it.
use Rattle.std.specs.Prelude.{ℕ, ◌≡◌, false}
use Rattle.sharing.specs.declared.controller.Act.TheVariants as acts
use Rattle.sharing.specs.Sharing.{Machine, Asking, Append, asked, waiting, State}
use Rattle.sharing.specs.Ending.{Ends}

pub record TurnsEnd {M : Machine} (base : M.Log) (s : State M) : Type 0 where
  -- After the turn on being asked; and from the append of a controller that waits.
  pub asked : (c : ℕ) (a : Asking M) → (s.controllers c).phase ≡ asked a false → Ends base c 5 s acts.Try
  pub waiting : (c : ℕ) (m : Append M) → (s.controllers c).phase ≡ waiting m → Ends base c 2 s acts.Append
