-- That a driver which reports what is true makes moves of the shared log, and no others. DrivingTheorem proves it.
use Rattle.std.specs.Prelude.{ℕ}
use Rattle.sharing.specs.declared.controller.Seen.{Seen}
use Rattle.sharing.specs.Sharing.{Machine, State}
use Rattle.sharing.specs.Driving.{Sees, Turned}

-- Every turn on what a controller truly sees is made of its moves.
pub record TurnsAreMoves {M : Machine} (base : M.Log) (s : State M) : Type 0 where
  pub moved : (c : ℕ) (o : Seen) → Sees s c o → (t : State M) × Turned base s c (s.controllers c).phase o t
