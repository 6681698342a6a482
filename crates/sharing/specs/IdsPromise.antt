-- What ids promise: no two requests have the same, where each start of a controller draws a number of its own. IdsTheorem proves it.
use Rattle.std.specs.Prelude.{ℕ, ◌^◌, ◌<◌, ◌≡◌}
use Rattle.checks.specs.Test.{Holds}
use Rattle.sharing.specs.Places.{In}
use Rattle.sharing.specs.Sharing.{Machine, Append, State}
use Rattle.sharing.specs.Ids.{fits, request_id}

pub record IdsDiffer (M : Machine) : Type 0 where
  pub different : (start count other other_count : ℕ) → Holds (fits start count) → Holds (fits other other_count) → request_id start count ≡ request_id other other_count
      → (start ≡ other) × (count ≡ other_count)
  pub word : (start count : ℕ) → request_id start count < 2 ^ 64
  pub not-zero : (start count : ℕ) → Holds (fits start count) → request_id start count ≡ 0 → ⊥
  -- So an append may have an id whose start and count no append had: the moves ask no more of it.
  pub new : (s : State M) (starts counts : Append M → ℕ)
      → ((m : Append M) → In m s.sent → (m.id ≡ request_id (starts m) (counts m)) × Holds (fits (starts m) (counts m)))
      → (start count : ℕ) → Holds (fits start count) → ((m : Append M) → In m s.sent → (starts m ≡ start) × (counts m ≡ count) → ⊥)
      → (m : Append M) → In m s.sent → m.id ≡ request_id start count → ⊥
