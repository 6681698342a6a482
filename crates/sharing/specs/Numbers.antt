-- The phases, what is seen, and the acts as numbers: no enum crosses the C boundary.
use Rattle.std.specs.Prelude.{ℕ, List, [], ◌∷◌, get_or}
use Rattle.sharing.specs.declared.controller.Phase.{Phase}
use Rattle.sharing.specs.declared.controller.Phase.TheVariants as phases
use Rattle.sharing.specs.declared.controller.Seen.{Seen}
use Rattle.sharing.specs.declared.controller.Seen.TheVariants as seen
use Rattle.sharing.specs.declared.controller.Act.{Act}
use Rattle.sharing.specs.declared.controller.Act.TheVariants as acts

-- A phase is two numbers: its own, and the awaited id, which is 0 where nothing is awaited.
abbrev pub phase_number : Phase → ℕ
phase_number phases.Idle = 0
phase_number phases.Asked = 1
phase_number phases.Current = 2
phase_number (phases.Waiting id) = 3
phase_number phases.Halted = 4

abbrev pub phase_id : Phase → ℕ
phase_id phases.Idle = 0
phase_id phases.Asked = 0
phase_id phases.Current = 0
phase_id (phases.Waiting id) = id
phase_id phases.Halted = 0

-- A number of no phase is taken as halted, in which a controller does nothing.
abbrev pub phases_in_order : ℕ → List Phase
phases_in_order id = phases.Idle ∷ phases.Asked ∷ phases.Current ∷ phases.Waiting id ∷ []

abbrev pub phase_of : ℕ → ℕ → Phase
phase_of number id = get_or (phases_in_order id) number phases.Halted

-- What is seen is three numbers: its own, and what it says. A number of nothing seen is taken as silence, which is always true.
abbrev pub seen_in_order : ℕ → ℕ → List Seen
seen_in_order a b = seen.Asked ∷ seen.Read a ∷ seen.Next a b ∷ seen.Placed a b ∷ seen.Accepted a ∷ seen.Refused ∷ seen.Silence ∷ seen.Stop ∷ seen.OtherHistory ∷ []

abbrev pub seen_of : ℕ → ℕ → ℕ → Seen
seen_of number a b = get_or (seen_in_order a b) number seen.Silence

abbrev pub act_number : Act → ℕ
act_number acts.Nothing = 0
act_number acts.Read = 1
act_number acts.Try = 2
act_number acts.Append = 3
act_number acts.Tell = 4
act_number acts.Refuse = 5
act_number acts.Withdraw = 6
act_number acts.Unknown = 7
