-- What ties a driver that does what the turns say to the moves of the shared log.
use Rattle.std.specs.Prelude.{ℕ, ◌+◌, ◌≤◌, ◌≡◌, Bool, true, false, ◌∷◌, ◌⊎◌, length}
use Rattle.sharing.specs.declared.controller.Phase as code
use Rattle.sharing.specs.declared.controller.Phase.TheVariants as phases
use Rattle.sharing.specs.declared.controller.Seen.{Seen}
use Rattle.sharing.specs.declared.controller.Seen.TheVariants as seen
use Rattle.sharing.specs.declared.controller.Act.{Act}
use Rattle.sharing.specs.declared.controller.Act.TheVariants as acts
use Rattle.sharing.specs.Turns.{turn}
use Rattle.sharing.specs.Places.{At, In}
use Rattle.sharing.specs.Sharing.{Machine, Accepts, Refuses, Row, Asking, Append, Phase, idle, asked, waiting, halted, Controller, Telling, Denied, State, FreeFrom, Alone}

-- A controller's phase, as the code has it.
abbrev pub shown : {M : Machine} → Phase M → code.Phase
shown idle = phases.Idle
shown (asked a false) = phases.Asked
shown (asked a true) = phases.Current
shown (waiting m) = phases.Waiting m.id
shown halted = phases.Halted

module _ {M : Machine} (s : State M) (c : ℕ) where
  abbrev me : Controller M
  me = s.controllers c

  -- What a controller may truly say that it has seen. A read that it was told of began after the latest turn, so after the asking.
  pub data Sees : Seen → Type 0 where
    asks : (x : M.Request) → me.phase ≡ idle → Sees seen.Asked
    asks-halted : me.phase ≡ halted → Sees seen.Asked
    reads-idle : (n : ℕ) → me.phase ≡ idle → me.known ≤ n → n ≤ length s.rows → Sees (seen.Read n)
    reads-asked : (a : Asking M) (l : Bool) (n : ℕ) → me.phase ≡ asked a l → me.known ≤ n → a.since ≤ n → n ≤ length s.rows → Sees (seen.Read n)
    reads-waiting : (m : Append M) (n : ℕ) → me.phase ≡ waiting m → me.known ≤ n → n ≤ length s.rows → FreeFrom s.rows me.known n m.id
        → Sees (seen.Read n)
    comes-to : (m : Append M) (n : ℕ) (r : Row M) → me.phase ≡ waiting m → me.known ≤ n → FreeFrom s.rows me.known n m.id → At s.rows n r
        → Sees (seen.Next n r.id)
    -- The reply is true when it is sent, and so for good.
    places : (m : Append M) (place : ℕ) (r : Row M) → me.phase ≡ waiting m → At s.rows place r → r.id ≡ m.id → Sees (seen.Placed me.known place)
    accepts : (a : Asking M) (l : Bool) (id : ℕ) → me.phase ≡ asked a l → (id ≡ 0 → ⊥) → Accepts M a.request me.copy
        → ((m : Append M) → In m s.sent → m.id ≡ id → ⊥) → Sees (seen.Accepted id)
    -- It has no id to give.
    lacks-id : (a : Asking M) (l : Bool) → me.phase ≡ asked a l → Sees (seen.Accepted 0)
    refuses : (a : Asking M) (l : Bool) → me.phase ≡ asked a l → Refuses M a.request me.copy → Sees seen.Refused
    hears-nothing : Sees seen.Silence
    stops : Sees seen.Stop
    differs : Sees seen.OtherHistory

-- Nothing is told to the one who asked.
abbrev pub TellsNothing : {M : Machine} → State M → State M → Type 0
TellsNothing s t = (t.told ≡ s.told) × (t.denied ≡ s.denied)

-- Nothing is sent, and nothing was: the controller was asked, or has stopped.
abbrev pub NotSent : {M : Machine} → State M → ℕ → State M → Type 0
NotSent {M} s c t = (t.sent ≡ s.sent) × (((a : Asking M) × (l : Bool) × ((s.controllers c).phase ≡ asked a l)) ⊎ ((s.controllers c).phase ≡ halted))

-- What is done, by the act that a turn names.
abbrev pub Does : {M : Machine} → Act → State M → ℕ → State M → Type 0
Does acts.Nothing s c t = TellsNothing s t
Does acts.Read s c t = TellsNothing s t
Does acts.Try s c t = TellsNothing s t
-- The append is one that counts as sent.
Does {M} acts.Append s c t = TellsNothing s t × ((m : Append M) × ((t.controllers c).phase ≡ waiting m) × In m t.sent × (m.asking.asker ≡ c))
Does {M} acts.Tell s c t = (m : Append M) × ((s.controllers c).phase ≡ waiting m) ×
    ((k : Telling M) × (t.told ≡ k ∷ s.told) × (k.append ≡ m)) × (t.denied ≡ s.denied)
Does {M} acts.Refuse s c t = (a : Asking M) × ((s.controllers c).phase ≡ asked a true) × (t.told ≡ s.told) ×
    ((d : Denied M) × (t.denied ≡ d ∷ s.denied) × (d.asking ≡ a) × Refuses M a.request (s.controllers c).copy ×
    (d.answer ≡ M.answer a.request (s.controllers c).copy))
Does acts.Withdraw s c t = TellsNothing s t × NotSent s c t
Does {M} acts.Unknown s c t = TellsNothing s t × ((m : Append M) × ((s.controllers c).phase ≡ waiting m) × In m t.forgotten)

-- How many rows are known then: those that were read, and the own one once it is taken for good.
abbrev pub known_by : Seen → ℕ → ℕ
known_by seen.Asked k = k
known_by (seen.Read n) k = n
known_by (seen.Next n there) k = n
known_by (seen.Placed n place) k = k
known_by (seen.Accepted id) k = k
known_by seen.Refused k = k
known_by seen.Silence k = k
known_by seen.Stop k = k
known_by seen.OtherHistory k = k

abbrev pub counted : Act → ℕ → ℕ
counted acts.Nothing k = k
counted acts.Read k = k
counted acts.Try k = k
counted acts.Append k = k
counted acts.Tell k = k + 1
counted acts.Refuse k = k
counted acts.Withdraw k = k
counted acts.Unknown k = k

-- From one phase to the next a controller stays with what it was asked for, and while it waits, with the append that it sent: it sends no other. Once it
-- has stopped, it stays so.
abbrev pub Stays : {M : Machine} → Phase M → Phase M → Type 0
Stays idle q = Unit {0}
Stays (asked a l) idle = Unit {0}
Stays (asked a l) (asked b e) = b ≡ a
Stays (asked a l) (waiting n) = n.asking ≡ a
Stays (asked a l) halted = Unit {0}
Stays (waiting m) idle = Unit {0}
Stays (waiting m) (asked b e) = ⊥
Stays (waiting m) (waiting n) = n ≡ m
Stays (waiting m) halted = Unit {0}
Stays halted idle = ⊥
Stays halted (asked b e) = ⊥
Stays halted (waiting n) = ⊥
Stays halted halted = Unit {0}

-- A turn, in phase q, on something seen comes to moves of the controller, after which it is in the phase that the turn gives, and has done what the turn
-- says.
pub record Turned {M : Machine} (base : M.Log) (s : State M) (c : ℕ) (q : Phase M) (o : Seen) (t : State M) : Type 0 where
  pub moves : (i : ℕ) × Alone base c s i t × (i ≤ 2)
  pub phase : shown (t.controllers c).phase ≡ (turn (shown q) o).phase
  pub asking : Stays q (t.controllers c).phase
  -- Rows come only by appends.
  pub rows : t.rows ≡ s.rows
  pub known : (t.controllers c).known ≡ counted (turn (shown q) o).act (known_by o (s.controllers c).known)
  pub does : Does (turn (shown q) o).act s c t
