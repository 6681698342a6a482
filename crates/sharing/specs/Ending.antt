-- How an engine serves the acts of a controller, and what it is that its turns come to an end.
use Rattle.std.specs.Prelude.{ℕ, zero, suc, ◌≤◌, ◌≡◌, Bool, ◌⊎◌, length}
use Rattle.sharing.specs.declared.controller.Seen.{Seen}
use Rattle.sharing.specs.declared.controller.Seen.TheVariants as seen
use Rattle.sharing.specs.declared.controller.Act.{Act}
use Rattle.sharing.specs.declared.controller.Act.TheVariants as acts
use Rattle.sharing.specs.Turns.{turn}
use Rattle.sharing.specs.Places.{At, In}
use Rattle.sharing.specs.Sharing.{Machine, Accepts, Refuses, Row, Asking, Append, asked, waiting, State, with_row, Free, FreeFrom, Around}
use Rattle.sharing.specs.Driving.{shown, Sees, Turned}

-- How the engine serves an act that was begun in state s and is over in state t: what is seen, and the state then.
pub data Served {M : Machine} (base : M.Log) (c : ℕ) (s t : State M) : Act → Seen → State M → Type 0 where
  takes-it : (a : Asking M) (l : Bool) (id : ℕ) → (t.controllers c).phase ≡ asked a l → (id ≡ 0 → ⊥) → Accepts M a.request (t.controllers c).copy
      → ((m : Append M) → In m t.sent → m.id ≡ id → ⊥) → Served base c s t acts.Try (seen.Accepted id) t
  takes-not : (a : Asking M) (l : Bool) → (t.controllers c).phase ≡ asked a l → Refuses M a.request (t.controllers c).copy
      → Served base c s t acts.Try seen.Refused t
  -- A read gives at least the rows that were there when it was begun, but for those that come after the own one.
  reads_on : (a : Asking M) (l : Bool) (n : ℕ) → (t.controllers c).phase ≡ asked a l → (t.controllers c).known ≤ n → length s.rows ≤ n → n ≤ length t.rows
      → Served base c s t acts.Read (seen.Read n) t
  reads-past : (m : Append M) (n : ℕ) → (t.controllers c).phase ≡ waiting m → (t.controllers c).known ≤ n → length s.rows ≤ n → n ≤ length t.rows
      → FreeFrom t.rows (t.controllers c).known n m.id → Served base c s t acts.Read (seen.Read n) t
  reads-up-to : (m : Append M) (n : ℕ) (r : Row M) → (t.controllers c).phase ≡ waiting m → (t.controllers c).known ≤ n
      → FreeFrom t.rows (t.controllers c).known n m.id → At t.rows n r → r.id ≡ m.id → Served base c s t acts.Read (seen.Next n r.id) t
  -- An append is stored at the end, or was stored before.
  stores-it : (m : Append M) → (t.controllers c).phase ≡ waiting m → Free t.rows m.id
      → Served base c s t acts.Append (seen.Placed (t.controllers c).known (length t.rows)) (with_row m t)
  stored-it : (m : Append M) (i : ℕ) (r : Row M) → (t.controllers c).phase ≡ waiting m → At t.rows i r → r.id ≡ m.id
      → Served base c s t acts.Append (seen.Placed (t.controllers c).known i) t

abbrev pub Tells : Act → Type 0
Tells acts.Nothing = ⊥
Tells acts.Read = ⊥
Tells acts.Try = ⊥
Tells acts.Append = ⊥
Tells acts.Tell = Unit {0}
Tells acts.Refuse = Unit {0}
Tells acts.Withdraw = ⊥
Tells acts.Unknown = ⊥

-- By at most n turns the one who asked is told: whatever goes on around the controller while its act is served, and however it is served, what it sees then is
-- true, and after the turn on it at most n - 1 are left. And there is a way to serve it.
abbrev pub Ends : {M : Machine} → M.Log → ℕ → ℕ → State M → Act → Type 0
Ends base c zero s a = Tells a
Ends {M} base c (suc n) s a = Tells a ⊎ ((t : State M) → Around base c s t →
    ((o : Seen) × (u : State M) × Served base c s t a o u) ×
    ((o : Seen) (u : State M) → Served base c s t a o u → Sees u c o ×
    ((w : State M) → Turned base u c (u.controllers c).phase o w → Ends base c n w (turn (shown (u.controllers c).phase) o).act)))
