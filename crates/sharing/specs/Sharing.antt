-- One log for many controllers: they share the rows of a table, and each replays them.
--
-- The engine that keeps the table is trusted with one operation. Append: where the table has a row with this id nothing changes, else the row is added
-- after the last one; the reply is the place of the row with this id; atomic and durable. All else may go wrong: an append that was sent may be delivered
-- late, many times or never, replies may be lost, and a controller may stop for good, or forget all and start again.
--
-- A row is a request. It may be refused in its place: then it changes nothing, and its answer there is the refusal.
use Rattle.std.specs.Prelude.{ℕ, ◌+◌, ◌<◌, ◌≤◌, ◌≡◌, Bool, true, false, List, [], ◌∷◌, ◌++◌, length, take, drop}
use Rattle.chain.specs.Log.{put}
use Rattle.sharing.specs.Places.{At, In}

-- What is shared: a log, requests to it, their answers, and which answers are refusals.
pub record Machine : Type 1 where
  pub Log : Type 0
  pub Request : Type 0
  pub Answer : Type 0
  pub after : Request → Log → Log
  pub answer : Request → Log → Answer
  pub refuses : Answer → Bool

abbrev pub Accepts : (M : Machine) → M.Request → M.Log → Type 0
Accepts M x b = M.refuses (M.answer x b) ≡ false

abbrev pub Refuses : (M : Machine) → M.Request → M.Log → Type 0
Refuses M x b = M.refuses (M.answer x b) ≡ true

-- A row of the table: a request, and its id.
pub record Row (M : Machine) : Type 0 where
  pub id : ℕ
  pub request : M.Request

-- What becomes of a log by rows, and the answers on the way.
unfoldable pub replay : {M : Machine} → List (Row M) → M.Log → M.Log
replay [] b = b
replay {M} (r ∷ rows) b = replay rows (M.after r.request b)

unfoldable pub replies : {M : Machine} → List (Row M) → M.Log → List M.Answer
replies [] b = []
replies {M} (r ∷ rows) b = M.answer r.request b ∷ replies rows (M.after r.request b)

-- The log after the first n rows.
abbrev pub log_at : {M : Machine} → M.Log → List (Row M) → ℕ → M.Log
log_at base rows n = replay (take n rows) base

-- A request that a controller was asked for. Ghost: how many rows there were then, the time, and which controller it was.
pub record Asking (M : Machine) : Type 0 where
  pub request : M.Request
  pub since : ℕ
  pub time : ℕ
  pub asker : ℕ

-- The append of a request that was asked for.
pub record Append (M : Machine) : Type 0 where
  pub id : ℕ
  pub asking : Asking M

abbrev pub row : {M : Machine} → Append M → Row M
row m = record { id = m.id; request = m.asking.request }

-- A controller has nothing to do; or was asked for a request, and has or hasn't read the rows since; or has sent an append, and has no answer to give yet;
-- or has seen another history, and has stopped.
pub data Phase (M : Machine) : Type 0 where
  idle : Phase M
  asked : Asking M → Bool → Phase M
  waiting : Append M → Phase M
  halted : Phase M

-- It knows the first rows of the table, and what the library made of them.
pub record Controller (M : Machine) : Type 0 where
  pub known : ℕ
  pub copy : M.Log
  pub phase : Phase M

-- What a controller tells: that the request has its row, at this place, and the answer there (ghost: the time); or that the request is refused, after so
-- many rows, and has none.
pub record Telling (M : Machine) : Type 0 where
  pub append : Append M
  pub place : ℕ
  pub answer : M.Answer
  pub time : ℕ

pub record Denied (M : Machine) : Type 0 where
  pub asking : Asking M
  pub known : ℕ
  pub answer : M.Answer

-- The whole system. The lists but for the rows are ghost, the newest first: every append sent, what was told, and the appends that their senders forgot.
-- A crash, a giving up or a halt is counted.
pub record State (M : Machine) : Type 0 where
  pub clock : ℕ
  pub rows : List (Row M)
  pub sent : List (Append M)
  pub controllers : ℕ → Controller M
  pub told : List (Telling M)
  pub denied : List (Denied M)
  pub forgotten : List (Append M)
  pub crashes : ℕ

abbrev pub initial : (M : Machine) → M.Log → State M
initial M base = record {
  clock = 0;
  rows = [];
  sent = [];
  controllers = λ _. record { known = 0; copy = base; phase = idle };
  told = [];
  denied = [];
  forgotten = [];
  crashes = 0;
}

-- One moment later: a controller changed, a row more, an append more, or one more thing told.
abbrev pub with_controller : {M : Machine} → ℕ → Controller M → State M → State M
with_controller c k s = record {
  clock = s.clock + 1;
  rows = s.rows;
  sent = s.sent;
  controllers = put s.controllers c k;
  told = s.told;
  denied = s.denied;
  forgotten = s.forgotten;
  crashes = s.crashes;
}

abbrev pub with_row : {M : Machine} → Append M → State M → State M
with_row m s = record {
  clock = s.clock + 1;
  rows = s.rows ++ (row m ∷ []);
  sent = s.sent;
  controllers = s.controllers;
  told = s.told;
  denied = s.denied;
  forgotten = s.forgotten;
  crashes = s.crashes;
}

abbrev pub with_sent : {M : Machine} → Append M → State M → State M
with_sent m s = record {
  clock = s.clock;
  rows = s.rows;
  sent = m ∷ s.sent;
  controllers = s.controllers;
  told = s.told;
  denied = s.denied;
  forgotten = s.forgotten;
  crashes = s.crashes;
}

abbrev pub with_told : {M : Machine} → Telling M → State M → State M
with_told k s = record {
  clock = s.clock;
  rows = s.rows;
  sent = s.sent;
  controllers = s.controllers;
  told = k ∷ s.told;
  denied = s.denied;
  forgotten = s.forgotten;
  crashes = s.crashes;
}

abbrev pub with_notes : {M : Machine} → List (Denied M) → List (Append M) → ℕ → State M → State M
with_notes ds fs n s = record {
  clock = s.clock;
  rows = s.rows;
  sent = s.sent;
  controllers = s.controllers;
  told = s.told;
  denied = ds;
  forgotten = fs;
  crashes = n;
}

abbrev pub with_denied : {M : Machine} → Denied M → State M → State M
with_denied d s = with_notes (d ∷ s.denied) s.forgotten s.crashes s

abbrev pub with_forgotten : {M : Machine} → List (Append M) → State M → State M
with_forgotten ms s = with_notes s.denied (ms ++ s.forgotten) (s.crashes + 1) s

abbrev pub in_phase : {M : Machine} → Phase M → Controller M → Controller M
in_phase p k = record { known = k.known; copy = k.copy; phase = p }

-- A controller that has read on, up to row n: it takes the rows that it didn't know on its copy.
abbrev pub reading : {M : Machine} → List (Row M) → ℕ → Controller M → Controller M
reading rows n k = record { known = n; copy = replay (drop k.known (take n rows)) k.copy; phase = k.phase }

-- A controller that has come to its own row, takes it on its copy, and is done.
abbrev pub passing : {M : Machine} → Append M → Controller M → Controller M
passing {M} m k = record { known = k.known + 1; copy = M.after m.asking.request k.copy; phase = idle }

abbrev pub starting : {M : Machine} → M.Log → Controller M
starting base = record { known = 0; copy = base; phase = idle }

-- It has not stopped.
abbrev pub Runs : {M : Machine} → Phase M → Type 0
Runs idle = Unit {0}
Runs (asked a l) = Unit {0}
Runs (waiting m) = Unit {0}
Runs halted = ⊥

-- The append that a controller is waiting for.
abbrev pub pending : {M : Machine} → Phase M → List (Append M)
pending idle = []
pending (asked a l) = []
pending (waiting m) = m ∷ []
pending halted = []

abbrev pub asking : {M : Machine} → M.Request → ℕ → State M → Asking M
asking x c s = record { request = x; since = length s.rows; time = s.clock; asker = c }

abbrev pub append : {M : Machine} → ℕ → Asking M → Append M
append id a = record { id = id; asking = a }

-- The answer is the one of the copy: so the copy has to be that of the rows before the own one.
abbrev pub telling : {M : Machine} → Append M → Controller M → State M → Telling M
telling {M} m k s = record { append = m; place = k.known; answer = M.answer m.asking.request k.copy; time = s.clock }

abbrev pub denial : {M : Machine} → Asking M → Controller M → Denied M
denial {M} a k = record { asking = a; known = k.known; answer = M.answer a.request k.copy }

-- No row of a table has this id; no row at the places from j to n.
abbrev pub Free : {M : Machine} → List (Row M) → ℕ → Type 0
Free {M} rows id = (i : ℕ) (r : Row M) → At rows i r → r.id ≡ id → ⊥

abbrev pub FreeFrom : {M : Machine} → List (Row M) → ℕ → ℕ → ℕ → Type 0
FreeFrom {M} rows j n id = (i : ℕ) (r : Row M) → At rows i r → j ≤ i → i < n → r.id ≡ id → ⊥

-- The moves of controller c.
module _ {M : Machine} (base : M.Log) (s : State M) (c : ℕ) where
  abbrev me : Controller M
  me = s.controllers c

  pub data Move : State M → Type 0 where
    -- Somebody asks it for a request.
    ask : (x : M.Request) → me.phase ≡ idle → Move (with_controller c (in_phase (asked (asking x c s) false) me) s)
    -- It reads on, up to some row, and while it waits, not past its own; what it reads may be old.
    look : (n : ℕ) → Runs me.phase → me.known ≤ n → n ≤ length s.rows → ((m : Append M) → me.phase ≡ waiting m → FreeFrom s.rows me.known n m.id)
        → Move (with_controller c (reading s.rows n me) s)
    -- The same by a read that began after the asking: so it sees at least what was there then.
    read : (a : Asking M) (l : Bool) (n : ℕ) → me.phase ≡ asked a l → me.known ≤ n → a.since ≤ n → n ≤ length s.rows
        → Move (with_controller c (in_phase (asked a true) (reading s.rows n me)) s)
    -- The request is refused on its copy, and it has read since it was asked: it says so.
    refuse : (a : Asking M) → me.phase ≡ asked a true → Refuses M a.request me.copy
        → Move (with_denied (denial a me) (with_controller c (in_phase idle me) s))
    -- The request is accepted on its copy: it sends an append, under an id that no append ever had. What was sent once may be delivered for ever: sending it
    -- again is no move.
    send : (a : Asking M) (l : Bool) (id : ℕ) → me.phase ≡ asked a l → Accepts M a.request me.copy
        → ((m : Append M) → In m s.sent → m.id ≡ id → ⊥)
        → Move (with_sent (append id a) (with_controller c (in_phase (waiting (append id a)) me) s))
    -- An append of its is delivered where no row has its id. Where one has, nothing changes: delivering it again is no move.
    store : (m : Append M) → In m s.sent → m.asking.asker ≡ c → Free s.rows m.id → Move (with_row m s)
    -- The row after those that it knows is its own, by the reply to its append or by a read: it takes the request there, and tells the answer.
    tell : (m : Append M) (r : Row M) → me.phase ≡ waiting m → At s.rows me.known r → r.id ≡ m.id
        → Move (with_told (telling m me s) (with_controller c (passing m me) s))
    -- It gives up, or crashes and starts again: what it was waiting for it forgets.
    leave : Runs me.phase → Move (with_forgotten (pending me.phase) (with_controller c (in_phase idle me) s))
    crash : Move (with_forgotten (pending me.phase) (with_controller c (starting base) s))
    -- It has seen another history than the one that it knows, and stops until it starts again.
    halt : Move (with_forgotten (pending me.phase) (with_controller c (in_phase halted me) s))

-- Any controllers' moves, one after the other.
pub data Run {M : Machine} (base : M.Log) (s : State M) : State M → Type 0 where
  here : Run base s s
  on : {t u : State M} (c : ℕ) → Run base s t → Move base t c u → Run base s u

abbrev pub Reachable : {M : Machine} → M.Log → State M → Type 0
Reachable {M} base s = Run base (initial M base) s

-- What goes on around a controller: moves of the others, and what it sent once being delivered.
pub data Around {M : Machine} (base : M.Log) (c : ℕ) (s : State M) : State M → Type 0 where
  nothing : Around base c s s
  other : {t u : State M} (d : ℕ) → (d ≡ c → ⊥) → Around base c s t → Move base t d u → Around base c s u
  late : {t : State M} (m : Append M) → Around base c s t → In m t.sent → m.asking.asker ≡ c → Free t.rows m.id → Around base c s (with_row m t)

-- Moves of one controller alone, counted.
pub data Alone {M : Machine} (base : M.Log) (c : ℕ) (s : State M) : ℕ → State M → Type 0 where
  none : Alone base c s 0 s
  more : {n : ℕ} {t u : State M} → Alone base c s n t → Move base t c u → Alone base c s (n + 1) u
