-- What a shared log promises, whatever the log is. SharingTheorem proves each.
use Rattle.std.specs.Prelude.{ℕ, zero, suc, ◌+◌, ◌<◌, ◌≤◌, ◌≡◌, Bool, List, [], ◌∷◌, ◌⊎◌, length}
use Rattle.sharing.specs.Places.{At, In}
use Rattle.sharing.specs.Sharing.{Machine, Refuses, Row, replay, replies, log_at, Asking, Append, row, idle, asked, waiting, halted, Telling, Denied, State, starting, Move, Run, Around}

-- What was told is the replay's answer at the request's own place.
abbrev pub IsReply : {M : Machine} → M.Log → List (Row M) → Telling M → Type 0
IsReply {M} base rows k = At rows k.place (row k.append) × At (replies rows base) k.place k.answer ×
    (k.answer ≡ M.answer k.append.asking.request (log_at base rows k.place))

pub record ToldIsReplay {M : Machine} (base : M.Log) (s : State M) : Type 0 where
  pub now : (k : Telling M) → In k s.told → IsReply base s.rows k
  -- And for good.
  pub kept : (t : State M) → Run base s t → (k : Telling M) → In k s.told → IsReply base t.rows k

-- One asking: a controller is asked for one request at a time.
abbrev pub OneAsking : {M : Machine} → Asking M → Asking M → Type 0
OneAsking a b = (a.asker ≡ b.asker) × (a.time ≡ b.time)

-- No two of a list of tellings are of one row; no two are of one asking.
abbrev pub DifferentRows : {M : Machine} → List (Telling M) → Type 0
DifferentRows [] = Unit {0}
DifferentRows {M} (a ∷ l) = ((k : Telling M) → In k l → k.place ≡ a.place → ⊥) × DifferentRows l

abbrev pub DifferentAskings : {M : Machine} → List (Telling M) → Type 0
DifferentAskings [] = Unit {0}
DifferentAskings {M} (a ∷ l) = ((k : Telling M) → In k l → OneAsking k.append.asking a.append.asking → ⊥) × DifferentAskings l

abbrev pub DeniedApart : {M : Machine} → List (Denied M) → Type 0
DeniedApart [] = Unit {0}
DeniedApart {M} (d ∷ l) = ((e : Denied M) → In e l → OneAsking e.asking d.asking → ⊥) × DeniedApart l

pub record ToldOnce {M : Machine} (base : M.Log) (s : State M) : Type 0 where
  -- Each row is of an append that was sent, for an asking before it; and one asking comes to at most one row.
  pub rows : (i : ℕ) (r : Row M) → At s.rows i r → (m : Append M) × In m s.sent × (row m ≡ r) × (m.asking.since ≤ i)
  pub one-row : (m n : Append M) → In m s.sent → In n s.sent → OneAsking m.asking n.asking
      → (i j : ℕ) (r q : Row M) → At s.rows i r → At s.rows j q → r.id ≡ m.id → q.id ≡ n.id → i ≡ j
  pub different-rows : DifferentRows s.told
  pub different-askings : DifferentAskings s.told
  pub different-denials : DeniedApart s.denied
  -- What was denied without a row has none, and never will.
  pub no_row : (d : Denied M) → In d s.denied → (t : State M) → Run base s t → (i : ℕ) (r : Row M) → At t.rows i r
      → (m : Append M) → In m t.sent → m.id ≡ r.id → OneAsking m.asking d.asking → ⊥
  pub not-both : (d : Denied M) → In d s.denied → (k : Telling M) → In k s.told → OneAsking k.append.asking d.asking → ⊥

-- A controller that was asked and has nothing to do any more, without an append, never sends one for this asking: so it has no row, and never will.
pub record WithdrawnHasNone {M : Machine} (base : M.Log) (s : State M) : Type 0 where
  pub never : (c : ℕ) (a : Asking M) (l : Bool) → (s.controllers c).phase ≡ asked a l → (t : State M) → Move base s c t
      → ((t.controllers c).phase ≡ idle) ⊎ ((t.controllers c).phase ≡ halted) → (u : State M) → Run base t u
      → (m : Append M) → In m u.sent → OneAsking m.asking a → ⊥

-- Whose a row is.
pub data Whose {M : Machine} (s : State M) (i : ℕ) (r : Row M) : Type 0 where
  told : (k : Telling M) → In k s.told → k.place ≡ i → row k.append ≡ r → Whose s i r
  pending : (c : ℕ) (m : Append M) → (s.controllers c).phase ≡ waiting m → row m ≡ r → Whose s i r
  forgotten : (m : Append M) → In m s.forgotten → row m ≡ r → Whose s i r

-- Each row is told, or is waited for, or was when its controller gave up, crashed or halted: at most one for each such time.
pub record RowsAreAccounted {M : Machine} (s : State M) : Type 0 where
  pub whose : (i : ℕ) (r : Row M) → At s.rows i r → Whose s i r
  pub one-a-crash : length s.forgotten ≤ s.crashes
  -- So the rows are at most those told, one for each crash, giving up or halt while waiting, and one for each controller that waits.
  pub count : (cs : List ℕ) → ((c : ℕ) (m : Append M) → (s.controllers c).phase ≡ waiting m → In c cs)
      → length s.rows ≤ length s.told + (length s.forgotten + length cs)

-- What was told before another was asked for stands before it.
pub record RealTimeOrder {M : Machine} (s : State M) : Type 0 where
  pub earlier : (k l : Telling M) → In k s.told → In l s.told → k.time < l.append.asking.time → k.place < l.place

-- A refusal without a row is right for the log of some moment between the asking, after which it was told, and the telling.
pub record RefusalsAreRight {M : Machine} (base : M.Log) (s : State M) : Type 0 where
  pub right : (t : State M) → Run base s t → (d : Denied M) → In d t.denied → d.asking.since ≡ length s.rows
      → (u : State M) × Run base s u × Run base u t × Refuses M d.asking.request (replay u.rows base) × (d.answer ≡ M.answer d.asking.request (replay u.rows base))

-- The one who asked is told.
abbrev pub IsTold : {M : Machine} → State M → Asking M → Type 0
IsTold {M} s a = ((k : Telling M) × In k s.told × (k.append.asking ≡ a)) ⊎ ((d : Denied M) × In d s.denied × (d.asking ≡ a))

-- The controller has its request told by at most n moves of its own, whatever goes on around it before each of them.
abbrev pub Within : {M : Machine} → M.Log → ℕ → Asking M → ℕ → State M → Type 0
Within base c a zero s = IsTold s a
Within {M} base c a (suc n) s = IsTold s a ⊎ ((t : State M) → Around base c s t → (u : State M) × Move base t c u × Within base c a n u)

-- Nobody is starved, and nobody waits for another.
pub record WaitFree {M : Machine} (base : M.Log) (s : State M) : Type 0 where
  pub asks : (c : ℕ) (a : Asking M) (l : Bool) → (s.controllers c).phase ≡ asked a l → Within base c a 5 s
  pub waits : (c : ℕ) (m : Append M) → (s.controllers c).phase ≡ waiting m → Within base c m.asking 3 s

-- A controller's copy is the log after the first rows, those that it knows.
pub record CopiesAreFirstParts {M : Machine} (base : M.Log) (s : State M) : Type 0 where
  pub known : (c : ℕ) → (s.controllers c).known ≤ length s.rows
  pub copy : (c : ℕ) → (s.controllers c).copy ≡ log_at base s.rows (s.controllers c).known

-- A controller that has stopped sends nothing and tells nothing, until it starts again, from no rows.
pub record HaltedIsSilent {M : Machine} (base : M.Log) (s : State M) : Type 0 where
  pub silent : (c : ℕ) → (s.controllers c).phase ≡ halted → (t : State M) → Move base s c t
      → (t.sent ≡ s.sent) × (t.told ≡ s.told) × (t.denied ≡ s.denied) × (((t.controllers c).phase ≡ halted) ⊎ (t.controllers c ≡ starting base))
