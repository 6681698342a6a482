-- An engine that has lost rows, as by a failover to a copy that lagged, or by a backup: how a controller finds out.
--
-- Each row of the table carries a chain value, by any function of the value before it and of the row's contents. With each call a controller says how many
-- rows it knows, and the chain value of the last; the engine does what is asked only where its own rows have this value there.
use Rattle.std.specs.Prelude.{ℕ, ◌≤◌, ◌≡◌, List, [], ◌∷◌, ◌++◌, length, take}
use Rattle.sharing.specs.Sharing.{Machine, Row, State, Move, ask, look, read, refuse, send, store, tell, leave, crash, halt}

-- The contents of a row of the table, as numbers. A row of the system is one row of the table or more: a request has one for each of its steps.
abbrev pub Contents : Type 0
Contents = List ℕ

unfoldable pub table : {M : Machine} → (Row M → List Contents) → List (Row M) → List Contents
table f [] = []
table f (r ∷ rows) = f r ++ table f rows

module _ (h : ℕ → Contents → ℕ) where
  -- The chain value after these rows, from that before them.
  unfoldable pub chain_value : ℕ → List Contents → ℕ
  chain_value v [] = v
  chain_value v (x ∷ rows) = chain_value (h v x) rows

  -- The engine has so many rows, and this chain value after them.
  abbrev pub Agrees : ℕ → List Contents → ℕ → ℕ → Type 0
  Agrees first engine n v = (n ≤ length engine) × (chain_value first (take n engine) ≡ v)

  -- Different values or contents that h takes to one value.
  pub record Collision : Type 0 where
    pub value : ℕ
    pub contents : Contents
    pub other_value : ℕ
    pub other_contents : Contents
    pub equal : h value contents ≡ h other_value other_contents
    pub different : (value ≡ other_value) × (contents ≡ other_contents) → ⊥

-- The rows of the table that a controller knows.
abbrev pub known_to : {M : Machine} → (Row M → List Contents) → State M → ℕ → List Contents
known_to f s c = table f (take (s.controllers c).known s.rows)

-- The place in the table of the first row of the request at a place of the system.
abbrev pub table_place : {M : Machine} → (Row M → List Contents) → State M → ℕ → ℕ
table_place f s place = length (table f (take place s.rows))

-- A move that is no crash of controller c; and a run without one.
abbrev pub Spares : {M : Machine} {base : M.Log} {s : State M} {d : ℕ} {t : State M} → ℕ → Move base s d t → Type 0
Spares c (ask x p) = Unit {0}
Spares c (look n runs k w f) = Unit {0}
Spares c (read a l n p k e w) = Unit {0}
Spares c (refuse a p e) = Unit {0}
Spares c (send a l id p ok new) = Unit {0}
Spares c (store m i q e) = Unit {0}
Spares c (tell m r p i e) = Unit {0}
Spares c (leave runs) = Unit {0}
Spares {d = d} c crash = d ≡ c → ⊥
Spares c halt = Unit {0}

pub data Steady {M : Machine} (base : M.Log) (c : ℕ) (s : State M) : State M → Type 0 where
  same : Steady base c s s
  next : {t u : State M} (d : ℕ) → Steady base c s t → (m : Move base t d u) → Spares c m → Steady base c s u
