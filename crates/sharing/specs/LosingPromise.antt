-- That rows which a controller was told of are not replaced unnoticed, but for equal chain values. LosingTheorem proves it.
use Rattle.std.specs.Prelude.{ℕ, ◌+◌, ◌<◌, ◌≤◌, ◌≡◌, List, [], ◌∷◌, ◌++◌, ◌⊎◌, length, take, drop}
use Rattle.sharing.specs.declared.controller.Phase.{Phase}
use Rattle.sharing.specs.declared.controller.Phase.TheVariants.{Halted}
use Rattle.sharing.specs.declared.controller.Seen.TheVariants.{OtherHistory}
use Rattle.sharing.specs.Turns.{turn}
use Rattle.sharing.specs.Places.{At, In}
use Rattle.sharing.specs.Sharing.{Machine, Row, row, Telling, State, Move, Run}
use Rattle.sharing.specs.Losing.{Contents, table, chain_value, Agrees, Collision, known_to, table_place, Steady}

-- Whatever the engine's rows have become, and whatever function h makes the chain values.
pub record LossIsFound (h : ℕ → Contents → ℕ) (first : ℕ) : Type 0 where
  -- An engine that agrees with what is known has these very rows; or here are two that h takes to one value.
  pub found : (engine known : List Contents) → Agrees h first engine (length known) (chain_value h first known) → (take (length known) engine ≡ known) ⊎ Collision h
  -- The value of the last row is all that has to be kept to go on.
  pub goes_on : (known more : List Contents) → chain_value h first (known ++ more) ≡ chain_value h (chain_value h first known) more
  -- And what is known after a read is the beginning of its rows: a controller never mixes two histories.
  pub reads_on : (engine known : List Contents) (n : ℕ) → Agrees h first engine (length known) (chain_value h first known) → length known ≤ n
      → (known ++ drop (length known) (take n engine) ≡ take n engine) ⊎ Collision h
  -- The last row is not enough: the row before it may be another.
  pub not-by-last : (a b d : Contents) → (a ≡ d → ⊥) → At (d ∷ b ∷ []) 1 b × (d ∷ b ∷ [] ≡ a ∷ b ∷ [] → ⊥)
  -- A controller that sees another history stops, in whatever phase it is.
  pub stops : (p : Phase) → (turn p OtherHistory).phase ≡ Halted

-- The same of the controllers of a shared log, whose rows stand in the table by f.
pub record ToldIsKept {M : Machine} (f : Row M → List Contents) (h : ℕ → Contents → ℕ) (first : ℕ) (base : M.Log) (s : State M) : Type 0 where
  -- An engine that agrees with what controller c knows has each row of what was told, by any controller, among the rows that c knows.
  pub stands : (c : ℕ) (k : Telling M) → In k s.told → k.place < (s.controllers c).known
      → (engine : List Contents) → Agrees h first engine (length (known_to f s c)) (chain_value h first (known_to f s c))
      → (j : ℕ) (x : Contents) → At (f (row k.append)) j x → At engine (table_place f s k.place + j) x ⊎ Collision h
  -- What it told itself is among them, until it crashes.
  pub own : (c : ℕ) (t : State M) → Move base s c t → (k : Telling M) → t.told ≡ k ∷ s.told → (u : State M) → Steady base c t u
      → k.place < (u.controllers c).known
  -- An engine that has lost nothing agrees with every controller, then and later: no alarm is false.
  pub agrees : (t : State M) → Run base s t → (c : ℕ) → Agrees h first (table f t.rows) (length (known_to f s c)) (chain_value h first (known_to f s c))
