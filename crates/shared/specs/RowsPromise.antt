-- What the rows of the table promise: their bytes say all of them, and what was told is kept in them, or its loss is found. RowsTheorem proves it.
use Rattle.std.specs.Prelude.{ℕ, ◌<◌, ◌≡◌, List, ◌⊎◌, length}
use Rattle.std.proofs.Math.Option.{some}
use Rattle.chain.specs.declared.answer.Answer.{Answer}
use Rattle.sharing.specs.Places.{At, In}
use Rattle.sharing.specs.Sharing.{Telling, State}
use Rattle.sharing.specs.Losing.{Contents, chain_value, Agrees, Collision, known_to}
use Rattle.shared.specs.Shared.{Kept, Change, run_log, spot}
use Rattle.shared.specs.SharedPromise.{Single}
use Rattle.shared.specs.Rows.{TableRow, contents, table_of, row_of, RowFits}

pub record RowsReadBack : Type 0 where
  pub back : (r : TableRow) → RowFits r → row_of (contents r) ≡ some r
  -- So rows with the same bytes are the same.
  pub one : (r q : TableRow) → RowFits r → RowFits q → contents r ≡ contents q → r ≡ q

-- Whatever function h makes the chain values: an engine that agrees with what controller c knows has the row of each step that was told, by any controller,
-- among the rows that c knows, at the step's own spot; or here are two rows that h takes to one value.
pub record StepsAreKept (h : ℕ → Contents → ℕ) (first : ℕ) (base : Kept) (s : State run_log) : Type 0 where
  pub stands : (c : ℕ) (k : Telling run_log) → In k s.told → k.place < (s.controllers c).known
      → (engine : List Contents) → Agrees h first engine (length (known_to table_of s c)) (chain_value h first (known_to table_of s c))
      → (j : ℕ) (x : Change) (a : Answer) → Single k j x a
      → At engine (spot s.rows k.place j) (contents (record { id = k.append.id; index = j; change = x })) ⊎ Collision h
