-- A request in a table: one row for each of its steps, with the request's id and an index from 0; and the bytes of a row, over which its chain value is made.
use Rattle.std.specs.Prelude.{ℕ, zero, suc, ◌+◌, ◌*◌, ◌/◌, ◌%◌, ◌^◌, ◌<◌, List, [], ◌∷◌, ◌++◌, map, take, drop, get_or}
use Rattle.std.proofs.Math.Option.{Option, none, some}
use Rattle.chain.specs.Steps.{Kind, name, become, abdicate, fetch, close_last, finish, create, append, close_own, write, kind_number, Content, of_value, of_scores}
use Rattle.chain.specs.Plans.{kinds_in_order}
use Rattle.sharing.specs.Sharing.{Row}
use Rattle.sharing.specs.Losing.{Contents}
use Rattle.shared.specs.Shared.{Change, step, set_mark, drop_mark, set_rights, run_log}

pub record TableRow : Type 0 where
  pub id : ℕ
  pub index : ℕ
  pub change : Change

unfoldable pub rows_from : ℕ → ℕ → List Change → List TableRow
rows_from id index [] = []
rows_from id index (x ∷ xs) = record { id = id; index = index; change = x } ∷ rows_from id (index + 1) xs

-- A number in so many bytes, the most significant first; and the number that bytes are.
unfoldable pub bytes : ℕ → ℕ → List ℕ
bytes zero n = []
bytes (suc k) n = bytes k (n / 256) ++ ((n % 256) ∷ [])

unfoldable pub number_from : ℕ → List ℕ → ℕ
number_from n [] = n
number_from n (b ∷ bs) = number_from (n * 256 + b) bs

abbrev pub number : List ℕ → ℕ
number bs = number_from 0 bs

-- Scores in two bytes each, the low one first, as the journal of a file keeps them.
unfoldable pub score_bytes : List ℕ → List ℕ
score_bytes [] = []
score_bytes (q ∷ qs) = (q % 256) ∷ (q / 256 % 256) ∷ score_bytes qs

unfoldable pub scores : List ℕ → List ℕ
scores [] = []
scores (low ∷ []) = []
scores (low ∷ high ∷ bs) = (high * 256 + low) ∷ scores bs

-- The kind of a row: the number of its step, or one of the four that follow.
abbrev pub write_kind : Content → ℕ
write_kind (of_value v) = kind_number (write (of_value v))
write_kind (of_scores qs) = 10

abbrev pub step_kind : Kind → ℕ
step_kind name = kind_number name
step_kind become = kind_number become
step_kind abdicate = kind_number abdicate
step_kind fetch = kind_number fetch
step_kind close_last = kind_number close_last
step_kind finish = kind_number finish
step_kind create = kind_number create
step_kind append = kind_number append
step_kind (write x) = write_kind x
step_kind close_own = kind_number close_own

abbrev pub row_kind : Change → ℕ
row_kind (step k c) = step_kind k
row_kind (set_mark n) = 11
row_kind (drop_mark n) = 12
row_kind (set_rights c word) = 13

-- The client, 0 where there is none.
abbrev pub row_client : Change → ℕ
row_client (step k c) = c
row_client (set_mark n) = 0
row_client (drop_mark n) = 0
row_client (set_rights c word) = c

-- What a step was given: a value, scores, the name of a mark, or a word of rights.
abbrev pub write_input : Content → List ℕ
write_input (of_value v) = bytes 8 v
write_input (of_scores qs) = score_bytes qs

abbrev pub step_input : Kind → List ℕ
step_input name = []
step_input become = []
step_input abdicate = []
step_input fetch = []
step_input close_last = []
step_input finish = []
step_input create = []
step_input append = []
step_input (write x) = write_input x
step_input close_own = []

abbrev pub row_input : Change → List ℕ
row_input (step k c) = step_input k
row_input (set_mark n) = bytes 8 n
row_input (drop_mark n) = bytes 8 n
row_input (set_rights c word) = bytes 8 word

-- The bytes of a row: id, index, kind and client in eight each, and then the input.
unfoldable pub contents : TableRow → Contents
contents r = bytes 8 r.id ++ (bytes 8 r.index ++ (bytes 8 (row_kind r.change) ++ (bytes 8 (row_client r.change) ++ row_input r.change)))

abbrev pub table_of : Row run_log → List Contents
table_of r = map contents (rows_from r.id 0 r.request)

-- The row that bytes are.
abbrev pub changes_in_order : ℕ → List ℕ → List Change
changes_in_order c input = map (λ (k : Kind). step k c) (kinds_in_order (number input)) ++
    (step (write (of_scores (scores input))) c ∷ set_mark (number input) ∷ drop_mark (number input) ∷ set_rights c (number input) ∷ [])

abbrev pub change_of : ℕ → ℕ → List ℕ → Option Change
change_of kind c input = get_or (map some (changes_in_order c input)) kind none

abbrev pub with_change : ℕ → ℕ → Option Change → Option TableRow
with_change id index none = none
with_change id index (some x) = some (record { id = id; index = index; change = x })

unfoldable pub row_of : Contents → Option TableRow
row_of bs = with_change (number (take 8 bs)) (number (take 8 (drop 8 bs)))
    (change_of (number (take 8 (drop 16 bs))) (number (take 8 (drop 24 bs))) (drop 32 bs))

-- A row that has room: 64 bits for each number, and 16 for each score.
abbrev pub Short : List ℕ → Type 0
Short [] = Unit {0}
Short (q ∷ qs) = (q < 2 ^ 16) × Short qs

abbrev pub WriteFits : Content → Type 0
WriteFits (of_value v) = v < 2 ^ 64
WriteFits (of_scores qs) = Short qs

abbrev pub StepFits : Kind → Type 0
StepFits name = Unit {0}
StepFits become = Unit {0}
StepFits abdicate = Unit {0}
StepFits fetch = Unit {0}
StepFits close_last = Unit {0}
StepFits finish = Unit {0}
StepFits create = Unit {0}
StepFits append = Unit {0}
StepFits (write x) = WriteFits x
StepFits close_own = Unit {0}

abbrev pub ChangeFits : Change → Type 0
ChangeFits (step k c) = (c < 2 ^ 64) × StepFits k
ChangeFits (set_mark n) = n < 2 ^ 64
ChangeFits (drop_mark n) = n < 2 ^ 64
ChangeFits (set_rights c word) = (c < 2 ^ 64) × (word < 2 ^ 64)

abbrev pub RowFits : TableRow → Type 0
RowFits r = (r.id < 2 ^ 64) × (r.index < 2 ^ 64) × ChangeFits r.change
