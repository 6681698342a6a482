-- A row of the table: what the definitions give, and what the reference says; and logs that are made of words, which need not come from any step.
use Rattle.std.specs.Prelude.{ℕ, List, ◌∷◌, ◌++◌, take, get_or, replicate}
use Rattle.chain.specs.Answers.{answer_number}
use Rattle.chain.specs.Steps.{Step}
use Rattle.chain.specs.Operations.{Buffers, step_answer}

pub record Row : Type 0 where
  pub found : ℕ
  pub expected : ℕ

abbrev pub row : ℕ → ℕ → Row
row n m = record { found = n; expected = m }

abbrev pub answers : Buffers → Step → ℕ → Row
answers b x n = row (answer_number (step_answer x b)) n

abbrev pub word : Buffers → ℕ → ℕ → Row
word b i w = row (get_or b.state i 0) w

-- Words, and zeros behind them.
abbrev pub padded : ℕ → List ℕ → List ℕ
padded n ws = take n (ws ++ replicate n 0)

-- A head, the words of 16 clients, of 255 ledgers and of 255 list places; and the entries.
abbrev pub words : ℕ → List ℕ → List ℕ → List ℕ → List ℕ → Buffers
words head clients ledgers places entries =
    record { state = head ∷ (padded 16 clients ++ (padded 255 ledgers ++ padded 255 places)); entries = entries }

-- The same on a small cartridge.
abbrev pub small : ℕ → List ℕ → List ℕ → List ℕ → List ℕ → Buffers
small head clients ledgers places entries = words head clients ledgers places (padded 512 entries)
