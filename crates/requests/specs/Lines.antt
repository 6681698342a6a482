-- The lines of an input. Each is ended by byte 10, but the last may lack it.
use Rattle.std.specs.Prelude.{ℕ, Bool, true, false, cond, List, [], ◌∷◌, eqb}

pub record Line : Type 0 where
  pub content : List ℕ
  pub ended : Bool

abbrev pub line : List ℕ → Bool → Line
line bs e = record { content = bs; ended = e }

-- A byte in front of the first line.
unfoldable pub longer : ℕ → List Line → List Line
longer b [] = line (b ∷ []) false ∷ []
longer b (l ∷ ls) = line (b ∷ l.content) l.ended ∷ ls

unfoldable pub lines : List ℕ → List Line
lines [] = []
lines (b ∷ bs) = cond (eqb b 10) (line [] true ∷ lines bs) (longer b (lines bs))
