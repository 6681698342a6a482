-- A quoted text as its bytes, so that definitions can show the words that a program prints.
use Rattle.std.specs.Prelude.{ℕ, zero, suc, ◌+◌, List, [], ◌∷◌}
use Prim.Native.Char.{code}
use Prim.Native.String.{String, len, char_at}

-- The n characters from place i on. A character here is one byte: the texts are ASCII.
abbrev pub bytes_from : String → ℕ → ℕ → List ℕ
bytes_from s i zero = []
bytes_from s i (suc n) = code (char_at s i) ∷ bytes_from s (i + 1) n

abbrev pub bytes : String → List ℕ
bytes s = bytes_from s 0 (len s)
