-- The words of the chain that are left to a walk: those of the part that it stands in, and then those of the parts after it.
use Rattle.std.specs.Prelude.{ℕ, List, ◌++◌}
use Rattle.std.specs.List.{concat}
use Rattle.readers.specs.Along.{parts}

abbrev pub left : List ℕ → List ℕ → List ℕ → List ℕ
left part places words = part ++ concat (parts places words)
