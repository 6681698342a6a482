-- A refusal and an answer, as a Result holds them: the same refusals are equal, and none is an answer.
use Rattle.std.specs.Prelude.{ℕ, ◌≡◌, Result, Ok, Err}
use Rattle.std.proofs.Common.{arith}

pub same-err : {T E : Type 0} (q r : E) → ◌≡◌ {A = Result T E} (Err q) (Err r) → q ≡ r
same-err q r e = cc

pub ok-err : {T E : Type 0} (x : T) (r : E) → ◌≡◌ {A = Result T E} (Ok x) (Err r) → ⊥
ok-err x r e = let z : ◌≡◌ {A = ℕ} 0 1 = cc in omega arith
