-- The id of a request: the number that its controller drew from the engine when it started, and how many requests it had sent by then.
use Rattle.std.specs.Prelude.{ℕ, ◌+◌, ◌*◌, ◌^◌, cond}
use Rattle.checks.specs.Test.{Test, less, both, test}

-- Both have 32 bits, and a start's number is not 0.
abbrev pub fits : ℕ → ℕ → Test
fits start count = both (both (less 0 start) (less start (2 ^ 32))) (less count (2 ^ 32))

-- 0 is the id of no request.
abbrev pub request_id : ℕ → ℕ → ℕ
request_id start count = cond (test (fits start count)) (start * 2 ^ 32 + count) 0
