-- Every sentence fits a text buffer.
use Rattle.std.specs.Prelude.{ℕ, ◌≤◌, ◌++◌, length}
use native.Mathlib.Omega.{arith}
use Rattle.std.proofs.Math.ListN.{length-append}
use Rattle.text.specs.Bytes.{bytes}
use Rattle.text.specs.Decimal.{decimal}
use Rattle.text.specs.DecimalLaws.{decimal-length}
use Rattle.checks.specs.Test.{Fails}
use Rattle.sentences.specs.Phrases.{step_name, reason}
use Rattle.sentences.specs.Sentences.{sentence, unsaid}
use Rattle.sentences.specs.PhraseTableLaws.{name-holds, reason-holds}

module _ (step client refusal : ℕ) (said : Fails (unsaid step client refusal)) where
  pub some-refusal : 1 ≤ refusal
  some-refusal = omega (arith, said.1.0)

  -- 10 of the longest name, 11, 3 of the client's number, 2, and 64 of the longest reason.
  pub sentence-length : length (sentence step client refusal) ≤ 90
  unfolding sentence
  sentence-length = omega (
    arith,
    (name-holds step said.0.0).0.1,
    decimal-length 3 client (omega arith) (omega (arith, said.0.1)),
    (reason-holds refusal some-refusal said.1.1).0.1,
    length-append (step_name step) (bytes " of client " ++ (decimal client ++ (bytes ": " ++ reason refusal))),
    length-append (decimal client) (bytes ": " ++ reason refusal),
  )
