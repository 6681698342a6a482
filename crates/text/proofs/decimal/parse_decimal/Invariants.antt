use Rattle.std.proofs.Common.{◌^◌, ◌<◌, ◌≡◌, drop}
use Rattle.text.specs.Decimal.{numeral_of}
use Rattle.text.specs.ParseDecimalLaws.{number_from}
use Rattle.text.proofs.decimal.parse_decimal.Given as goal

abbrev pub invariant-loop-b : goal.invariant-loop-b
invariant-loop-b l = (l.value < 2 ^ 64) × (numeral_of l.bytes ≡ number_from l.value (drop l.b-index l.bytes))
