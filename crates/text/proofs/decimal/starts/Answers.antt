use Rattle.text.specs.ParseDecimalLaws.{starts-short, starts-long}
use Rattle.text.proofs.decimal.starts.Goals as goal

pub returns-then-bytes-lt2 : goal.returns-then-bytes-lt2
returns-then-bytes-lt2 c = starts-short _ c.if-bytes-lt2.true

pub returns : goal.returns
returns c = starts-long _ c.if-bytes-lt2.false
