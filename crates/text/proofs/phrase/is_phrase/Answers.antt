use Rattle.std.proofs.Common.{rules, take_all}
use Rattle.text.specs.PhraseLaws.{equal-is}
use Rattle.text.proofs.phrase.is_phrase.Goals as goal

pub returns : goal.returns
returns c = search (rules, equal-is, take_all)
