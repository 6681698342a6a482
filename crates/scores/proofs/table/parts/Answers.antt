use Rattle.std.proofs.Common.{refl}
use Rattle.checks.specs.Test.{every_from}
use Rattle.scores.specs.ScoreLaws.{is-table}
use Rattle.scores.proofs.table.parts.Goals as goal

pub returns : goal.returns
unfolding every_from
returns c = is-table _ refl
