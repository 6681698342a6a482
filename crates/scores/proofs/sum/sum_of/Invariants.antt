use Rattle.std.proofs.Common.{◌+◌, ◌*◌, ◌^◌, ◌<◌, ◌≡◌, length}
use Rattle.scores.specs.Scores.{sum_of}
use Rattle.scores.specs.AddingLaws.{sum_from}
use Rattle.scores.proofs.sum.sum_of.Given as goal

abbrev pub invariant-loop-four : goal.invariant-loop-four
invariant-loop-four l = (l.sum + length l.rest * 10 ^ 12 < 2 ^ 64) × (sum_of l.scores ≡ sum_from l.sum l.rest)

abbrev pub decreases-loop-four : goal.decreases-loop-four
decreases-loop-four l = length l.rest
