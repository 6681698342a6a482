use Rattle.std.proofs.Common.{◌+◌, ◌-◌, ◌*◌, ◌^◌, ◌<◌, ◌≡◌, length, drop}
use Rattle.scores.specs.AddingLaws.{sum_from}
use Rattle.scores.proofs.sum.add.Given as goal

abbrev pub invariant-loop-q : goal.invariant-loop-q
invariant-loop-q l =
    (l.sum + (length l.scores - l.q-index) * 10 ^ 12 < 2 ^ 64) × (sum_from l.initial.sum l.scores ≡ sum_from l.sum (drop l.q-index l.scores))
