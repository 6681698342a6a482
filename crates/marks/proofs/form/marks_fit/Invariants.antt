-- The loop keeps: the pairs that are left decide.
use Rattle.std.proofs.Common.{◌≡◌, map, length}
use Rattle.chain.specs.Marks.{pairs_of, well_marked}
use Rattle.marks.specs.Pairs.{pair_in}
use Rattle.marks.proofs.form.marks_fit.Given as goal

abbrev pub invariant-loop-pair : goal.invariant-loop-pair
invariant-loop-pair l = well_marked l.count (pairs_of l.marks) ≡ well_marked l.count (map pair_in l.rest)

abbrev pub decreases-loop-pair : goal.decreases-loop-pair
decreases-loop-pair l = length l.rest
