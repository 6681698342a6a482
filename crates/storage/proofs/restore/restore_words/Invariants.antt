use Rattle.std.proofs.Common.{length}
use Rattle.storage.specs.Restoring.{SumsSoFar}
use Rattle.storage.proofs.restore.restore_words.Given as goal

abbrev pub invariant-loop-i : goal.invariant-loop-i
invariant-loop-i l = SumsSoFar (length l.initial.words) l.bytes l.words l.sum l.i
