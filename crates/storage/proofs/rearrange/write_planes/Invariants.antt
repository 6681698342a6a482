use Rattle.storage.specs.WritingLaws.{PlanesSoFar}
use Rattle.storage.proofs.rearrange.write_planes.Given as goal

abbrev pub invariant-loop-j : goal.invariant-loop-j
invariant-loop-j l = PlanesSoFar l.words l.bytes l.j
