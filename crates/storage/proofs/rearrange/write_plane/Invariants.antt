use Rattle.std.proofs.Common.{◌-◌}
use Rattle.storage.specs.WritingLaws.{PlaneSoFar}
use Rattle.storage.proofs.rearrange.write_plane.Given as goal

abbrev pub invariant-loop-i : goal.invariant-loop-i
invariant-loop-i l = PlaneSoFar (7 - l.j) l.words l.bytes l.before l.i
