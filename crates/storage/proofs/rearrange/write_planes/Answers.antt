use Rattle.std.proofs.Common.{arith}
use Rattle.storage.specs.WritingLaws.{planes-start, planes-go-on, planes-end}
use Rattle.storage.proofs.rearrange.write_planes.Goals as goal

pub loop-j-init : goal.loop-j-init
loop-j-init c = planes-start _ _ c.requires.1

pub loop-j-preserved : goal.loop-j-preserved
loop-j-preserved c = planes-go-on _ _ (omega arith) _ _ _ c.loop-j-test.true c.write_plane.ensures c.loop-j.invariant

pub returns : goal.returns
returns c = planes-end _ _ (omega arith) _ (omega arith) c.loop-j.invariant
