use Rattle.std.proofs.Common.{arith}
use Rattle.storage.specs.WritingLaws.{plane-starts, plane-goes-on, plane-ends}
use Rattle.storage.proofs.rearrange.write_plane.Goals as goal

pub loop-i-init : goal.loop-i-init
loop-i-init c = plane-starts _ _ _ (λ i l. (c.type_inv.words i).fits)

pub loop-i-preserved : goal.loop-i-preserved
loop-i-preserved c = plane-goes-on _ _ _ _ _ c.requires.0 c.loop-i-test.true (omega arith) c.loop-i.invariant

pub returns : goal.returns
returns c = plane-ends _ _ _ _ _ c.loop-i-test.false (omega arith) c.loop-i.invariant
