use Rattle.std.proofs.Common.{refl}
use Rattle.marks.specs.Pairs.{chunks-pairs}
use Rattle.marks.proofs.pairs.pairs_of.Goals as goal

pub returns : goal.returns
returns c = rw c.as_chunks.ensures.front (chunks-pairs _ c.args.marks.now refl)
