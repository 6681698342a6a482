use Rattle.std.proofs.Common.{◌≡◌, refl}
use Rattle.readers.specs.Readable.{log-known}
use Rattle.readers.specs.Along.{parts, chain_parts}
use Rattle.totals.specs.Carried.{carry-start, carry-turn, carry-end}
use Rattle.totals.proofs.exact.sum_along.Goals as goal

pub loop-part-init : goal.loop-part-init
loop-part-init c =
    let args = c.args in
    let all : parts c.into_iter-part-iterator.result.places.now c.into_iter-part-iterator.result.used.words.now ≡ chain_parts args.log.state.now args.log.entries.now args.log.head =
    rw c.into_iter-part-iterator.ensures.into_iter_gives c.of-part-items.ensures in
    rw all (carry-start args.log.state.now args.log.entries.now args.log.head (log-known args.log) c.requires)

pub loop-part-preserved : goal.loop-part-preserved
loop-part-preserved c = carry-turn _ _ _ _ c.loop-part.invariant _ _ c.in-Some.ensures.steps _ c.sum_of-sum.ensures

pub returns : goal.returns
returns c = carry-end _ _ _ _ c.loop-part.invariant _ _ _ c.in-None.ensures.steps.0 refl
