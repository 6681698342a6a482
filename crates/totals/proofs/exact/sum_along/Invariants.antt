use Rattle.readers.specs.Along.{parts, chain_parts}
use Rattle.totals.specs.Carried.{Carried}
use Rattle.totals.proofs.exact.sum_along.Given as goal

abbrev pub invariant-loop-part : goal.invariant-loop-part
invariant-loop-part l =
    Carried (parts l.part-iterator.places.now l.part-iterator.used.words.now) (chain_parts l.log.state.now l.log.entries.now l.log.head) l.ones l.parts
