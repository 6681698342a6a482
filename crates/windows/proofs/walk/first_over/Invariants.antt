-- The outer loop keeps: the walk stands at a start, and holds some of its window's words with their sum. The inner one has taken the start's first word.
use Rattle.std.proofs.Common.{◌-◌, ◌≡◌, ◌∷◌}
use Rattle.std.specs.Prelude.{None}
use Rattle.readers.specs.Along.{chain_words}
use Rattle.windows.specs.Left.{left}
use Rattle.windows.specs.WalkLaws.{Window}
use Rattle.windows.proofs.walk.first_over.Given as goal

abbrev pub invariant-loop-held : goal.invariant-loop-held
invariant-loop-held l =
    Window l.length l.limit (chain_words l.log.state.now l.log.entries.now l.log.head)
    (l.first ∷ left l.start-iterator.iter.part.now l.start-iterator.iter.parts.places.now l.start-iterator.iter.parts.used.words.now)
    (left l.past.part.now l.past.parts.places.now l.past.parts.used.words.now) l.start l.held l.sum

abbrev pub decreases-loop-held : goal.decreases-loop-held
decreases-loop-held l = l.length - l.held

abbrev pub invariant-starts : goal.invariant-starts
invariant-starts l =
    (goal.iterator-starts).can_next l.start-iterator × ((goal.iterator-starts).is_finite l.start-iterator
    × ((l.answer ≡ None)
    × Window l.length l.limit (chain_words l.log.state.now l.log.entries.now l.log.head)
    (left l.start-iterator.iter.part.now l.start-iterator.iter.parts.places.now l.start-iterator.iter.parts.used.words.now)
    (left l.past.part.now l.past.parts.places.now l.past.parts.used.words.now) l.start-iterator.count l.held l.sum))
