use Rattle.std.proofs.Common.{arith, refl, inl, sym}
use Rattle.readers.specs.Readable.{log-known}
use Rattle.readers.specs.Along.{chain_words, entry-value}
use Rattle.windows.specs.WalkLaws.{begin, kept_small, takes, runs-out, no-start, over, moves, word_held, reading-few}
use Rattle.windows.proofs.walk.first_over.Goals as goal

pub starts-init : goal.starts-init
starts-init c =
    let few = reading-few c.args.log.state.now c.args.log.entries.now c.args.log.head (log-known c.args.log) in
    rw (c.into_iter-start-iterator.ensures.into_iter_gives, c.enumerate-start-items.ensures.source, c.enumerate-start-items.ensures.count, c.of.ensures, c.of-past.ensures) (
      (tt, tt, inl (omega (arith, few))),
      (tt, (refl, begin c.args.length c.args.limit (chain_words c.args.log.state.now c.args.log.entries.now c.args.log.head))),
    )

pub overflow_add-sum : goal.overflow_add-sum
overflow_add-sum c = omega (arith, entry-value _ _ c.of_word-entry.ensures, kept_small c.loop-held.invariant, c.loop-held-test.true, c.requires.few)

pub loop-held-preserved : goal.loop-held-preserved
loop-held-preserved c = rw (entry-value _ _ c.of_word-entry.ensures) (takes c.loop-held.invariant c.loop-held-test.true _ _ c.in-Some-next.ensures.steps)

pub overflow_sub-sum : goal.overflow_sub-sum
overflow_sub-sum c =
    rw (entry-value _ _ c.of_word-sum.ensures) (word_held c.loop-held.invariant c.loop-held-test.false c.requires.some _ _ refl)

pub starts-preserved : goal.starts-preserved
starts-preserved c =
    let w = moves c.loop-held.invariant c.loop-held-test.false c.requires.some _ _ refl c.if-limit-sum.false in
    let few = reading-few c.args.log.state.now c.args.log.entries.now c.args.log.head (log-known c.args.log) in
    rw (entry-value _ _ c.of_word-sum.ensures, c.in-Some.ensures.steps.2, sym c.in-Some.ensures.steps.1)
    ((tt, tt, inl (omega (arith, few, w.place))), (tt, (c.starts.invariant.1.1.0, w)))

pub returns-in-None : goal.returns-in-None
returns-in-None c = rw c.starts.invariant.1.1.0 (no-start c.starts.invariant.1.1.1 c.requires.some c.in-None.ensures.steps.0.0)

pub returns-in_default : goal.returns-in_default
returns-in_default c = rw c.starts.invariant.1.1.0 (runs-out c.loop-held.invariant c.loop-held-test.true c.in_default.ensures.steps.0)

pub returns-then-limit-sum : goal.returns-then-limit-sum
returns-then-limit-sum c = over c.loop-held.invariant c.loop-held-test.false c.requires.some c.if-limit-sum.true
