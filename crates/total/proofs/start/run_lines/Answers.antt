use Rattle.std.proofs.Common.{sym, ◌∙◌}
use Rattle.requests.specs.Turns.{steps_taken, steps_none}
use Rattle.total.proofs.start.run_lines.Goals as goal

pub loop-line-preserved : goal.loop-line-preserved
loop-line-preserved c = sym (steps_taken c.in-Some.ensures.steps c.take.ensures) ∙ c.loop-line.invariant

pub returns : goal.returns
returns c = sym (steps_none _ _ c.in-None.ensures.steps.0) ∙ c.loop-line.invariant
