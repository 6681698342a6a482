use Rattle.std.proofs.Common.{◌≡◌}
use Rattle.chain.specs.Operations.{buffers, after_steps}
use Rattle.requests.specs.Lines.{lines}
use Rattle.requests.specs.Requests.{taken}
use Rattle.total.proofs.start.run_lines.Given as goal

abbrev pub invariant-loop-line : goal.invariant-loop-line
invariant-loop-line l =
    after_steps (taken l.rights (lines l.line-iterator.rest.now)) (buffers l.state l.entries) ≡ after_steps (taken l.rights (lines l.left.rest.now)) (buffers l.initial.state l.initial.entries)
