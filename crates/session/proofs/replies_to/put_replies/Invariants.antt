use Rattle.std.proofs.Common.{◌+◌, ◌≤◌, ◌≡◌}
use lib.ListN.{length}
use Rattle.chain.specs.Operations.{buffers}
use Rattle.limits.specs.Limits.{input_limit}
use Rattle.requests.specs.Lines.{lines}
use Rattle.session.proofs.Parts.{Running}
use Rattle.session.proofs.replies_to.put_replies.Given as goal

abbrev pub invariant-loop-number : goal.invariant-loop-number
invariant-loop-number l = record {
  few : l.number-iterator.a.start + length (lines l.number-iterator.b.rest.now) ≤ input_limit + 1;
  running : Running l.rights (lines l.left.rest.now) (buffers l.initial.state l.initial.entries) l.initial.to.text.now l.initial.to.at (lines l.number-iterator.b.rest.now) l.number-iterator.a.start (buffers l.state l.entries) l.to.text.now l.to.at;
  same_text : l.to.text.ghost_name ≡ l.initial.to.text.ghost_name;
}
