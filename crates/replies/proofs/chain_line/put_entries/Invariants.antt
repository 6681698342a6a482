use Rattle.std.proofs.Common.{◌≡◌, drop}
use Rattle.text.specs.Puts.{Left}
use Rattle.replies.specs.Replies.{entries_text}
use Rattle.replies.proofs.chain_line.put_entries.Given as goal

abbrev pub invariant-loop-word : goal.invariant-loop-word
invariant-loop-word l = record {
  left : Left l.initial.to.text.now l.initial.to.at (entries_text l.words) l.to.text.now l.to.at (entries_text (drop l.word-index l.words));
  same_text : l.to.text.ghost_name ≡ l.initial.to.text.ghost_name;
}
