use Rattle.std.proofs.Common.{rules, arith}
use Rattle.text.specs.Puts.{left-room, left-turn, left-none, room-first}
use Rattle.replies.specs.ReplyLaws.{entries-turn, entries-end}
use Rattle.replies.proofs.chain_line.put_entries.Goals as goal

pub put_entry-requires : goal.put_entry-requires
put_entry-requires c =
    let turn = entries-turn c.args.words.now c.loop-word.word-index (omega arith) in
    room-first _ _ (rw turn at (left-room c.loop-word.invariant.left c.requires))

pub loop-word-preserved : goal.loop-word-preserved
loop-word-preserved c = record {
  left = left-turn c.loop-word.invariant.left (entries-turn c.args.words.now c.loop-word.word-index (omega arith)) c.put_entry.ensures.puts;
  same_text = search rules;
}

pub returns-clause-puts : goal.returns-clause-puts
returns-clause-puts c =
    let end = entries-end c.args.words.now c.loop-word.word-index (omega arith) in
    left-none (rw end at c.loop-word.invariant.left)
