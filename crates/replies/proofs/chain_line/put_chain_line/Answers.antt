use Rattle.text.specs.Puts.{puts_then, room-first, room_next}
use Rattle.replies.specs.Replies.{chain_line}
use Rattle.replies.proofs.chain_line.put_chain_line.Goals as goal

pub put_phrase-requires : goal.put_phrase-requires
unfolding chain_line
put_phrase-requires c = room-first _ _ c.requires

pub put_entries-requires : goal.put_entries-requires
unfolding chain_line
put_entries-requires c = room-first _ _ (room_next c.put_phrase.ensures.puts _ c.requires)

pub put_byte-requires : goal.put_byte-requires
unfolding chain_line
put_byte-requires c = room_next c.put_entries.ensures.puts _ (room_next c.put_phrase.ensures.puts _ c.requires)

pub returns-clause-puts : goal.returns-clause-puts
unfolding chain_line
returns-clause-puts c = puts_then c.put_phrase.ensures.puts (puts_then c.put_entries.ensures.puts c.put_byte.ensures.puts)
