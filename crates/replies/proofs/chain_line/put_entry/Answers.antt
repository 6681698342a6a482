use Rattle.text.specs.Puts.{puts_then, room-first, room_next}
use Rattle.replies.specs.Replies.{entry_text}
use Rattle.replies.proofs.chain_line.put_entry.Goals as goal

pub put_byte-requires : goal.put_byte-requires
unfolding entry_text
put_byte-requires c = room-first _ _ c.requires

pub put_decimal-requires : goal.put_decimal-requires
unfolding entry_text
put_decimal-requires c = room-first _ _ (room_next c.put_byte.ensures.puts _ c.requires)

pub put_byte-requires-2 : goal.put_byte-requires-2
unfolding entry_text
put_byte-requires-2 c = room-first _ _ (room_next c.put_decimal.ensures.puts _ (room_next c.put_byte.ensures.puts _ c.requires))

pub put_decimal-requires-2 : goal.put_decimal-requires-2
unfolding entry_text
put_decimal-requires-2 c = room_next c.put_byte-2.ensures.puts _ (room_next c.put_decimal.ensures.puts _ (room_next c.put_byte.ensures.puts _ c.requires))

pub returns-clause-puts : goal.returns-clause-puts
unfolding entry_text
returns-clause-puts c = puts_then c.put_byte.ensures.puts (puts_then c.put_decimal.ensures.puts (puts_then c.put_byte-2.ensures.puts c.put_decimal-2.ensures.puts))
