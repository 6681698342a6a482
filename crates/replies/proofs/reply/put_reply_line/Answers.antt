use Rattle.text.specs.Puts.{puts_then, room-first, room_next}
use Rattle.replies.specs.Replies.{reply_line}
use Rattle.replies.proofs.reply.put_reply_line.Goals as goal

pub put_decimal-requires : goal.put_decimal-requires
unfolding reply_line
put_decimal-requires c = room-first _ _ c.requires

pub put_byte-requires : goal.put_byte-requires
unfolding reply_line
put_byte-requires c = room-first _ _ (room_next c.put_decimal.ensures.puts _ c.requires)

pub put_reply-requires : goal.put_reply-requires
unfolding reply_line
put_reply-requires c = room-first _ _ (room_next c.put_byte.ensures.puts _ (room_next c.put_decimal.ensures.puts _ c.requires))

pub put_byte-requires-2 : goal.put_byte-requires-2
unfolding reply_line
put_byte-requires-2 c = room_next c.put_reply.ensures.puts _ (room_next c.put_byte.ensures.puts _ (room_next c.put_decimal.ensures.puts _ c.requires))

pub returns-clause-puts : goal.returns-clause-puts
unfolding reply_line
returns-clause-puts c = puts_then c.put_decimal.ensures.puts (puts_then c.put_byte.ensures.puts (puts_then c.put_reply.ensures.puts c.put_byte-2.ensures.puts))
