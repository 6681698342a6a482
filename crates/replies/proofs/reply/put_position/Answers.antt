use Rattle.text.specs.Puts.{puts_then, room_next}
use Rattle.replies.proofs.reply.put_position.Goals as goal

pub put_counted-requires-2 : goal.put_counted-requires-2
put_counted-requires-2 c = room_next c.put_counted.ensures.puts _ c.requires

pub returns-clause-puts : goal.returns-clause-puts
returns-clause-puts c = puts_then c.put_counted.ensures.puts c.put_counted-2.ensures.puts
