use Rattle.text.specs.Puts.{puts_then, room-first, room_next}
use Rattle.total.specs.Output.{log_text}
use Rattle.total.proofs.start.put_log.Goals as goal

pub put_ledgers-requires : goal.put_ledgers-requires
unfolding log_text
put_ledgers-requires c = record { log = c.requires.log; room = room-first _ _ c.requires.room }

pub put_total-requires : goal.put_total-requires
unfolding log_text
put_total-requires c = room_next c.put_ledgers.ensures.puts _ c.requires.room

pub returns-clause-puts : goal.returns-clause-puts
unfolding log_text
returns-clause-puts c = puts_then c.put_ledgers.ensures.puts c.put_total.ensures.puts
