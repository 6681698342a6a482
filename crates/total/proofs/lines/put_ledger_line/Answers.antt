use Rattle.text.specs.Puts.{puts_then, room-first, room_next}
use Rattle.total.specs.Output.{ledger_line}
use Rattle.total.proofs.lines.put_ledger_line.Goals as goal

pub put_counted-requires : goal.put_counted-requires
unfolding ledger_line
put_counted-requires c = room-first _ _ c.requires

pub put_counted-requires-2 : goal.put_counted-requires-2
unfolding ledger_line
put_counted-requires-2 c = room-first _ _ (room_next c.put_counted.ensures.puts _ c.requires)

pub put_phrase-requires : goal.put_phrase-requires
unfolding ledger_line
put_phrase-requires c = room-first _ _ (room_next c.put_counted-2.ensures.puts _ (room_next c.put_counted.ensures.puts _ c.requires))

pub put_exact-requires : goal.put_exact-requires
unfolding ledger_line
put_exact-requires c = room-first _ _ (room_next c.put_phrase.ensures.puts _ (room_next c.put_counted-2.ensures.puts _ (room_next c.put_counted.ensures.puts _ c.requires)))

pub put_byte-requires : goal.put_byte-requires
unfolding ledger_line
put_byte-requires c = room_next c.put_exact.ensures.puts _ (room_next c.put_phrase.ensures.puts _ (room_next c.put_counted-2.ensures.puts _ (room_next c.put_counted.ensures.puts _ c.requires)))

pub returns-clause-puts : goal.returns-clause-puts
unfolding ledger_line
returns-clause-puts c = puts_then c.put_counted.ensures.puts (puts_then c.put_counted-2.ensures.puts (puts_then c.put_phrase.ensures.puts (puts_then c.put_exact.ensures.puts c.put_byte.ensures.puts)))
