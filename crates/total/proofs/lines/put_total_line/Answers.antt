use Rattle.text.specs.Puts.{puts_then, room-first, room_next}
use Rattle.total.specs.Output.{total_line}
use Rattle.total.proofs.lines.put_total_line.Goals as goal

pub put_phrase-requires : goal.put_phrase-requires
unfolding total_line
put_phrase-requires c = room-first _ _ c.requires

pub put_pointed-requires : goal.put_pointed-requires
unfolding total_line
put_pointed-requires c = room-first _ _ (room_next c.put_phrase.ensures.puts _ c.requires)

pub put_byte-requires : goal.put_byte-requires
unfolding total_line
put_byte-requires c = room_next c.put_pointed.ensures.puts _ (room_next c.put_phrase.ensures.puts _ c.requires)

pub returns-clause-puts : goal.returns-clause-puts
unfolding total_line
returns-clause-puts c = puts_then c.put_phrase.ensures.puts (puts_then c.put_pointed.ensures.puts c.put_byte.ensures.puts)
