use Rattle.text.specs.Puts.{puts_then, room-first, room_next}
use Rattle.total.specs.Output.{rounded_line}
use Rattle.total.proofs.lines.put_rounded_line.Goals as goal

pub put_phrase-requires : goal.put_phrase-requires
unfolding rounded_line
put_phrase-requires c = room-first _ _ c.requires

pub put_thousandths-requires : goal.put_thousandths-requires
unfolding rounded_line
put_thousandths-requires c = room-first _ _ (room_next c.put_phrase.ensures.puts _ c.requires)

pub put_byte-requires : goal.put_byte-requires
unfolding rounded_line
put_byte-requires c = room_next c.put_thousandths.ensures.puts _ (room_next c.put_phrase.ensures.puts _ c.requires)

pub returns-clause-puts : goal.returns-clause-puts
unfolding rounded_line
returns-clause-puts c = puts_then c.put_phrase.ensures.puts (puts_then c.put_thousandths.ensures.puts c.put_byte.ensures.puts)
