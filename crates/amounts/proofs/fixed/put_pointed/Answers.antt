use Rattle.text.specs.Puts.{puts_then, room-first, room_next}
use Rattle.amounts.specs.Amounts.{pointed}
use Rattle.amounts.proofs.fixed.put_pointed.Goals as goal

pub put_decimal-requires : goal.put_decimal-requires
unfolding pointed
put_decimal-requires c = room-first _ _ c.requires

pub put_byte-requires : goal.put_byte-requires
unfolding pointed
put_byte-requires c = room-first _ _ (room_next c.put_decimal.ensures.puts _ c.requires)

pub put_padded-requires : goal.put_padded-requires
unfolding pointed
put_padded-requires c = room_next c.put_byte.ensures.puts _ (room_next c.put_decimal.ensures.puts _ c.requires)

pub returns-clause-puts : goal.returns-clause-puts
unfolding pointed
returns-clause-puts c = puts_then c.put_decimal.ensures.puts (puts_then c.put_byte.ensures.puts c.put_padded.ensures.puts)
