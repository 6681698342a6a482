use Rattle.text.specs.Puts.{puts_then, room_next}
use Rattle.text.proofs.writer.Writer.put_counted.Goals as goal

pub put_decimal-requires : goal.put_decimal-requires
put_decimal-requires c = room_next c.put_phrase.ensures.puts _ c.requires

pub returns-clause-puts : goal.returns-clause-puts
returns-clause-puts c = puts_then c.put_phrase.ensures.puts c.put_decimal.ensures.puts
