use Rattle.text.specs.Puts.{puts_then, room-first, room_next}
use Rattle.total.specs.Output.{total_lines}
use Rattle.total.proofs.lines.put_end.Goals as goal

pub put_total_line-requires : goal.put_total_line-requires
unfolding total_lines
put_total_line-requires c = room-first _ _ c.requires

pub put_rounded_line-requires : goal.put_rounded_line-requires
unfolding total_lines
put_rounded_line-requires c = room_next c.put_total_line.ensures.puts _ c.requires

pub returns-clause-puts : goal.returns-clause-puts
unfolding total_lines
returns-clause-puts c = puts_then c.put_total_line.ensures.puts c.put_rounded_line.ensures.puts
