-- `put_padded` meets its contract, by recursion on the number of digits.
use Rattle.std.proofs.Common.{arith}
use Rattle.text.specs.Puts.{puts_then, room-first, room_next}
use Rattle.amounts.specs.AmountLaws.{no-digits, last-digit}
use Rattle.amounts.proofs.fixed.+put_padded.Goals as goal

pub put_padded-requires : goal.put_padded-requires
put_padded-requires t c = (omega arith, room-first _ _ (rw (last-digit c.args.places c.args.n (omega arith)) at c.requires))

pub put_decimal-requires : goal.put_decimal-requires
put_decimal-requires t c = room_next c.put_padded.ensures.puts _ (rw (last-digit c.args.places c.args.n (omega arith)) at c.requires)

pub returns-then-places-gt0-clause-puts : goal.returns-then-places-gt0-clause-puts
returns-then-places-gt0-clause-puts t c =
    rw (last-digit c.args.places c.args.n (omega arith)) (puts_then c.put_padded.ensures.puts c.put_decimal.ensures.puts)

pub returns-else-places-gt0-clause-puts : goal.returns-else-places-gt0-clause-puts
returns-else-places-gt0-clause-puts t c = no-digits _ _ (omega arith) _ _
