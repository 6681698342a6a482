-- The text is the one of twelve decimals, and no other: by name, so that another number of decimals is refused where the two texts differ.
use Rattle.amounts.proofs.fixed.put_exact.Goals as goal

pub returns-clause-puts : goal.returns-clause-puts
returns-clause-puts c = c.put_fixed.ensures.puts
