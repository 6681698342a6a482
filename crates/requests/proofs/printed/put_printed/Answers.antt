use Rattle.std.proofs.Common.{arith, rules}
use Rattle.text.specs.Lent.{too_short, printed}
use Rattle.requests.proofs.printed.put_printed.Goals as goal

pub returns-then-text-clause-answer : goal.returns-then-text-clause-answer
returns-then-text-clause-answer g c = (too_short _ _ _ (omega (arith, c.if-text.true))).0

pub returns-then-text-clause-text : goal.returns-then-text-clause-text
returns-then-text-clause-text g c = (too_short _ _ _ (omega (arith, c.if-text.true))).1

pub returns-clause-answer : goal.returns-clause-answer
returns-clause-answer g c = (printed _ _ _ c.requires (omega (arith, c.if-text.false)) _ _ c.put_all.ensures.puts).0

pub returns-clause-text : goal.returns-clause-text
returns-clause-text g c = let p = printed _ _ _ c.requires (omega (arith, c.if-text.false)) _ _ c.put_all.ensures.puts in search rules
