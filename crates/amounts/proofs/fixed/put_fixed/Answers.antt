-- `put_fixed` meets its contract.
use Rattle.std.proofs.Common.{arith}
use Rattle.std.proofs.Math.Nat.{one-le-pow}
use Rattle.amounts.specs.AmountLaws.{fixed-parts}
use Rattle.amounts.proofs.fixed.put_fixed.Goals as goal

pub nonzero_div-n : goal.nonzero_div-n
nonzero_div-n c = omega (arith, c.pow-unit.ensures, one-le-pow c.args.places 10 (omega arith))

pub nonzero_rem-n : goal.nonzero_rem-n
nonzero_rem-n c = omega (arith, c.pow-unit.ensures, one-le-pow c.args.places 10 (omega arith))

pub put_pointed-requires : goal.put_pointed-requires
put_pointed-requires c = rw c.from.ensures (rw (fixed-parts _ _ _ c.pow-unit.ensures) at c.requires.room)

pub returns-clause-puts : goal.returns-clause-puts
returns-clause-puts c = rw (fixed-parts c.args.places c.args.n _ c.pow-unit.ensures) (rw c.from.ensures at c.put_pointed.ensures.puts)
