-- The buffer has one byte more than the limit.
use Rattle.std.proofs.Common.{ℕ, arith}
use Rattle.std.proofs.lemmas.List.{length-replicate}
use Rattle.console.proofs.Whole.{whole, on_ok}
use Rattle.console.proofs.run.Goals as goal

pub returns : goal.returns
returns g c = on_ok c.print_product.result
    (whole c.args.product _ _ _ _ c.read_input.new.input c.in_ok-n.n (omega (arith, c.read_input.auto.input, length-replicate {A = ℕ} 16385 0))
    c.in_ok-n.ensures.bound c.in_ok-n.ensures.bytes c.in_ok-n.ensures.end)
    c.print_product.ensures
