use Rattle.std.proofs.Common.{◌/◌, ◌%◌, ◌^◌, arith, ◌≡◌}
use Rattle.plans.specs.Words.{tells}
use Rattle.plans.proofs.word.planned_step.Goals as goal

pub returns : goal.returns
returns c = let word = c.args.word in
    let low : word % 2 ^ 52 ≡ word / 2 ^ 0 % 2 ^ 52 = omega arith in
    tells word (word % 2 ^ 52) c.numbered.result low c.numbered.ensures
