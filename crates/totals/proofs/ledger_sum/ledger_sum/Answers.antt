use Rattle.std.proofs.lemmas.Result.{err_from_is_err_and}
use Rattle.std.proofs.Common.{refl}
use Rattle.totals.specs.AnswerLaws.{sum-refused, part-few, sum-answered}
use Rattle.totals.proofs.ledger_sum.ledger_sum.Goals as goal

pub sum_of-sum-requires : goal.sum_of-sum-requires
sum_of-sum-requires c =
    let part = c.in_ok-part.ensures.part in
    part-few c.args.ledger.0 c.args.state.now c.args.entries.now _ part.0 refl _ part.1

pub returns-in_err-part : goal.returns-in_err-part
returns-in_err-part c =
    let p = err_from_is_err_and c.from_residual.result c.from_residual.ensures.1 in
    rw (p.1, p.2) (sum-refused c.args.ledger.0 c.args.state.now c.args.entries.now _ c.in_err-part.ensures.refusal _ refl)

pub returns : goal.returns
returns c =
    let part = c.in_ok-part.ensures.part in
    sum-answered c.args.ledger.0 c.args.state.now c.args.entries.now _ part.0 refl _ part.1 _ c.sum_of-sum.ensures
