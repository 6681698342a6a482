use Rattle.std.proofs.lemmas.Result.{err_from_is_err_and}
use Rattle.plans.specs.Numbers.{numbered-kind, past_all}
use Rattle.plans.proofs.number.numbered.Goals as goal

pub returns-in_err-kind : goal.returns-in_err-kind
returns-in_err-kind c =
    let p = err_from_is_err_and c.from_residual.result c.from_residual.ensures.1 in
    rw p.1 (past_all c.args.number c.args.client c.args.value p.0 c.in_err-kind.ensures.1)

pub returns : goal.returns
returns c = numbered-kind c.args.number c.args.client c.args.value c.in_ok-kind.kind c.in_ok-kind.ensures
