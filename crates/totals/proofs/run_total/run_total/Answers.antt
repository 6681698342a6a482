use Rattle.std.proofs.lemmas.Result.{err_from_is_err_and}
use Rattle.std.proofs.Common.{refl}
use Rattle.totals.specs.AnswerLaws.{total-refused, log-short, total-answered}
use Rattle.totals.proofs.run_total.run_total.Goals as goal

pub sum_along-exact-requires : goal.sum_along-exact-requires
sum_along-exact-requires c =
    let log = c.in_ok-log.ensures.log in
    rw log.1 (log-short c.args.state.now c.args.entries.now log.2 refl)

pub returns-in_err-log : goal.returns-in_err-log
returns-in_err-log c =
    let p = err_from_is_err_and c.from_residual.result c.from_residual.ensures.1 in
    rw (p.1, p.2) (total-refused c.args.state.now c.args.entries.now c.in_err-log.ensures.refusal refl)

pub returns : goal.returns
returns c =
    let log = c.in_ok-log.ensures.log in
    total-answered c.args.state.now c.args.entries.now log.2 refl
    _ _ (rw (log.0, log.1) at c.sum_along-exact.ensures) _ c.rounded-rest.ensures
