use Rattle.std.proofs.lemmas.Result.{err_from_is_err_and}
use Rattle.adviser.specs.AdviserLaws.{no-log, unknown, opened, known}
use Rattle.adviser.proofs.advise.Goals as goal

pub returns-in_err-log_verdict : goal.returns-in_err-log_verdict
returns-in_err-log_verdict c =
    let p = err_from_is_err_and c.from_residual.result c.from_residual.ensures.1 in
    rw (p.1, p.2) (no-log _ _ c.log_verdict.ensures c.in_err-log_verdict.was)

pub returns-then-is_unknown : goal.returns-then-is_unknown
returns-then-is_unknown c = unknown _ _ c.log_verdict.ensures c.in_ok-log_verdict.was c.is_unknown.ensures c.if-is_unknown.true

pub new-log-requires : goal.new-log-requires
new-log-requires c = opened _ _ c.log_verdict.ensures c.in_ok-log_verdict.was c.is_unknown.ensures c.if-is_unknown.false

pub returns : goal.returns
returns c =
    let log = c.new-log.ensures in
    known _ _ c.log_verdict.ensures c.in_ok-log_verdict.was c.is_unknown.ensures c.if-is_unknown.false (rw (log.state, log.client) at c.advise_known.ensures)
