use Rattle.std.proofs.Common.{◌≤◌, length, arith, rules}
use Rattle.chain.specs.Operations.{buffers}
use Rattle.dispatch.specs.Lent.{lent-tested}
use Rattle.plans.specs.Runs.{lent-log, none-foretold}
use Rattle.plans.proofs.forecast.forecast_plan.Goals as goal

pub returns-in-Err : goal.returns-in-Err
returns-in-Err c =
    none-foretold c.args.rights.now c.args.plan.now c.args.budget _ (buffers c.args.state.now c.args.entries.now) c.limit-end.ensures.limit c.lent_verdict.ensures c.in-Err.is

pub slice_bounds-own_entries-end : goal.slice_bounds-own_entries-end
slice_bounds-own_entries-end c =
    let o = lent-log c.args.rights.now (buffers c.args.state.now c.args.entries.now) c.lent_verdict.ensures c.in-Ok.is in
    omega (arith, o.0.capacity)

pub slice_bounds-own-end : goal.slice_bounds-own-end
slice_bounds-own-end c =
    let o = lent-log c.args.rights.now (buffers c.args.state.now c.args.entries.now) c.lent_verdict.ensures c.in-Ok.is in
    let small : length c.args.entries.now ≤ 4096 = omega (arith, o.0.capacity) in
    search rules

pub run_copied-run-requires-clause-states : goal.run_copied-run-requires-clause-states
run_copied-run-requires-clause-states c =
    let o = lent-log c.args.rights.now (buffers c.args.state.now c.args.entries.now) c.lent_verdict.ensures c.in-Ok.is in
    omega (arith, o.0.state)

pub run_copied-run-requires-clause-capacity : goal.run_copied-run-requires-clause-capacity
run_copied-run-requires-clause-capacity c =
    let o = lent-log c.args.rights.now (buffers c.args.state.now c.args.entries.now) c.lent_verdict.ensures c.in-Ok.is in
    let small : length c.args.entries.now ≤ 4096 = omega (arith, o.0.capacity) in
    search rules

pub run_copied-run-requires-clause-lent : goal.run_copied-run-requires-clause-lent
run_copied-run-requires-clause-lent c =
    let o = lent-log c.args.rights.now (buffers c.args.state.now c.args.entries.now) c.lent_verdict.ensures c.in-Ok.is in
    lent-tested _ _ o.0 o.1
