use Rattle.std.proofs.Common.{◌≤◌, ◌^◌, arith, sym, ◌∙◌}
use Rattle.std.proofs.lemmas.Result.{err_from_is_err_and}
use Rattle.scores.specs.AddingLaws.{part-bound, next-goes-on, next-stops, sum-ends}
use Rattle.scores.proofs.sum.add.Goals as goal

pub returns-in_err-sum : goal.returns-in_err-sum
returns-in_err-sum c =
    let at = c.loop-q in
    let p = err_from_is_err_and c.from_residual.result c.from_residual.ensures.1 in
    rw (p.1, p.2) (sym (at.invariant.1 ∙ next-stops at.sum at.q-index c.args.scores.now c.loop-q-test.true _ (sym c.in_err-sum.ensures)))

pub overflow_add-sum : goal.overflow_add-sum
overflow_add-sum c =
    let small : c.in_ok-sum.field-0 ≤ 10 ^ 12 = part-bound _ _ (sym c.in_ok-sum.ensures) in omega arith

pub loop-q-preserved : goal.loop-q-preserved
loop-q-preserved c =
    let at = c.loop-q in
    let is = sym c.in_ok-sum.ensures in
    let small : c.in_ok-sum.field-0 ≤ 10 ^ 12 = part-bound _ _ is in
    (omega arith, at.invariant.1 ∙ next-goes-on at.sum at.q-index c.args.scores.now c.loop-q-test.true _ is)

pub returns : goal.returns
returns c = sym (c.loop-q.invariant.1 ∙ sum-ends _ _ _ c.loop-q-test.false)
