use Rattle.std.proofs.lemmas.Result.{err_from_is_err_and}
use Rattle.std.specs.Option.{ok_or}
use Rattle.std.proofs.Common.{Option, ℕ, ap, ◌∙◌}
use Rattle.chain.specs.declared.answer.Refusal.TheVariants.{MarkNotKept}
use Rattle.marks.specs.Pairs.{mark}
use Rattle.marks.specs.DecidedLaws.{drop-refused, drop-found}
use Rattle.marks.proofs.verdict.kept_place.Goals as goal

pub returns-in_err-marks_verdict : goal.returns-in_err-marks_verdict
returns-in_err-marks_verdict c =
    let args = c.args in
    let p = err_from_is_err_and c.from_residual.result c.from_residual.ensures.1 in
    rw (p.1, p.2) (drop-refused args.name args.state.now args.entries.now args.marks.now _ c.marks_verdict.ensures _ c.in_err-marks_verdict.was)

pub returns : goal.returns
returns c =
    let args = c.args in
    c.ok_or.ensures.value
    ∙ ap (λ (o : Option ℕ). ok_or o MarkNotKept) (c.mark_of.ensures ∙ ap (mark args.name) c.pairs_of-pairs.ensures)
    ∙ drop-found args.name args.state.now args.entries.now args.marks.now _ c.marks_verdict.ensures c.in_ok-marks_verdict.was
