use Rattle.std.proofs.lemmas.Result.{err_from_is_err_and}
use Rattle.std.proofs.Common.{refl}
use Rattle.windows.specs.FirstWindowLaws.{window-refused, window-none, window-long, window-found}
use Rattle.windows.proofs.first_window.Goals as goal

pub returns-then-length-eq0 : goal.returns-then-length-eq0
returns-then-length-eq0 c = window-none c.args.state.now c.args.entries.now _ _ c.in_ok-log.ensures.log.2 refl c.if-length-eq0.true

pub returns-then-length-gt-WINDOW_LIMIT : goal.returns-then-length-gt-WINDOW_LIMIT
returns-then-length-gt-WINDOW_LIMIT c =
    window-long c.args.state.now c.args.entries.now _ _ c.in_ok-log.ensures.log.2 refl c.if-length-gt-WINDOW_LIMIT.true

pub returns-in_err-log : goal.returns-in_err-log
returns-in_err-log c =
    let p = err_from_is_err_and c.from_residual.result c.from_residual.ensures.1 in
    rw (p.1, p.2) (window-refused c.args.state.now c.args.entries.now _ _ c.in_err-log.ensures.refusal refl)

pub returns : goal.returns
returns c =
    let log = c.in_ok-log.ensures.log in
    window-found c.args.state.now c.args.entries.now _ _ log.2 refl c.if-length-eq0.false c.if-length-gt-WINDOW_LIMIT.false
    (rw (log.0, log.1) at c.first_over.ensures)
