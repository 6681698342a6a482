use Rattle.std.proofs.Common.{sym, ◌∙◌}
use Rattle.std.proofs.lemmas.Result.{err_from_is_err_and}
use Rattle.requests.specs.OpeningLaws.{opens-long}
use Rattle.requests.specs.Starts.{not-ended, bad-count, good-count, found-none, found-some}
use Rattle.requests.proofs.start.start_of.Goals as goal

pub returns-then-input-gt-INPUT_LIMIT : goal.returns-then-input-gt-INPUT_LIMIT
returns-then-input-gt-INPUT_LIMIT c = opens-long _ c.if-input-gt-INPUT_LIMIT.true

pub returns-in_err-end : goal.returns-in_err-end
returns-in_err-end c =
    let p = err_from_is_err_and c.from_residual.result c.from_residual.ensures.1 in
    let found = found-none _ _ _ c.ok_or.ensures.value c.in_err-end.was in
    rw (p.1, p.2, found.1) (not-ended _ c.if-input-gt-INPUT_LIMIT.false (sym c.first_place.ensures ∙ found.0))

pub returns-in_err-clients : goal.returns-in_err-clients
returns-in_err-clients c =
    let p = err_from_is_err_and c.from_residual-in_err-clients.result c.from_residual-in_err-clients.ensures.1 in
    let end = sym c.first_place.ensures ∙ found-some _ _ _ c.ok_or.ensures.value c.in_ok-end.was in
    let found = found-none _ _ _ c.ok_or-2.ensures.value c.in_err-clients.was in
    rw (p.1, p.2, found.1) (bad-count _ c.if-input-gt-INPUT_LIMIT.false _ end _ c.client_count.ensures found.0)

pub returns : goal.returns
returns c =
    let end = sym c.first_place.ensures ∙ found-some _ _ _ c.ok_or.ensures.value c.in_ok-end.was in
    good-count _ c.if-input-gt-INPUT_LIMIT.false _ end _ c.client_count.ensures _ _
    (found-some _ _ _ c.ok_or-2.ensures.value c.in_ok-clients.was) c.of.ensures
