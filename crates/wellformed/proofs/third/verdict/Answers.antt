use Rattle.std.proofs.lemmas.Result.{err_from_is_err_and}
use Rattle.chain.specs.Operations.{buffers}
use Rattle.wellformed.specs.Checked.{the-head}
use Rattle.wellformed.specs.ThirdBufferLaws.{third-length, third-no-log, third-words, third-pass}
use Rattle.wellformed.proofs.third.verdict.Goals as goal

pub returns-then-not-right_length : goal.returns-then-not-right_length
returns-then-not-right_length g c =
    λ wrong faulty length _. third-length (buffers c.args.state.now c.args.entries.now) wrong faulty length c.if-not-right_length.true

pub returns-in_err-head : goal.returns-in_err-head
returns-in_err-head g c =
    let p = err_from_is_err_and c.from_residual.result c.from_residual.ensures.1 in
    λ wrong faulty length _. rw (p.1, p.2)
    (third-no-log (buffers c.args.state.now c.args.entries.now) wrong faulty length c.if-not-right_length.false c.check_log.ensures c.in_err-head.was)

pub returns-then-fits : goal.returns-then-fits
returns-then-fits g c =
    let b = buffers c.args.state.now c.args.entries.now in
    λ wrong faulty length decides.
    third-pass b wrong faulty length c.if-not-right_length.false c.check_log.ensures c.in_ok-head.was
    (decides _ _ (the-head b c.check_log.ensures c.in_ok-head.was) c.fits.ensures) c.if-fits.true

pub returns-else-fits : goal.returns-else-fits
returns-else-fits g c =
    let b = buffers c.args.state.now c.args.entries.now in
    λ wrong faulty length decides.
    third-words b wrong faulty length c.if-not-right_length.false c.check_log.ensures c.in_ok-head.was
    (decides _ _ (the-head b c.check_log.ensures c.in_ok-head.was) c.fits.ensures) c.if-fits.false
