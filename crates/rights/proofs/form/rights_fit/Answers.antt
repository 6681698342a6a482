use Rattle.rights.specs.FormLaws.{all_words, next_word, no_words}
use Rattle.rights.proofs.form.rights_fit.Goals as goal

pub loop-i-init : goal.loop-i-init
loop-i-init c = all_words _ _

pub loop-i-preserved : goal.loop-i-preserved
loop-i-preserved c =
    let at = c.loop-i in
    next_word _ _ at.i at.ok _ at.invariant _ c.loop-i-test.true c.word_fits-ok.ensures

pub returns : goal.returns
returns c =
    let at = c.loop-i in
    no_words _ _ at.i at.ok _ at.invariant c.loop-i-test.false
