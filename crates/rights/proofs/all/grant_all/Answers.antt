use Rattle.std.proofs.Common.{◌∙◌}
use lib.ListN.{length-set}
use Rattle.rights.specs.All.{made_more, made_all}
use Rattle.rights.proofs.all.grant_all.Goals as goal

pub loop-i-preserved : goal.loop-i-preserved
loop-i-preserved c =
    let at = c.loop-i in
    let w = c.word_for.result in (
      length-set at.rights at.i w ∙ at.invariant.0,
      made_more _ _ at.i at.rights at.invariant.0 at.invariant.1 w c.loop-i-test.true c.word_for.ensures,
    )

pub returns : goal.returns
returns c = let at = c.loop-i in made_all _ _ at.i at.rights at.invariant.0 at.invariant.1 c.loop-i-test.false
