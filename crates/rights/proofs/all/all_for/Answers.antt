use Rattle.std.proofs.Common.{◌∙◌, refl}
use Rattle.rights.specs.All.{granted-all}
use Rattle.rights.proofs.all.all_for.Goals as goal

pub returns : goal.returns
returns c = c.grant_all.ensures ∙ granted-all c.args.count refl
