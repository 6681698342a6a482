use Rattle.std.proofs.Common.{refl}
use Rattle.marks.specs.Gap.{closed}
use Rattle.marks.proofs.drop.close_gap.Goals as goal

pub returns : goal.returns
returns c = closed c.args.marks.now c.args.from c.requires.long c.requires.within _ refl c.copy_within.ensures.after (c.fill.ensures.after (λ y e. e))
