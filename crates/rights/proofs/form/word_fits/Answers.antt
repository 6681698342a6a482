use Rattle.rights.specs.FormLaws.{word-tested}
use Rattle.rights.proofs.form.word_fits.Goals as goal

pub returns : goal.returns
returns c = word-tested c.args.count c.args.client c.args.w
