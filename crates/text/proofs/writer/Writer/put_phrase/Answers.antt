use Rattle.std.proofs.Common.{refl}
use Rattle.text.specs.WriteLaws.{copied}
use Rattle.text.proofs.writer.Writer.put_phrase.Goals as goal

pub returns-clause-puts : goal.returns-clause-puts
returns-clause-puts c =
    let to = c.args.self.now in
    record { ends = refl; stored = copied c.args.phrase.now _ to.text.now to.at c.copy_from_slice.ensures.after c.requires.fits }
