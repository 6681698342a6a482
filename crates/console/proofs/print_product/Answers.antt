use Rattle.std.proofs.Common.{rules}
use Rattle.session.proofs.LengthLaws.{transcript-length}
use Rattle.total.proofs.LengthLaws.{output-length}
use Rattle.session.specs.Transcript.{transcript}
use Rattle.total.specs.Output.{output}
use Rattle.console.proofs.print_product.Goals as goal

pub print-requires-clause-fits : goal.print-requires-clause-fits
print-requires-clause-fits g c = (transcript c.args.input.now, transcript-length c.args.input.now, λ old r new post. search (rules, post.met))

pub print-requires-in-Total-clause-fits : goal.print-requires-in-Total-clause-fits
print-requires-in-Total-clause-fits g c = (output c.args.input.now, output-length c.args.input.now, λ old r new post. search (rules, post.met))
