use Rattle.total.specs.Output.{output}
use Rattle.total.proofs.LengthLaws.{output-length}
use Rattle.total.proofs.run_total.Goals as goal

pub put_printed-requires : goal.put_printed-requires
unfolding output
put_printed-requires c = output-length c.args.input.now

pub returns-clause-answer : goal.returns-clause-answer
unfolding output
returns-clause-answer c = c.put_printed.ensures.answer

pub returns-clause-text : goal.returns-clause-text
unfolding output
returns-clause-text c = c.put_printed.ensures.text
