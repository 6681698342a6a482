use Rattle.session.specs.Transcript.{transcript}
use Rattle.session.proofs.LengthLaws.{transcript-length}
use Rattle.session.proofs.transcript.Goals as goal

pub returns-clause-answer : goal.returns-clause-answer
unfolding transcript
returns-clause-answer c = c.put_printed.ensures.answer

pub returns-clause-text : goal.returns-clause-text
unfolding transcript
returns-clause-text c = c.put_printed.ensures.text

pub put_printed-requires : goal.put_printed-requires
unfolding transcript
put_printed-requires c = transcript-length c.args.input.now
