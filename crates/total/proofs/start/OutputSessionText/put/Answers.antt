use Rattle.total.proofs.SummedLaws.{run-log}
use Rattle.total.proofs.start.OutputSessionText.put.Goals as goal

pub put_log-requires-clause-log : goal.put_log-requires-clause-log
put_log-requires-clause-log c =
    let begun = c.requires.begun in
    run-log _ begun.some begun.few _ c.requires.fresh (rw c.requires.all at c.run_lines.ensures)
