use Rattle.std.proofs.Common.{rules, of_calls}
use Rattle.marks.specs.MarksVerdictLaws.{wrong, faulty, lengths-decide, words-decide}
use Rattle.marks.proofs.verdict.marks_verdict.Goals as goal

pub returns : goal.returns
returns c =
    let s = c.args.state.now in
    let e = c.args.entries.now in
    let ms = c.args.marks.now in
    c.verdict.ensures (wrong s e ms) (faulty s e ms) (lengths-decide s e ms (search rules))
    (λ h ok at called. words-decide s e ms at (search (rules, of_calls)))
