-- `lent_verdict` meets its contract.
use Rattle.std.proofs.Common.{rules, of_calls}
use Rattle.rights.specs.LentLaws.{wrong, faulty, lengths-decide, words-decide}
use Rattle.rights.proofs.verdict.lent_verdict.Goals as goal

pub returns : goal.returns
returns c =
    let s = c.args.state.now in
    let e = c.args.entries.now in
    let rights = c.args.rights.now in
    c.verdict.ensures (wrong s e rights) (faulty s e rights) (lengths-decide s e rights (search rules))
    (λ h ok at called. words-decide s e rights at (search (rules, of_calls)))
