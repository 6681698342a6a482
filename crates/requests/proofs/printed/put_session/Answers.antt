use Rattle.std.proofs.Common.{refl}
use Rattle.requests.specs.BeginningLaws.{fresh-is}
use Rattle.requests.proofs.printed.put_session.Goals as goal

pub put-requires-clause-fresh : goal.put-requires-clause-fresh
put-requires-clause-fresh g c = let begun = c.requires.begun in fresh-is _ begun.some begun.few _ _ _ _ refl refl c.fresh.ensures
