use Rattle.lookup.specs.Opened.{tested-opened}
use Rattle.lookup.specs.LookupLaws.{opened-log, leader-is}
use Rattle.adviser.specs.AdviserLaws.{looked-up}
use Rattle.adviser.proofs.advise_known.Goals as goal

pub returns : goal.returns
returns c =
    let o = tested-opened c.args.log.now.opened in
    let k = c.remembered.ensures in
    looked-up _ (opened-log o) (leader-is o c.head-h.ensures) k.client k.stored c.client_advice.ensures
