use Rattle.capi.specs.Calls.{fresh-small}
use Rattle.capi.proofs.log.cindrolf_fresh.Goals as goal

pub answer_number-requires : goal.answer_number-requires
answer_number-requires c = fresh-small c.fresh-a.ensures
