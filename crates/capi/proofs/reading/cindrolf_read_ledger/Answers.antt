use Rattle.capi.specs.Calls.{ledger-small}
use Rattle.capi.proofs.reading.cindrolf_read_ledger.Goals as goal

pub answer_number-requires : goal.answer_number-requires
answer_number-requires c = ledger-small c.locate-found.ensures
