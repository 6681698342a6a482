use Rattle.capi.specs.Calls.{take-small}
use Rattle.capi.proofs.by_number.cindrolf_take_with.Goals as goal

pub answer_number-requires : goal.answer_number-requires
answer_number-requires c = take-small c.take_by_number-a.ensures
