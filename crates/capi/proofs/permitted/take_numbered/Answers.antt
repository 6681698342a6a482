use Rattle.capi.specs.Calls.{step_small}
use Rattle.capi.proofs.permitted.take_numbered.Goals as goal

pub answer_number-requires : goal.answer_number-requires
answer_number-requires c = step_small c.check_and_take-a.ensures
