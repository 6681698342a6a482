use Rattle.capi.specs.Calls.{step_small}
use Rattle.capi.proofs.permitted.take_scores.Goals as goal

pub answer_number-requires : goal.answer_number-requires
answer_number-requires c = step_small c.write_scores-a.ensures
