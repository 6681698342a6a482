use Rattle.chain.specs.Operations.{buffers}
use Rattle.capi.specs.Calls.{drop-small}
use Rattle.capi.proofs.mark.cindrolf_mark_drop.Goals as goal

pub answer_number-requires : goal.answer_number-requires
answer_number-requires c = let args = c.args in drop-small args.name (buffers args.state.now args.entries.now) args.marks.now c.drop_mark-a.ensures.answer
