use Rattle.capi.specs.StorageCalls.{storage-small}
use Rattle.capi.proofs.rearranged.cindrolf_rearrange.Goals as goal

pub answer_number-requires : goal.answer_number-requires
answer_number-requires c = storage-small _ _ c.rearrange-a.ensures.answers
