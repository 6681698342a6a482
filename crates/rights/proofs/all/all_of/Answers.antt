use Rattle.std.proofs.Common.{ap, ◌∙◌}
use Rattle.records.specs.declared.head.Head.{Head}
use Rattle.chain.specs.Buffers.{head}
use Rattle.chain.specs.Rights.{all_rights}
use Rattle.rights.proofs.all.all_of.Goals as goal

pub returns : goal.returns
unfolding head
returns c = c.all_for.ensures ∙ ap (λ (h : Head). all_rights h.client_count) c.load_head-h.ensures
