use Rattle.std.proofs.Common.{ap, ◌∙◌}
use lib.ListN.{length}
use Rattle.records.specs.declared.head.Head.{Head}
use Rattle.chain.specs.Buffers.{head}
use Rattle.rights.specs.All.{granted}
use Rattle.rights.proofs.all.grant_all_of.Goals as goal

pub returns : goal.returns
unfolding head
returns c =
    let args = c.args in
    c.grant_all.ensures ∙ ap (λ (h : Head). granted h.client_count (length args.rights.now)) c.load_head-h.ensures
