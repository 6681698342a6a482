use Rattle.std.proofs.Common.{◌==◌, get_or, ◌∙◌, rules, tests}
use Rattle.std.proofs.lemmas.Iterator.{YieldsList-from_slice}
use Rattle.std.proofs.lemmas.Iterator.Search.{position_from_yields_List}
use Rattle.marks.specs.Pairs.{position-place}
use Rattle.marks.proofs.pairs.place_of.Goals as goal

pub returns : goal.returns
returns c =
    position_from_yields_List (λ two. get_or two 0 0 == c.args.name) _ _ c.position.result c.position.ensures.ran (YieldsList-from_slice _ c.iter.ensures.rest) (λ x b q k. search (rules, tests))
    ∙ position-place c.args.name c.args.pairs.now
