use Rattle.std.proofs.Common.{◌==◌, get_or, ◌∙◌, rules, tests}
use Rattle.std.proofs.lemmas.Iterator.{YieldsList-from_slice}
use Rattle.std.proofs.lemmas.Iterator.Search.{any_from_yields_List}
use Rattle.marks.specs.Pairs.{any-among}
use Rattle.marks.proofs.pairs.has_name.Goals as goal

pub returns : goal.returns
returns c =
    any_from_yields_List (λ two. get_or two 0 0 == c.args.name) _ _ c.any.result c.any.ensures.ran (YieldsList-from_slice _ c.iter.ensures.rest) (λ x b q k. search (rules, tests))
    ∙ any-among c.args.name c.args.pairs.now
