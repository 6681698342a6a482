use Rattle.std.proofs.Common.{◌==◌, ◌&&◌, get_or, ◌∙◌, rules, tests}
use Rattle.std.proofs.lemmas.Iterator.{YieldsList-from_slice}
use Rattle.std.proofs.lemmas.Iterator.Search.{all_from_yields_List}
use Rattle.marks.specs.Pairs.{all-zero}
use Rattle.marks.proofs.form.all_zero.Goals as goal

pub returns : goal.returns
returns c =
    all_from_yields_List (λ two. (get_or two 0 0 == 0) && (get_or two 1 0 == 0)) _ _ c.all.result c.all.ensures.ran (YieldsList-from_slice _ c.iter.ensures.rest) (λ x b q k. search (rules, tests))
    ∙ all-zero c.args.pairs.now
