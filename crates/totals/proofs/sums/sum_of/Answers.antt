use Rattle.std.proofs.Common.{arith, ◌∙◌, rules, of_calls}
use Rattle.std.proofs.lemmas.Iterator.{YieldsList-from_slice, YieldsList-from_map}
use Rattle.std.proofs.lemmas.Iterator.Consumers.{YieldsList-at, sum_by_from_yields_List, fits_by_from_yields_list}
use Rattle.chain.specs.Values.{value_of}
use Rattle.readers.specs.Along.{entry-value}
use Rattle.totals.specs.SumLaws.{sum-values, sum-small}
use Rattle.totals.proofs.sums.sum_of.Goals as goal

pub sum-requires-clause-fits : goal.sum-requires-clause-fits
sum-requires-clause-fits c =
    let ws = c.args.words.now in
    fits_by_from_yields_list value_of ws c.map.result _
    (YieldsList-from_map _ value_of (YieldsList-at c.map.ensures.source (YieldsList-from_slice ws c.iter.ensures.rest)) c.map.ensures.closure (λ x r q k. search (rules, of_calls, entry-value)))
    (omega (arith, sum-small ws c.requires))

pub returns : goal.returns
returns c =
    let ws = c.args.words.now in
    sum_by_from_yields_List value_of ws c.map.result c.sum.result c.sum.ensures.ran
    (YieldsList-from_map _ value_of (YieldsList-at c.map.ensures.source (YieldsList-from_slice ws c.iter.ensures.rest)) c.map.ensures.closure (λ x r q k. search (rules, of_calls, entry-value)))
    ∙ sum-values ws
