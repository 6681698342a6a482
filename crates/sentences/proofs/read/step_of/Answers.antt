use Rattle.std.proofs.Common.{rules, ap, ◌∙◌}
use Rattle.std.specs.List.{position}
use Rattle.sentences.specs.ReadLaws.{starts-begins}
use Rattle.sentences.specs.PhraseTableLaws.{texts-position}
use Rattle.std.proofs.lemmas.Iterator.{YieldsList-from_slice}
use Rattle.std.proofs.lemmas.Iterator.Search.{position_from_yields_List}
use Rattle.sentences.specs.Read.{begins}
use Rattle.sentences.proofs.read.step_of.Goals as goal

pub returns : goal.returns
returns c =
    let found = position_from_yields_List (λ name. begins c.args.bytes.now name.now) _ _ c.position.result c.position.ensures.ran (YieldsList-from_slice _ c.iter.ensures.rest) (λ x b q k. search (rules, starts-begins)) in
    found ∙ texts-position (begins c.args.bytes.now) c.names.result.now ∙ ap (position (begins c.args.bytes.now)) c.names.ensures
