use Rattle.std.proofs.Common.{rules, ap, ◌∙◌}
use Rattle.std.specs.List.{position}
use Rattle.sentences.specs.PhraseTableLaws.{texts-position}
use Rattle.std.proofs.lemmas.Iterator.{YieldsList-from_slice}
use Rattle.std.proofs.lemmas.Iterator.Search.{position_from_yields_List}
use Rattle.text.specs.Phrase.{same_bytes}
use Rattle.sentences.proofs.read.reason_place.Goals as goal

pub returns : goal.returns
returns c =
    let found = position_from_yields_List (λ reason. same_bytes c.args.bytes.now reason.now) _ _ c.position.result c.position.ensures.ran (YieldsList-from_slice _ c.iter.ensures.rest) (λ x b q k. search rules) in
    found ∙ texts-position (same_bytes c.args.bytes.now) c.reasons.result.now ∙ ap (position (same_bytes c.args.bytes.now)) c.reasons.ensures
