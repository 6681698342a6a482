use Rattle.std.proofs.Common.{arith}
use Rattle.sentences.specs.Phrases.{step_name}
use Rattle.sentences.specs.PhraseTableLaws.{name-count, texts-length, texts-at}
use Rattle.sentences.proofs.phrase.name.Goals as goal

pub bounds-names-step : goal.bounds-names-step
bounds-names-step c = omega (arith, name-count, texts-length _ _ c.names.ensures)

pub returns : goal.returns
unfolding step_name
returns c = texts-at _ _ c.names.ensures _ _ (omega (arith, name-count))
