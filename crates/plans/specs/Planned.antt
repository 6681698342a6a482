-- A step by its number, as code hands it on: the step, or the number where no step has it.
use Rattle.std.specs.Prelude.{Result}
use Rattle.chain.specs.declared.kind.UnknownStep.{UnknownStep}
use Rattle.dispatch.specs.declared.Step.{Step}

abbrev pub Planned : Type 0
Planned = Result Step UnknownStep
