use Rattle.std.proofs.Common.{sym, ◌∙◌}
use Rattle.grammar.proofs.GrammarLaws.{write-no-space, write-parts}
use Rattle.grammar.proofs.parse_write.Goals as goal

pub returns-in_err-space : goal.returns-in_err-space
returns-in_err-space c = c.from_residual.ensures ∙ write-no-space _ (sym c.first_place.ensures ∙ c.in_err-space.was)

pub returns : goal.returns
returns c =
    let client = c.parse_decimal-client.ensures in
    let value = c.parse_decimal-value.ensures in
    c.write_step.ensures ∙ write-parts _ _ (sym c.first_place.ensures ∙ c.in_ok-space.was) _ _ client value
