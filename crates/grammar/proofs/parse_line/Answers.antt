use Rattle.std.proofs.Common.{arith, ◌∙◌}
use Rattle.grammar.proofs.GrammarLaws.{line-short, line-no-space, line_write, line-client}
use Rattle.grammar.proofs.parse_line.Goals as goal

pub returns-in_default : goal.returns-in_default
returns-in_default c = line-short _ c.in_default.len_below

pub returns-then-space-ne32 : goal.returns-then-space-ne32
returns-then-space-ne32 c = line-no-space _ (omega (arith, c.if-space-ne32.true))

pub returns-then-letter-eq87 : goal.returns-then-letter-eq87
returns-then-letter-eq87 c = c.parse_write.ensures ∙ line_write _ c.if-space-ne32.false c.if-letter-eq87.true

pub returns : goal.returns
returns c = c.client_step.ensures ∙ line-client _ c.if-space-ne32.false c.if-letter-eq87.false _ c.parse_decimal.ensures
