use Rattle.std.proofs.Common.{◌≡◌, ◌≤◌, ◌<◌, true, false, arith, sym, ◌∙◌, length}
use Rattle.checks.specs.Test.{less, test}
use Rattle.checks.specs.TestLaws.{holds-true, fails-false}
use Rattle.chain.specs.Verdicts.{verdict}
use Rattle.sentences.specs.Sentences.{fewest_bytes, unsaid}
use Rattle.sentences.proofs.check.Goals as goal

pub returns-then-text-lt-FEWEST_BYTES : goal.returns-then-text-lt-FEWEST_BYTES
unfolding verdict
returns-then-text-lt-FEWEST_BYTES c =
    let short : length c.args.text.now < fewest_bytes = omega arith in
    rw (holds-true (less (length c.args.text.now) fewest_bytes) short)

pub returns-then-is_unsaid : goal.returns-then-is_unsaid
unfolding verdict
returns-then-is_unsaid c =
    let long : fewest_bytes ≤ length c.args.text.now = omega arith in
    let none : test (unsaid c.args.step c.args.client c.args.refusal) ≡ true = sym c.is_unsaid.ensures ∙ c.if-is_unsaid.true in
    rw (fails-false (less (length c.args.text.now) fewest_bytes) long, none)

pub returns : goal.returns
unfolding verdict
returns c =
    let long : fewest_bytes ≤ length c.args.text.now = omega arith in
    let some : test (unsaid c.args.step c.args.client c.args.refusal) ≡ false = sym c.is_unsaid.ensures ∙ c.if-is_unsaid.false in
    rw (fails-false (less (length c.args.text.now) fewest_bytes) long, some)
