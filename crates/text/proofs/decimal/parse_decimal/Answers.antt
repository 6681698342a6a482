use Rattle.std.proofs.Common.{◌≡◌, ◌+◌, ◌*◌, ◌-◌, get_or, arith, sym, ◌∙◌}
use Rattle.text.specs.DecimalLaws.{digit-range}
use Rattle.text.specs.ParseDecimalLaws.{digit-is, number-start, number-not, number-turn, number-other, number-large, number-end}
use Rattle.text.proofs.decimal.parse_decimal.Goals as goal

pub returns-then-not-starts : goal.returns-then-not-starts
returns-then-not-starts c = number-not _ (sym c.starts.ensures ∙ c.if-not-starts.true)

pub loop-b-init : goal.loop-b-init
loop-b-init c = (omega arith, number-start _ (sym c.starts.ensures ∙ c.if-not-starts.false))

pub returns-then-not-is_ascii_digit : goal.returns-then-not-is_ascii_digit
returns-then-not-is_ascii_digit c =
    let h = digit-is (get_or c.args.bytes.now c.loop-b.b-index 0) ∙ sym c.is_ascii_digit.ensures.value ∙ c.if-not-is_ascii_digit.true in
    number-other _ _ _ _ c.loop-b.invariant.1 c.loop-b-test.true h

pub returns-in_err-checked_mul : goal.returns-in_err-checked_mul
returns-in_err-checked_mul c =
    let h = digit-is (get_or c.args.bytes.now c.loop-b.b-index 0) ∙ sym c.is_ascii_digit.ensures.value ∙ c.if-not-is_ascii_digit.false in
    c.from_residual.ensures ∙ number-large _ _ _ _ c.loop-b.invariant.1 c.loop-b-test.true h (omega (arith, c.in_err-checked_mul.ensures))

pub returns-in_err-value : goal.returns-in_err-value
returns-in_err-value c =
    let h = digit-is (get_or c.args.bytes.now c.loop-b.b-index 0) ∙ sym c.is_ascii_digit.ensures.value ∙ c.if-not-is_ascii_digit.false in
    c.from_residual-in_err-value.ensures
    ∙ number-large _ _ _ _ c.loop-b.invariant.1 c.loop-b-test.true h (omega (arith, c.in_err-value.ensures, c.in_ok-checked_mul.ensures.1))

pub loop-b-preserved : goal.loop-b-preserved
loop-b-preserved c =
    let h = digit-is (get_or c.args.bytes.now c.loop-b.b-index 0) ∙ sym c.is_ascii_digit.ensures.value ∙ c.if-not-is_ascii_digit.false in
    let r = digit-range _ h in
    let inv = c.loop-b.invariant in
    let is : c.in_ok-value.value ≡ c.loop-b.value * 10 + (get_or c.args.bytes.now c.loop-b.b-index 0 - 48) = omega (arith, c.in_ok-value.ensures.1, c.in_ok-checked_mul.ensures.1) in
    (omega (arith, c.in_ok-value.ensures.0), rw is (number-turn _ _ _ _ inv.1 c.loop-b-test.true h))

pub returns : goal.returns
returns c = number-end _ _ _ _ c.loop-b.invariant.1 c.loop-b-test.false c.loop-b.invariant.0
