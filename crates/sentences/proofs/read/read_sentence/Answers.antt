use Rattle.std.proofs.Common.{arith, sym, ap, ◌∙◌, length}
use Rattle.sentences.specs.Read.{read_sentence}
use Rattle.sentences.specs.ReadLaws.{named, not_stripped, stripped, no_colon, unread, colon_place, numeral_read, placed}
use Rattle.text.specs.Bytes.{bytes}
use Rattle.sentences.proofs.read.read_sentence.Goals as goal

pub returns-in_err-step : goal.returns-in_err-step
unfolding read_sentence
returns-in_err-step c = rw (c.from_residual.ensures, sym c.step_of.ensures ∙ c.in_err-step.was)

pub name-requires : goal.name-requires
name-requires c = (named _ _ (sym c.step_of.ensures ∙ c.in_ok-step.was)).0

pub slice_bounds-bytes-count : goal.slice_bounds-bytes-count
slice_bounds-bytes-count c = omega (arith, ap length c.name.ensures, (named _ _ (sym c.step_of.ensures ∙ c.in_ok-step.was)).1)

pub slice_bounds-bytes-start : goal.slice_bounds-bytes-start
slice_bounds-bytes-start c = omega (arith, ap length c.name.ensures, (named _ _ (sym c.step_of.ensures ∙ c.in_ok-step.was)).1)

pub returns-in_err-bytes : goal.returns-in_err-bytes
unfolding read_sentence
returns-in_err-bytes c =
    rw (c.from_residual-in_err-bytes.ensures, sym c.step_of.ensures ∙ c.in_ok-step.was, not_stripped _ _ _ _ (ap length c.name.ensures) c.in_err-bytes.ensures.cases)

pub returns-in_err-colon : goal.returns-in_err-colon
unfolding read_sentence
returns-in_err-colon c =
    rw (
      c.from_residual-in_err-colon.ensures,
      sym c.step_of.ensures ∙ c.in_ok-step.was,
      stripped _ _ _ _ (ap length c.name.ensures) _ c.in_ok-bytes.ensures.cases,
      no_colon _ (sym c.first_place.ensures ∙ c.in_err-colon.was),
    )
    (sym (unread _))

pub returns-in_err-client : goal.returns-in_err-client
unfolding read_sentence
returns-in_err-client c =
    rw (
      c.from_residual-in_err-client.ensures,
      sym c.step_of.ensures ∙ c.in_ok-step.was,
      stripped _ _ _ _ (ap length c.name.ensures) _ c.in_ok-bytes.ensures.cases,
      numeral_read _ _ _ (colon_place c.in_ok-bytes.bytes.now _ _ c.first_place.ensures c.in_ok-colon.was) c.client_of.ensures,
      c.in_err-client.was,
    )

pub returns-in_err-reason : goal.returns-in_err-reason
unfolding read_sentence
returns-in_err-reason c =
    rw (
      c.from_residual-in_err-reason.ensures,
      sym c.step_of.ensures ∙ c.in_ok-step.was,
      stripped _ _ _ _ (ap length c.name.ensures) _ c.in_ok-bytes.ensures.cases,
      numeral_read _ _ _ (colon_place c.in_ok-bytes.bytes.now _ _ c.first_place.ensures c.in_ok-colon.was) c.client_of.ensures,
      c.in_ok-client.was,
      not_stripped (bytes ": ") _ _ _ (colon_place c.in_ok-bytes.bytes.now _ _ c.first_place.ensures c.in_ok-colon.was) c.in_err-reason.ensures.cases,
    )

pub returns-in_err-place : goal.returns-in_err-place
unfolding read_sentence
returns-in_err-place c =
    rw (
      c.from_residual-in_err-place.ensures,
      sym c.step_of.ensures ∙ c.in_ok-step.was,
      stripped _ _ _ _ (ap length c.name.ensures) _ c.in_ok-bytes.ensures.cases,
      numeral_read _ _ _ (colon_place c.in_ok-bytes.bytes.now _ _ c.first_place.ensures c.in_ok-colon.was) c.client_of.ensures,
      c.in_ok-client.was,
      stripped (bytes ": ") _ _ _ (colon_place c.in_ok-bytes.bytes.now _ _ c.first_place.ensures c.in_ok-colon.was) _ c.in_ok-reason.ensures.cases,
      sym c.reason_place.ensures ∙ c.in_err-place.was,
    )

pub overflow_add-result : goal.overflow_add-result
overflow_add-result c = omega (arith, placed _ _ (sym c.reason_place.ensures ∙ c.in_ok-place.was))

pub returns : goal.returns
unfolding read_sentence
returns c =
    rw (
      sym c.step_of.ensures ∙ c.in_ok-step.was,
      stripped _ _ _ _ (ap length c.name.ensures) _ c.in_ok-bytes.ensures.cases,
      numeral_read _ _ _ (colon_place c.in_ok-bytes.bytes.now _ _ c.first_place.ensures c.in_ok-colon.was) c.client_of.ensures,
      c.in_ok-client.was,
      stripped (bytes ": ") _ _ _ (colon_place c.in_ok-bytes.bytes.now _ _ c.first_place.ensures c.in_ok-colon.was) _ c.in_ok-reason.ensures.cases,
      sym c.reason_place.ensures ∙ c.in_ok-place.was,
    )
