use Rattle.std.proofs.Common.{rules, ap, sym, ◌∙◌, ◌≡◌, Ok, Err}
use Rattle.std.proofs.lemmas.Result.{err_from_is_err_and}
use Rattle.chain.specs.Verdicts.{verdict-refuses, verdict-passes, passes-first}
use Rattle.sentences.specs.Sentences.{sentence_checks, sentence_answer, sentence_text}
use Rattle.sentences.proofs.SaidLaws.{put_front, room}
use Rattle.sentences.proofs.sentence.Goals as goal

pub returns-in_err-check-clause-answer : goal.returns-in_err-check-clause-answer
unfolding sentence_answer
returns-in_err-check-clause-answer c =
    let p = err_from_is_err_and c.from_residual.result c.from_residual.ensures.1 in
    rw (p.1, p.2) (sym (verdict-refuses _ Err _ _ (sym c.check.ensures ∙ c.in_err-check.was)))

pub returns-in_err-check-clause-text : goal.returns-in_err-check-clause-text
unfolding sentence_text
returns-in_err-check-clause-text c =
    sym (verdict-refuses (sentence_checks c.args.step c.args.client c.args.refusal c.args.text.now) (λ _. c.args.text.now) _ _
    (sym c.check.ensures ∙ c.in_err-check.was))

pub put_sentence-requires : goal.put_sentence-requires
put_sentence-requires c =
    let passed = verdict-passes (sentence_checks c.args.step c.args.client c.args.refusal c.args.text.now) (sym c.check.ensures ∙ c.in_ok-check.was) in
    record { numbers = passed.1.0; room = room _ _ _ _ passed.1.0 passed.0 }

pub returns-clause-answer : goal.returns-clause-answer
unfolding sentence_answer
returns-clause-answer c =
    let e = sym c.check.ensures ∙ c.in_ok-check.was in
    let passed = verdict-passes (sentence_checks c.args.step c.args.client c.args.refusal c.args.text.now) e in
    ap Ok (put_front c.put_sentence.ensures.puts (room _ _ _ _ passed.1.0 passed.0)).0
    ∙ sym (passes-first (sentence_checks c.args.step c.args.client c.args.refusal c.args.text.now) Err _ e)

pub returns-clause-text : goal.returns-clause-text
unfolding sentence_text
returns-clause-text c =
    let e = sym c.check.ensures ∙ c.in_ok-check.was in
    let passed = verdict-passes (sentence_checks c.args.step c.args.client c.args.refusal c.args.text.now) e in
    let p = put_front c.put_sentence.ensures.puts (room _ _ _ _ passed.1.0 passed.0) in
    let q : c.put_sentence.new.to.text.now ≡ sentence_text c.args.step c.args.client c.args.refusal c.args.text.now =
    p.1 ∙ sym (passes-first (sentence_checks c.args.step c.args.client c.args.refusal c.args.text.now) (λ _. c.args.text.now) _ e) in
    (search rules) ∙ q
