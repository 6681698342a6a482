use Rattle.std.proofs.Common.{◌≤◌, ◌+◌, ◌-◌, rules, arith, sym, ◌∙◌, ap, eqb-true, ◌≡◌, ℕ, true, List, ◌∷◌, length, take, drop, length-drop, take_all}
use Rattle.std.proofs.lemmas.Bool.{eqb-false}
use Rattle.requests.specs.Lines.{line, lines}
use Rattle.requests.specs.LineLaws.{line-ended, line-unended, none-left}
use Rattle.requests.proofs.input.LinesIterator.next.Goals as goal

pub returns-then-is_empty-clause-steps : goal.returns-then-is_empty-clause-steps
returns-then-is_empty-clause-steps c =
    let none = none-left _ (eqb-true _ _ (sym c.if-is_empty.ensures)) in
    (none, none)

pub returns-in-Some-clause-steps : goal.returns-in-Some-clause-steps
returns-in-Some-clause-steps c =
    let bytes = c.args.self.now.rest.now in
    let next = c.in-Some.end + 1 in
    let all : take (length bytes - next) (drop next bytes) ≡ drop next bytes = take_all _ _ (omega (arith, length-drop next bytes)) in
    line-ended bytes c.in-Some.end (sym c.first_place.ensures ∙ c.in-Some.is)
    ∙ ap (λ (rest : List ℕ). line (take c.in-Some.end bytes) true ∷ lines rest) (sym all)

pub returns-in-None-clause-steps : goal.returns-in-None-clause-steps
returns-in-None-clause-steps c =
    let some : 1 ≤ length c.args.self.now.rest.now = omega (arith, eqb-false _ _ (sym c.if-is_empty.ensures)) in
    line-unended _ some (sym c.first_place.ensures ∙ c.in-None.is)

pub returns-in-Some-clause-goes : goal.returns-in-Some-clause-goes
returns-in-Some-clause-goes c = let fewer = ap length (returns-in-Some-clause-steps c) in
    record { on = λ _. (search rules, search rules, omega (arith, fewer)); keeps = search rules; rests = search rules }

pub returns-in-None-clause-goes : goal.returns-in-None-clause-goes
returns-in-None-clause-goes c = let fewer = ap length (returns-in-None-clause-steps c) in
    record { on = λ _. (search rules, search rules, omega (arith, fewer)); keeps = search rules; rests = search rules }
