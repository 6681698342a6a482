use Rattle.std.proofs.Common.{◌≡◌, ◌++◌, ◌+◌, ◌≤◌, ◌*◌, ◌^◌, arith, sym, ◌∙◌, length}
use mathlib.Core.Logic.{inl, inr}
use Rattle.std.proofs.lemmas.List.{take-append-drop}
use Rattle.std.proofs.lemmas.Result.{err_from_is_err_and}
use Rattle.scores.specs.AddingLaws.{sum-refused, sum-starts, turn-goes-on, turn-stops, turn-bound}
use Rattle.scores.proofs.sum.sum_of.Goals as goal

pub returns-then-is_empty : goal.returns-then-is_empty
returns-then-is_empty c = let none : length c.args.scores.now ≡ 0 = grind arith in sym (sum-refused _ (inl none))

pub returns-then-scores-gt-SCORES_LIMIT : goal.returns-then-scores-gt-SCORES_LIMIT
returns-then-scores-gt-SCORES_LIMIT c = sym (sum-refused _ (inr (omega arith)))

pub loop-four-init : goal.loop-four-init
loop-four-init c =
    let some : length c.args.scores.now ≡ 0 → ⊥ = grind arith in
    (omega arith, sum-starts _ (some, omega arith))

pub returns-in_err-sum : goal.returns-in_err-sum
returns-in_err-sum c =
    let at = c.loop-four in
    let split = c.in-Some.ensures.cases in
    let all : at.rest.now ≡ c.in-Some.four.now ++ c.in-Some.more.now = rw (split.0, split.1) (sym (take-append-drop 4 at.rest.now)) in
    let p = err_from_is_err_and c.from_residual.result c.from_residual.ensures.1 in
    rw (p.1, p.2) (sym (at.invariant.1 ∙ turn-stops at.sum _ _ _ all _ (sym c.in_err-sum.ensures)))

pub loop-four-preserved : goal.loop-four-preserved
loop-four-preserved c =
    let at = c.loop-four in
    let split = c.in-Some.ensures.cases in
    let all : at.rest.now ≡ c.in-Some.four.now ++ c.in-Some.more.now = rw (split.0, split.1) (sym (take-append-drop 4 at.rest.now)) in
    let is = sym c.in_ok-sum.ensures in
    let small : c.in_ok-sum.sum ≤ at.sum + 4 * 10 ^ 12 = omega (arith, turn-bound _ _ _ is) in
    (omega (arith, split.2), at.invariant.1 ∙ turn-goes-on at.sum _ _ _ all _ is)
