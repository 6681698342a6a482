use Rattle.std.proofs.Common.{sym, ap, ◌∙◌, map}
use Rattle.chain.specs.Marks.{all_zero, well_marked}
use Rattle.marks.specs.Pairs.{pair_in}
use Rattle.marks.specs.FormLaws.{from_zero, wrong-count, twice, well-turn, well-end}
use Rattle.marks.proofs.form.marks_fit.Goals as goal

pub returns-then-name-eq0 : goal.returns-then-name-eq0
returns-then-name-eq0 c =
    let here = ap (map pair_in) c.in-Some.ensures.cases.0 in
    c.all_zero.ensures ∙ ap all_zero here ∙ sym (c.loop-pair.invariant ∙ ap (well_marked _) here ∙ from_zero _ _ _ c.if-name-eq0.true)

pub returns-then-not-count_fits : goal.returns-then-not-count_fits
returns-then-not-count_fits c =
    let here = ap (map pair_in) c.in-Some.ensures.cases.0 in
    sym (c.loop-pair.invariant ∙ ap (well_marked _) here ∙ wrong-count _ _ _ c.if-name-eq0.false (sym c.count_fits.ensures ∙ c.if-not-count_fits.true))

pub returns-then-has_name : goal.returns-then-has_name
returns-then-has_name c =
    let here = ap (map pair_in) c.in-Some.ensures.cases.0 in
    sym (c.loop-pair.invariant ∙ ap (well_marked _) here ∙ twice _ _ _ c.if-name-eq0.false (sym c.has_name.ensures ∙ c.if-has_name.true))

pub loop-pair-preserved : goal.loop-pair-preserved
loop-pair-preserved c =
    let here = ap (map pair_in) c.in-Some.ensures.cases.0 in
    c.loop-pair.invariant ∙ ap (well_marked _) here
    ∙ well-turn _ _ _ c.if-name-eq0.false (sym c.count_fits.ensures ∙ c.if-not-count_fits.false) (sym c.has_name.ensures ∙ c.if-has_name.false)

pub returns : goal.returns
returns c = well-end _ _ c.in_default.ensures.cases ∙ sym c.loop-pair.invariant
