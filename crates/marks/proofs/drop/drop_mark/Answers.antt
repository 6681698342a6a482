use Rattle.std.proofs.Common.{arith}
use Rattle.marks.specs.OutcomeLaws.{drop-refuses, kept-long, kept_within, drop-done}
use Rattle.marks.proofs.drop.drop_mark.Goals as goal

pub overflow_mul-p : goal.overflow_mul-p
overflow_mul-p c =
    let args = c.args in
    omega (arith, kept_within args.name args.state.now args.entries.now args.marks.now c.kept_place.ensures c.in-Ok.is)

pub close_gap-requires : goal.close_gap-requires
close_gap-requires c =
    let args = c.args in
    record {
      long = kept-long args.name args.state.now args.entries.now args.marks.now c.kept_place.ensures c.in-Ok.is;
      within = omega (arith, kept_within args.name args.state.now args.entries.now args.marks.now c.kept_place.ensures c.in-Ok.is);
    }

pub returns-in-Err : goal.returns-in-Err
returns-in-Err c =
    let args = c.args in
    let t = drop-refuses args.name args.state.now args.entries.now args.marks.now c.kept_place.ensures c.in-Err.is in
    record { answer = t.0; words = t.1 }

pub returns-in-Ok : goal.returns-in-Ok
returns-in-Ok c =
    let args = c.args in
    let t = drop-done args.name args.state.now args.entries.now args.marks.now c.kept_place.ensures c.in-Ok.is c.close_gap.ensures in
    record { answer = t.0; words = t.1 }
