use Rattle.std.proofs.Common.{◌≡◌, rules, arith, ap, refl, [], ⊎_elim, length}
use Rattle.requests.specs.Lines.{lines}
use Rattle.requests.specs.LineLaws.{few-lines}
use Rattle.session.proofs.Parts.{running-start, turn-room, turn, turns-end}
use Rattle.session.proofs.replies_to.put_replies.Goals as goal

pub loop-number-init : goal.loop-number-init
loop-number-init c =
    let left = c.args.left.rest.now in
    let all : lines c.into_iter-number-iterator.result.b.rest.now ≡ lines left =
    rw c.into_iter-number-iterator.ensures.into_iter_gives (rw c.zip-number-items.ensures.second refl) in
    let one : c.into_iter-number-iterator.result.a.start ≡ 1 =
    rw c.into_iter-number-iterator.ensures.into_iter_gives (rw c.zip-number-items.ensures.first refl) in record {
      few = omega (arith, one, ap length all, few-lines left, c.requires.small);
      running = rw (all, one) (running-start _ _ _ _ _);
      same_text = refl;
    }

pub put_reply_line-requires : goal.put_reply_line-requires
put_reply_line-requires c =
    let st = c.in-Some.ensures.steps in
    rw st.0.0 (turn-room c.loop-number.invariant.running st.1 c.take-reply.ensures c.requires.room)

pub loop-number-preserved : goal.loop-number-preserved
loop-number-preserved c =
    let inv = c.loop-number.invariant in
    let st = c.in-Some.ensures.steps in record {
      few = omega (arith, inv.few, st.0.0, st.0.1, ap length st.1);
      running = rw (st.0.1, st.0.0) (turn inv.running st.1 c.take-reply.ensures _ _ (rw st.0.0 at c.put_reply_line.ensures.puts));
      same_text = search rules;
    }

-- The numbers outlast the lines.
pub returns-clause-ran : goal.returns-clause-ran
returns-clause-ran c =
    let inv = c.loop-number.invariant in
    let none : lines c.loop-number.number-iterator.b.rest.now ≡ [] =
    ⊎_elim (λ n. absurd (omega (arith, inv.few, n.1.0))) (λ l. l.1.0) c.in-None.ensures.steps in
    turns-end inv.running none
