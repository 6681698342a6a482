use Rattle.std.proofs.Common.{arith, ap, ◌+◌, ◌%◌, ◌^◌, ℕ, ◌∙◌}
use Rattle.storage.specs.Restoring.{joined-bytes, sums-start, sums-go-on, sums-end}
use Rattle.storage.proofs.restore.restore_words.Goals as goal

pub loop-i-init : goal.loop-i-init
loop-i-init c = sums-start _ _ _

pub loop-i-preserved : goal.loop-i-preserved
loop-i-preserved c =
    let at = c.loop-i in
    let is = c.from_be_bytes-difference.ensures ∙ joined-bytes _ at.i c.args.bytes.now in
    sums-go-on _ _ _ at.sum at.i _ c.loop-i-test.true (omega arith) (ap (λ (x : ℕ). (at.sum + x) % 2 ^ 64) is) at.invariant

pub returns : goal.returns
returns c = sums-end _ _ _ _ _ c.loop-i-test.false (omega arith) c.loop-i.invariant
