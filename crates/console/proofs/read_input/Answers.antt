-- A read fills what comes after the bytes so far, and one that is interrupted changes nothing that was read.
use Rattle.std.proofs.Common.{◌≡◌, ℕ, ◌+◌, ◌-◌, ◌≤◌, List, ◌++◌, rules, arith, length, take, slice_range, sym, ap, ◌∙◌, subst, le_refl, drop_at, length-take-le}
use Rattle.std.proofs.lemmas.Slice.{take-put_mid_below}
use Rattle.std.proofs.lemmas.List.{take-append-le}
use Rattle.std.specs.Io.KnownBytes.{Consumes}
use Rattle.std.proofs.KnownBytes.{Consumes-trans, Consumes-kept}
use borrow.Rule.Slice.PartMut.{put_mid, post_of}
use lib.Seq.{take-add}
use Rattle.console.proofs.read_input.Goals.{in-Ok, in-Err+else-ne}
use Rattle.console.proofs.read_input.Goals as goal

take_split : (a b : ℕ) (old new : List ℕ) → a ≤ b → take a new ≡ take a old → take a old ++ slice_range new a b ≡ take b new
take_split a b old new h front =
    let same : a + (b - a) ≡ b = omega arith in
    ap (λ l. l ++ slice_range new a b) (sym front) ∙ sym (take-add a (b - a) new) ∙ ap (λ n. take n new) same

slice_range-put_mid : (a k n : ℕ) (xs ys : List ℕ) → a ≤ length xs → n ≤ length ys → slice_range (put_mid a k xs ys) a (a + n) ≡ take n ys
slice_range-put_mid a k n xs ys within fits =
    let same : (a + n) - a ≡ n = omega arith in
    let after = post_of a k xs in
    ap (take ((a + n) - a)) (drop_at (take a xs) (ys ++ after) a (length-take-le a xs within)) ∙ ap (λ m. take m (ys ++ after)) same ∙ take-append-le n ys after fits

pub loop-preserved : goal.loop-preserved
loop-preserved g c =
    let n = c.loop.n in
    let within = c.loop.invariant.1 in
    let room = length c.loop.input - n in
    let all = put_mid n room c.loop.input c.read.new.buf in
    let front : take n all ≡ take n c.loop.input = take-put_mid_below _ _ _ _ _ (le_refl _) within in
    elim c.match-read.branch [
      | in-Ok w ↦
          let part = slice_range-put_mid n room w.in-Ok.count c.loop.input c.read.new.buf within w.in-Ok.ensures.bound.0 in
          let joined = take_split n (n + w.in-Ok.count) c.loop.input all (omega arith) front in
          subst (λ k. (length all ≡ length c.args.input.now) × (k ≤ length all) × Consumes (g.R.Read.remaining c.args.reader.now) (g.R.Read.remaining c.read.new.self) (take k all)) (sym w.n-is)
          (search rules, search rules, subst (Consumes (g.R.Read.remaining c.args.reader.now) (g.R.Read.remaining c.read.new.self)) (ap (λ l. take n c.loop.input ++ l) (sym part) ∙ joined) (Consumes-trans _ _ _ _ _ c.loop.invariant.2 w.in-Ok.ensures.bytes.0))
      | in-Err+else-ne w ↦
          subst (λ k. (length all ≡ length c.args.input.now) × (k ≤ length all) × Consumes (g.R.Read.remaining c.args.reader.now) (g.R.Read.remaining c.read.new.self) (take k all)) (sym w.n-is)
          (search rules, search rules, subst (Consumes (g.R.Read.remaining c.args.reader.now) (g.R.Read.remaining c.read.new.self)) (sym front) (Consumes-kept _ _ _ _ c.loop.invariant.2 w.in-Err.ensures.bytes))
    ]
