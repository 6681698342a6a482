-- Of an input that is longer than the limit no product says more than that, so the bytes after the first over the limit do not count.
use Rattle.std.specs.Prelude.{ℕ, ◌≡◌, ◌<◌, ◌≤◌, ltb, None, Some, Ok, Err, OnOk, List, ◌++◌, length, take}
use Rattle.std.proofs.Common.{arith, refl, sym, ap, ◌∙◌, subst, append-nil, length-append, length-take-le, ltb-true, ltb-false}
use Rattle.std.proofs.Math.Logic.{⊎_elim}
use mathlib.Mathlib.Data.Bool.Basic.{dichotomy}
use Rattle.std.specs.declared.option.Option.{Option}
use Rattle.std.specs.declared.result.Result.{Result}
use Rattle.std.specs.Io.KnownBytes.{Consumes, IsAtEnd, Appends}
use Rattle.session.proofs.SessionTheorem.{session-shows-history}
use Rattle.total.proofs.TotalTheorem.{total-shows-history}
use Rattle.console.specs.declared.Product.{Product}
use Rattle.console.specs.declared.Product.TheVariants.{Transcript, Total}
use Rattle.console.specs.Products.{product_text, WritesProduct}

same-long : (product : Product) (xs ys : List ℕ) → 16384 < length xs → 16384 < length ys → product_text product xs ≡ product_text product ys
same-long Transcript xs ys h k = session-shows-history.too_long xs h ∙ sym (session-shows-history.too_long ys k)
same-long Total xs ys h k = total-shows-history.too_long xs h ∙ sym (total-shows-history.too_long ys k)

-- A buffer of more bytes than the limit, of which n were read from what was left.
pub whole : (product : Product) (left rest old new : Option (List ℕ)) (buffer : List ℕ) (n : ℕ) → 16384 < length buffer → n ≤ length buffer
    → Consumes left rest (take n buffer) → (n < length buffer → IsAtEnd rest)
    → Appends old new (product_text product (take n buffer)) → WritesProduct product left old new
whole product None rest old new buffer n size few c end w = (take n buffer, tt, w)
whole product (Some xs) None old new buffer n size few c end w = absurd c
whole product (Some xs) (Some ys) old new buffer n size few c end w = (xs, refl, subst (Appends old new) text w)
  where
    text : product_text product (take n buffer) ≡ product_text product xs
    text = ⊎_elim
        (λ t. let full : length (take n buffer) ≡ n = length-take-le n buffer few in
        let more = ap length c ∙ length-append (take n buffer) ys in
        let all = ltb-false n (length buffer) t in
        same-long product (take n buffer) xs (omega (arith, full, all, size)) (omega (arith, full, all, size, more)))
        (λ t. ap (product_text product) (sym (c ∙ ap (λ l. take n buffer ++ l) (end (ltb-true n (length buffer) t)) ∙ append-nil (take n buffer))))
        (dichotomy (ltb n (length buffer)))

pub on_ok : {T E P Q : Type 0} (r : Result T E) → (P → Q) → OnOk r P → OnOk r Q
on_ok (Ok _) f p = f p
on_ok (Err _) f p = tt
