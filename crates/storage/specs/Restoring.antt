-- A word that is joined from eight bytes, and words that are summed one by one: how that starts, goes on and ends.
use Rattle.std.specs.Int.{w64, from_be_bytes}
use Rattle.std.specs.Prelude.{◌≡◌, ℕ, suc, ◌+◌, ◌*◌, ◌%◌, ◌^◌, ◌<◌, ◌≤◌, List, [], ◌∷◌, ◌++◌, length, take, drop, slice_index, slice_index_or, slice_set}
use Rattle.std.proofs.Common.{arith, add-one, ◌∙◌, append-nil, append_assoc, drop_of_length-le, drop-drop, get_or-drop}
use Rattle.std.proofs.Math.Path.{refl, sym, ap}
use Rattle.std.proofs.Math.Seq.{drop-cons, take_all, take-suc-set}
use Rattle.storage.specs.Storage.{joined, joined_from, sums_after, restoration}
use Rattle.storage.specs.PlaneLaws.{joined-from-length, joined-from-at}

-- What stands at an index of eight planes is the number of these eight bytes, of which the first is the most significant.
module _ (n i : ℕ) (bs : List ℕ) where
  joined-plane : (k from to : ℕ) → to ≡ from + n → joined (suc k) n i (drop from bs) ≡ slice_index bs (from + i) * 256 ^ k + joined k n i (drop to bs)
  unfolding joined
  joined-plane k from to e = rw (get_or-drop from bs i 0, drop-drop n from bs, e)

  pub joined-bytes : from_be_bytes w64 (slice_index bs i ∷ (slice_index bs (n + i) ∷ (slice_index bs (2 * n + i) ∷ (slice_index bs (3 * n + i)
      ∷ (slice_index bs (4 * n + i) ∷ (slice_index bs (5 * n + i) ∷ (slice_index bs (6 * n + i) ∷ (slice_index bs (7 * n + i) ∷ [])))))))) ≡ joined 8 n i bs
  unfolding joined
  joined-bytes = omega (
    arith,
    joined-plane 6 n (2 * n) (omega arith),
    joined-plane 5 (2 * n) (3 * n) (omega arith),
    joined-plane 4 (3 * n) (4 * n) (omega arith),
    joined-plane 3 (4 * n) (5 * n) (omega arith),
    joined-plane 2 (5 * n) (6 * n) (omega arith),
    joined-plane 1 (6 * n) (7 * n) (omega arith),
    joined-plane 0 (7 * n) (8 * n) (omega arith),
  )

-- The words are those that are written, and the sums of the differences that are left.
unfoldable pub SumsSoFar : ℕ → List ℕ → List ℕ → ℕ → ℕ → Type 0
SumsSoFar n bs ws sum i = restoration n bs ≡ take i ws ++ sums_after sum (drop i (joined_from n 0 n bs))

module _ (n : ℕ) (bs ws : List ℕ) where
  pub sums-start : SumsSoFar n bs ws 0 0
  unfolding SumsSoFar restoration
  sums-start = refl

  pub sums-go-on : (sum i next : ℕ) → i < n → i < length ws → next ≡ (sum + joined 8 n i bs) % 2 ^ 64 → SumsSoFar n bs ws sum i
      → SumsSoFar n bs (slice_set ws i next) next (i + 1)
  unfolding SumsSoFar sums_after
  sums-go-on sum i next ln lw e s =
      let here : i < length (joined_from n 0 n bs) = omega (arith, joined-from-length n 0 n bs) in
      let at : slice_index_or (joined_from n 0 n bs) i 0 ≡ joined 8 n i bs = joined-from-at n 0 n bs i ln ∙ ap (λ (x : ℕ). joined 8 n x bs) (omega arith) in
      s ∙ rw (add-one i, take-suc-set ws i next lw, drop-cons (joined_from n 0 n bs) i 0 here, at, ← e) (sym (append_assoc (take i ws) _ _))

  pub sums-end : (sum i : ℕ) → n ≤ i → length ws ≤ i → SumsSoFar n bs ws sum i → ws ≡ restoration n bs
  unfolding SumsSoFar sums_after
  sums-end sum i ln lw s =
      let all : length (joined_from n 0 n bs) ≤ i = omega (arith, joined-from-length n 0 n bs) in
      sym (s ∙ rw (drop_of_length-le (joined_from n 0 n bs) all, take_all i ws lw) (append-nil ws))
