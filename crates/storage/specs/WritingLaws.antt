-- A plane that is written byte by byte, and planes that are written one by one: how that starts, goes on and ends.
use Rattle.std.specs.Prelude.{◌≡◌, ℕ, zero, suc, ◌+◌, ◌-◌, ◌*◌, ◌/◌, ◌%◌, ◌^◌, ◌<◌, ◌≤◌, List, ◌++◌, length, take, drop, slice_index, slice_set, refl}
use native.Mathlib.Omega.{arith}
use Rattle.std.proofs.Common.{mul-suc, suc-mul, pow-suc, add-one, ◌∙◌, length-append, drop_of_length-le, length-take-le}
use Rattle.std.proofs.Math.Nat.{zero-mul}
use Rattle.std.proofs.Math.Numerals.{unary_clauses}
use Rattle.std.proofs.Math.Path.{sym, ap}
use mathlib.Core.List.{append-nil, append_assoc}
use Rattle.std.proofs.Math.Seq.{drop-cons, take_all, take_at, take-suc-set}
use Rattle.storage.specs.Storage.{Below, minus, differences_after, differences, plane, planes, rearrangement}
use Rattle.storage.specs.WrappingLaws.{differences-from, differences-length}
use Rattle.storage.specs.PlaneLaws.{plane-length}

-- A shift by whole bytes.
pub shift_is : (k : ℕ) → 2 ^ (8 * k) ≡ 256 ^ k
shift_is zero = refl
shift_is (suc k) = rw (mul-suc 8 k, pow-suc 256 k, ← shift_is k) (eight (8 * k))
  where
    eight : (n : ℕ) → 2 ^ (n + 8) ≡ 2 ^ n * 256
    eight n = simp unary_clauses (omega arith)

-- A plane is the bytes that are written, and the plane of what is left.
unfoldable pub PlaneSoFar : ℕ → List ℕ → List ℕ → ℕ → ℕ → Type 0
PlaneSoFar k ws bs before i = plane k (differences ws) ≡ take i bs ++ plane k (differences_after before (drop i ws))

module _ (j : ℕ) (ws bs : List ℕ) where
  pub plane-starts : Below (2 ^ 64) ws → PlaneSoFar (7 - j) ws bs 0 0
  unfolding PlaneSoFar
  plane-starts h = rw (differences-from ws h)

  pub plane-goes-on : (before i : ℕ) → j < 8 → i < length ws → i < length bs → PlaneSoFar (7 - j) ws bs before i
      → PlaneSoFar (7 - j) ws (slice_set bs i (minus (slice_index ws i) before / 2 ^ (56 - 8 * j) % 256)) (slice_index ws i) (i + 1)
  unfolding PlaneSoFar plane differences_after
  plane-goes-on before i lj lw lb s =
      let shift : 2 ^ (56 - 8 * j) ≡ 256 ^ (7 - j) = ap (λ (n : ℕ). 2 ^ n) (omega arith) ∙ shift_is (7 - j) in
      s ∙ rw (add-one i, take-suc-set bs i (minus (slice_index ws i) before / 2 ^ (56 - 8 * j) % 256) lb, shift, drop-cons ws i 0 lw) (sym (append_assoc (take i bs) _ _))

  pub plane-ends : (before i : ℕ) → length ws ≤ i → length bs ≤ i → PlaneSoFar (7 - j) ws bs before i → bs ≡ plane (7 - j) (differences ws)
  unfolding PlaneSoFar plane differences_after
  plane-ends before i lw lb s = sym (s ∙ rw (drop_of_length-le ws lw, take_all i bs lb) (append-nil bs))

-- The planes are the bytes that are written, up to plane j, and the planes that are left.
unfoldable pub PlanesSoFar : List ℕ → List ℕ → ℕ → Type 0
PlanesSoFar ws bs j = rearrangement ws ≡ take (j * length ws) bs ++ planes (8 - j) (differences ws)

module _ (ws bs : List ℕ) (long : length bs ≡ 8 * length ws) where
  pub planes-start : PlanesSoFar ws bs 0
  unfolding PlanesSoFar rearrangement
  planes-start = rw (zero-mul (length ws))

  pub planes-go-on : (j : ℕ) (part rest : List ℕ) → j < 8 → part ≡ plane (7 - j) (differences ws) → PlanesSoFar ws bs j
      → PlanesSoFar ws (take (j * length ws) bs ++ (part ++ rest)) (j + 1)
  unfolding PlanesSoFar planes
  planes-go-on j part rest l p s =
      s ∙ rw (one_less, next, ← p) (rw (← append_assoc (take (j * length ws) bs) part rest, take_at (take (j * length ws) bs ++ part) rest ((j + 1) * length ws) both)
      (sym (append_assoc (take (j * length ws) bs) part (planes (7 - j) (differences ws)))))
    where
      one_less : 8 - j ≡ suc (7 - j)
      one_less = omega arith

      next : 8 - (j + 1) ≡ 7 - j
      next = omega arith

      room : j * length ws ≤ length bs
      room = grind arith

      both : length (take (j * length ws) bs ++ part) ≡ (j + 1) * length ws
      both = length-append (take (j * length ws) bs) part ∙ omega (arith, length-take-le (j * length ws) bs room, ap length p, plane-length (7 - j) (differences ws), differences-length ws, add-one j, suc-mul j (length ws))

  pub planes-end : (j : ℕ) → j ≡ 8 → PlanesSoFar ws bs j → bs ≡ rearrangement ws
  unfolding PlanesSoFar planes
  planes-end j e s = sym ((rw e at s) ∙ append-nil (take (8 * length ws) bs) ∙ take_all (8 * length ws) bs (omega arith))
