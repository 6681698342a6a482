-- The planes of some numbers, joined, are these numbers; and numbers that are joined from planes have these planes.
use Rattle.std.specs.Prelude.{◌≡◌, ℕ, zero, suc, ◌+◌, ◌*◌, ◌/◌, ◌%◌, ◌^◌, ◌<◌, List, [], ◌∷◌, ◌++◌, length, take, drop, nat_lt, slice_index}
use native.Mathlib.Omega.{arith}
use Rattle.std.proofs.Math.Nat.{mod-one, one-le-pow, pow-succ', suc-mul}
use Rattle.std.proofs.Common.{mod-lt, mod-eq_of_lt, zero-mul, zero-add, ap, subst, ◌∙◌, length-append, length-drop, take-append-drop, ltb-true, ltb-false, drop_at, get_or-append-add, get_or-take, get_or-drop}
use Rattle.std.proofs.Math.Path.{refl, sym}
use Rattle.std.proofs.Math.Arith.{digits_lt, digits_div, digits_mod, mod-mul}
use Rattle.std.proofs.lemmas.List.{length-map}
use Rattle.std.proofs.Math.ListN.{get_or-append, get_or-eq_default}
use Rattle.checks.specs.TestLaws.{by_bool}
use Rattle.std.proofs.Math.Seq.{ext_get_or, length-take-le}
use Rattle.storage.specs.Storage.{Below, plane, planes, joined, joined_from}

pub plane-length : (k : ℕ) (ds : List ℕ) → length (plane k ds) ≡ length ds
unfolding plane
plane-length k ds = length-map ds _

plane-at : (k : ℕ) (ds : List ℕ) (i : ℕ) → i < length ds → slice_index (plane k ds) i ≡ slice_index ds i / 256 ^ k % 256
unfolding plane
plane-at k [] i l = absurd (omega arith)
plane-at k (d ∷ ds) zero l = refl
plane-at k (d ∷ ds) (suc i) l = plane-at k ds i (omega arith)

pub planes-length : (k : ℕ) (ds : List ℕ) → length (planes k ds) ≡ k * length ds
unfolding planes
planes-length zero ds = sym (zero-mul (length ds))
planes-length (suc k) ds = length-append (plane k ds) (planes k ds) ∙ omega (arith, plane-length k ds, planes-length k ds, suc-mul k (length ds))

-- Plane j, from the first, of k is that of byte number k - (j + 1).
pub planes-at : (k j i rest : ℕ) (ds : List ℕ) → i < length ds → k ≡ suc (j + rest) → slice_index (planes k ds) (j * length ds + i) ≡ slice_index ds i / 256 ^ rest % 256
unfolding planes
planes-at zero j i rest ds l e = absurd (omega arith)
planes-at (suc k) zero i rest ds l e =
    let in-plane : i < length (plane k ds) = omega (arith, plane-length k ds) in
    rw (zero-mul (length ds), zero-add i, get_or-append (plane k ds) (planes k ds) 0 i in-plane)
    (subst (λ (x : ℕ). slice_index (plane k ds) i ≡ slice_index ds i / 256 ^ x % 256) (omega arith) (plane-at k ds i l))
planes-at (suc k) (suc j) i rest ds l e =
    ap (λ (x : ℕ). slice_index (plane k ds ++ planes k ds) x) (omega (arith, suc-mul j (length ds), plane-length k ds))
    ∙ get_or-append-add (plane k ds) (planes k ds) (j * length ds + i) 0 ∙ planes-at k j i rest ds l (omega arith)

unit : (k : ℕ) → 0 < 256 ^ k
unit k = one-le-pow k 256 (omega arith)

-- One byte more, above the k lowest.
byte_above : (d k : ℕ) → d % 256 ^ suc k ≡ d / 256 ^ k % 256 * 256 ^ k + d % 256 ^ k
byte_above d k = rw (pow-succ' 256 k) (mod-mul d (omega arith) (unit k))

pub joined-planes : (k : ℕ) (ds : List ℕ) (i : ℕ) → i < length ds → joined k (length ds) i (planes k ds) ≡ slice_index ds i % 256 ^ k
unfolding joined planes
joined-planes zero ds i l = sym (mod-one (slice_index ds i))
joined-planes (suc k) ds i l =
    let in-plane : i < length (plane k ds) = omega (arith, plane-length k ds) in
    rw (get_or-append (plane k ds) (planes k ds) 0 i in-plane, plane-at k ds i l, drop_at (plane k ds) (planes k ds) (length ds) (plane-length k ds), joined-planes k ds i l)
    (sym (byte_above (slice_index ds i) k))

module _ (n : ℕ) where
  -- What is joined from k bytes fits k bytes.
  joined_small : (k i : ℕ) (bs : List ℕ) → ((j : ℕ) → slice_index bs j < 256) → joined k n i bs < 256 ^ k
  unfolding joined
  joined_small zero i bs h = omega arith
  joined_small (suc k) i bs h = rw (pow-succ' 256 k)
      (digits_lt (h i) (joined_small k i (drop n bs) (λ j. rw (get_or-drop n bs j 0) (h (n + j)))))

  -- Numbers whose k lowest bytes are joined from some bytes have these for their planes.
  planes-joined : (k : ℕ) (bs ds : List ℕ) → length ds ≡ n → length bs ≡ k * n → ((j : ℕ) → slice_index bs j < 256)
      → ((i : ℕ) → i < n → slice_index ds i % 256 ^ k ≡ joined k n i bs) → planes k ds ≡ bs
  unfolding planes joined
  planes-joined zero [] ds ld lb h e = refl
  planes-joined zero (b ∷ bs) ds ld lb h e = absurd (omega arith)
  planes-joined (suc k) bs ds ld lb h e =
      let all : length bs ≡ k * n + n = lb ∙ suc-mul k n in
      let first : length (take n bs) ≡ n = length-take-le n bs (omega arith) in
      let top : plane k ds ≡ take n bs = ext_get_or 0 (plane k ds) (take n bs) (plane-length k ds ∙ ld ∙ sym first)
      (λ i l. let li : i < n = omega (arith, plane-length k ds) in
      plane-at k ds i (omega arith) ∙ high i li ∙ sym (get_or-take n bs i 0 li)) in
      let rest : planes k ds ≡ drop n bs = planes-joined k (drop n bs) ds ld (length-drop n bs ∙ omega arith) (λ j. rw (get_or-drop n bs j 0) (h (n + j))) low in
      rw (top, rest) (take-append-drop n bs)
    where
      same : (i : ℕ) → i < n → slice_index ds i / 256 ^ k % 256 * 256 ^ k + slice_index ds i % 256 ^ k ≡ slice_index bs i * 256 ^ k + joined k n i (drop n bs)
      same i l = sym (byte_above (slice_index ds i) k) ∙ e i l

      small : (i : ℕ) → joined k n i (drop n bs) < 256 ^ k
      small i = joined_small k i (drop n bs) (λ j. rw (get_or-drop n bs j 0) (h (n + j)))

      high : (i : ℕ) → i < n → slice_index ds i / 256 ^ k % 256 ≡ slice_index bs i
      high i l = sym (digits_div (slice_index ds i / 256 ^ k % 256) (mod-lt (slice_index ds i) (unit k))) ∙ ap (λ (x : ℕ). x / 256 ^ k) (same i l) ∙ digits_div (slice_index bs i) (small i)

      low : (i : ℕ) → i < n → slice_index ds i % 256 ^ k ≡ joined k n i (drop n bs)
      low i l = sym (digits_mod (slice_index ds i / 256 ^ k % 256) (mod-lt (slice_index ds i) (unit k))) ∙ ap (λ (x : ℕ). x % 256 ^ k) (same i l) ∙ digits_mod (slice_index bs i) (small i)

pub joined-from-length : (n i m : ℕ) (bs : List ℕ) → length (joined_from n i m bs) ≡ m
unfolding joined_from
joined-from-length n i zero bs = refl
joined-from-length n i (suc m) bs = ap suc (joined-from-length n (suc i) m bs)

pub joined-from-at : (n i m : ℕ) (bs : List ℕ) (j : ℕ) → j < m → slice_index (joined_from n i m bs) j ≡ joined 8 n (i + j) bs
unfolding joined_from
joined-from-at n i zero bs j l = absurd (omega arith)
joined-from-at n i (suc m) bs zero l = ap (λ (x : ℕ). joined 8 n x bs) (omega arith)
joined-from-at n i (suc m) bs (suc j) l = joined-from-at n (suc i) m bs j (omega arith) ∙ ap (λ (x : ℕ). joined 8 n x bs) (omega arith)

-- Eight planes of some words, joined, are the words.
pub joined-all : (ds : List ℕ) → Below (2 ^ 64) ds → joined_from (length ds) 0 (length ds) (planes 8 ds) ≡ ds
joined-all ds h = ext_get_or 0 _ ds (joined-from-length (length ds) 0 (length ds) (planes 8 ds))
    (λ i l. let li : i < length ds = omega (arith, joined-from-length (length ds) 0 (length ds) (planes 8 ds)) in
    joined-from-at (length ds) 0 (length ds) (planes 8 ds) i li ∙ ap (λ (x : ℕ). joined 8 (length ds) x (planes 8 ds)) (omega arith) ∙ joined-planes 8 ds i li
    ∙ mod-eq_of_lt (h i li))

anywhere : (bs : List ℕ) → Below 256 bs → (j : ℕ) → slice_index bs j < 256
anywhere bs h j = by_bool (nat_lt j (length bs)) (λ t. h j (ltb-true j (length bs) t))
    (λ t. rw (get_or-eq_default bs 0 (ltb-false j (length bs) t)) (omega arith))

module _ (n : ℕ) (bs : List ℕ) (h : Below 256 bs) where
  joined_at : (i : ℕ) → i < n → slice_index (joined_from n 0 n bs) i ≡ joined 8 n i bs
  joined_at i l = joined-from-at n 0 n bs i l ∙ ap (λ (x : ℕ). joined 8 n x bs) (omega arith)

  pub joined-below : Below (2 ^ 64) (joined_from n 0 n bs)
  joined-below i l = rw (joined_at i (omega (arith, joined-from-length n 0 n bs))) (joined_small n 8 i bs (anywhere bs h))

  -- And words that are joined from eight planes have these planes.
  pub planes-all : length bs ≡ 8 * n → planes 8 (joined_from n 0 n bs) ≡ bs
  planes-all lb = planes-joined n 8 bs (joined_from n 0 n bs) (joined-from-length n 0 n bs) lb (anywhere bs h)
      (λ i l. rw (joined_at i l) (mod-eq_of_lt (joined_small n 8 i bs (anywhere bs h))))
