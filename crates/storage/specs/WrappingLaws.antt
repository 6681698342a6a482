-- Differences and sums that wrap undo each other.
use Rattle.std.specs.Prelude.{◌≡◌, ℕ, zero, suc, ◌^◌, ◌<◌, List, [], ◌∷◌, length, refl}
use Rattle.std.proofs.Common.{arith, ap, ◌∙◌}
use Rattle.storage.specs.Storage.{Below, minus, plus, differences_after, differences, sums_after}

first-stays : (w : ℕ) → w < 2 ^ 64 → minus w 0 ≡ w
first-stays w l = omega arith

sum-of-difference : (a b : ℕ) → a < 2 ^ 64 → b < 2 ^ 64 → plus b (minus a b) ≡ a
sum-of-difference a b la lb = omega arith

difference-of-sum : (d b : ℕ) → d < 2 ^ 64 → b < 2 ^ 64 → minus (plus b d) b ≡ d
difference-of-sum d b ld lb = omega arith

tail : (m w : ℕ) (ws : List ℕ) → Below m (w ∷ ws) → Below m ws
tail m w ws h i l = h (suc i) (omega arith)

pub differences-from : (ws : List ℕ) → Below (2 ^ 64) ws → differences ws ≡ differences_after 0 ws
unfolding differences differences_after
differences-from [] h = refl
differences-from (w ∷ ws) h = rw (first-stays w (h 0 (omega arith)))

sums-after : (b : ℕ) (ws : List ℕ) → b < 2 ^ 64 → Below (2 ^ 64) ws → sums_after b (differences_after b ws) ≡ ws
unfolding sums_after differences_after
sums-after b [] lb h = refl
sums-after b (w ∷ ws) lb h = let l : w < 2 ^ 64 = h 0 (omega arith) in
    rw (sum-of-difference w b l lb) (ap (λ (xs : List ℕ). w ∷ xs) (sums-after w ws l (tail (2 ^ 64) w ws h)))

differences-after : (b : ℕ) (ds : List ℕ) → b < 2 ^ 64 → Below (2 ^ 64) ds → differences_after b (sums_after b ds) ≡ ds
unfolding sums_after differences_after
differences-after b [] lb h = refl
differences-after b (d ∷ ds) lb h = let l : d < 2 ^ 64 = h 0 (omega arith) in
    rw (difference-of-sum d b l lb) (ap (λ (xs : List ℕ). d ∷ xs) (differences-after (plus b d) ds (omega arith) (tail (2 ^ 64) d ds h)))

pub sums-differences : (ws : List ℕ) → Below (2 ^ 64) ws → sums_after 0 (differences ws) ≡ ws
sums-differences ws h = rw (differences-from ws h) (sums-after 0 ws (omega arith) h)

sums-below : (b : ℕ) (ds : List ℕ) → Below (2 ^ 64) (sums_after b ds)
unfolding sums_after
sums-below b [] i l = omega arith
sums-below b (d ∷ ds) zero l = omega arith
sums-below b (d ∷ ds) (suc i) l = sums-below (plus b d) ds i (omega arith)

pub differences-sums : (ds : List ℕ) → Below (2 ^ 64) ds → differences (sums_after 0 ds) ≡ ds
differences-sums ds h = differences-from (sums_after 0 ds) (sums-below 0 ds) ∙ differences-after 0 ds (omega arith) h

after-length : (b : ℕ) (ws : List ℕ) → length (differences_after b ws) ≡ length ws
unfolding differences_after
after-length b [] = refl
after-length b (w ∷ ws) = ap suc (after-length w ws)

pub differences-length : (ws : List ℕ) → length (differences ws) ≡ length ws
unfolding differences
differences-length [] = refl
differences-length (w ∷ ws) = ap suc (after-length w ws)

after-below : (b : ℕ) (ws : List ℕ) → Below (2 ^ 64) (differences_after b ws)
unfolding differences_after
after-below b [] i l = omega arith
after-below b (w ∷ ws) zero l = omega arith
after-below b (w ∷ ws) (suc i) l = after-below w ws i (omega arith)

pub differences-below : (ws : List ℕ) → Below (2 ^ 64) ws → Below (2 ^ 64) (differences ws)
differences-below ws h = rw (differences-from ws h) (after-below 0 ws)

pub sums-length : (b : ℕ) (ds : List ℕ) → length (sums_after b ds) ≡ length ds
unfolding sums_after
sums-length b [] = refl
sums-length b (d ∷ ds) = ap suc (sums-length (plus b d) ds)
