-- Well-formed marks, pair by pair.
use Rattle.std.specs.Prelude.{ℕ, ◌≡◌, refl, Bool, true, false, ◌&&◌, List, [], ◌∷◌, map, length}
use Rattle.std.proofs.Common.{arith}
use borrow.Author.Tests.{eq-eqb, ne_eqb}
use Rattle.chain.specs.Marks.{Pair, among, all_zero, fits, well_marked}
use Rattle.marks.specs.Pairs.{pair_in}

and-false : (a : Bool) → (a && false) ≡ false
and-false true = refl
and-false false = refl

module _ (count : ℕ) (p : Pair) (ps : List Pair) where
  pub from_zero : p.name ≡ 0 → well_marked count (p ∷ ps) ≡ all_zero (p ∷ ps)
  unfolding well_marked
  from_zero q = rw (eq-eqb p.name 0 q)

  module _ (some : p.name ≡ 0 → ⊥) where
    pub wrong-count : fits count p.word ≡ false → well_marked count (p ∷ ps) ≡ false
    unfolding well_marked
    wrong-count f = rw (ne_eqb p.name 0 some, f)

    pub twice : among p.name ps ≡ true → well_marked count (p ∷ ps) ≡ false
    unfolding well_marked
    twice t = rw (ne_eqb p.name 0 some, t, and-false (fits count p.word))

    pub well-turn : fits count p.word ≡ true → among p.name ps ≡ false → well_marked count (p ∷ ps) ≡ well_marked count ps
    unfolding well_marked
    well-turn t f = rw (ne_eqb p.name 0 some, t, f)

pub well-end : (count : ℕ) (cs : List (List ℕ)) → length cs ≡ 0 → true ≡ well_marked count (map pair_in cs)
unfolding well_marked
well-end count [] e = refl
well-end count (c ∷ cs) e = absurd (omega arith)
