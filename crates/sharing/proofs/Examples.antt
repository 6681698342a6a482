-- A run in which two controllers race: both requests have rows, and the second is refused in its place, and told so.
use Rattle.std.specs.Prelude.{ℕ, zero, suc, ◌≡◌, refl, Bool, true, false, List, [], ◌∷◌}
use Rattle.std.proofs.Common.{arith, ap, ◌∙◌, inl, inr, ⊎_elim}
use Rattle.chain.specs.Log.{put}
use Rattle.sharing.specs.Places.{In}
use Rattle.sharing.specs.Sharing.{Machine, Row, replay, Append, Telling, State, Free, FreeFrom, ask, look, send, store, tell, here, on, Reachable}
use Rattle.sharing.proofs.Laws.Invariant.{same-append}

-- A log that takes one request, and refuses all others.
abbrev pub toy : Machine
toy = record { Log = Bool; Request = Bool; Answer = Bool; after = λ _ _. true; answer = λ _ b. b; refuses = λ a. a }

only : (x : Row toy) (id : ℕ) → (x.id ≡ id → ⊥) → Free (x ∷ []) id
only x id n zero r h e = n (ap (λ (y : Row toy). y.id) h ∙ e)
only x id n (suc i) r h e = h

first-other : (x : Row toy) (rows : List (Row toy)) (id : ℕ) → (x.id ≡ id → ⊥) → FreeFrom (x ∷ rows) 0 1 id
first-other x rows id n zero r h j w e = n (ap (λ (y : Row toy). y.id) h ∙ e)
first-other x rows id n (suc i) r h j w e = absurd (omega arith)

pub race : (s : State toy) × Reachable {M = toy} false s × ((k : Telling toy) × In k s.told × (k.answer ≡ true))
unfolding put replay
race = (
  _,
  on 1 (on 1 (on 1 (on 0 (on 0 (on 1 (on 0 (on 1 (on 0 here
      (ask true refl))
      (ask true refl))
      (send _ false 7 refl refl (λ m i e. i)))
      (send _ false 8 refl refl (λ m i e. ⊎_elim (λ (q : m ≡ _). omega (arith, ap (λ (x : Append toy). x.id) q)) (λ (h : In m []). h) i)))
      (store _ (inr (inl refl)) refl (λ i r h e. h)))
      (tell _ _ refl refl refl))
      (store _ (inl refl) refl (only _ 8 (λ e. omega arith))))
      (look 1 tt (omega arith) (omega arith) (λ m e. first-other _ (record { id = 8; request = true } ∷ []) m.id (λ q. omega (arith, q, ap (λ (x : Append toy). x.id) (same-append _ m e))))))
      (tell _ _ refl refl refl),
  (_, inl refl, refl),
)
