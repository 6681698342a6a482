-- An asking that was given up without an append is never sent.
use Rattle.std.specs.Prelude.{ℕ, ◌<◌, ◌≤◌, ◌≡◌, refl, Bool, true, false, List, ◌⊎◌}
use Rattle.std.proofs.Common.{arith, sym, ap, subst, ◌∙◌, ⊎_elim}
use Rattle.chain.specs.Log.{put}
use Rattle.chain.proofs.Laws.Lists.{put_same, put_all}
use Rattle.sharing.specs.Places.{In}
use Rattle.sharing.specs.Sharing.{Machine, Asking, Append, Phase, idle, asked, waiting, halted, Controller, Denied, State, Move, ask, look, read, refuse, send, store, tell, leave, crash, halt, Run, here, on}
use Rattle.sharing.specs.SharingPromise.{OneAsking}
use Rattle.sharing.proofs.Laws.Invariant.{Invariant, PhaseRight, PhaseOnce, AskedRight}

module _ {M : Machine} where
  same-asking : (a b : Asking M) (l e : Bool) → asked a l ≡ asked b e → a ≡ b
  same-asking a b l e q = cc

  -- Nobody is asked for it, and nobody has sent it; and every later asking has a later time.
  abbrev Quit : Asking M → Phase M → Type 0
  Quit a p = (b : Asking M) (l : Bool) → p ≡ asked b l → OneAsking b a → ⊥

  pub record Gone (a : Asking M) (s : State M) : Type 0 where
    pub unsent : (m : Append M) → In m s.sent → OneAsking m.asking a → ⊥
    pub quit : (d : ℕ) → Quit a (s.controllers d).phase
    pub past : a.time < s.clock

  still : (a : Asking M) (s t : State M) (d : ℕ) (k : Controller M) → Gone a s → t.sent ≡ s.sent → t.controllers ≡ put s.controllers d k
      → s.clock < t.clock → Quit a k.phase → Gone a t
  still a s t d k g e q w o = record {
    unsent = λ m i. g.unsent m (subst (λ (l : List (Append M)). In m l) e i);
    quit = λ c. subst (λ (f : ℕ → Controller M). Quit a (f c).phase) (sym q)
        (put_all (λ _ x. Quit a x.phase) s.controllers d k o (λ j _. g.quit j) c);
    past = omega (arith, g.past);
  }

  module _ (base : M.Log) (a : Asking M) where
    move-gone : (s : State M) (d : ℕ) (t : State M) → Move base s d t → Gone a s → Gone a t
    move-gone s d t (ask x p) g = still a s t d _ g refl refl (omega arith)
        (λ b l e o. omega (arith, g.past, o.1, ap (λ (y : Asking M). y.time) (same-asking _ b false l e)))
    move-gone s d t (look n runs h w f) g = still a s t d _ g refl refl (omega arith) (g.quit d)
    move-gone s d t (read b l n p h e w) g = still a s t d _ g refl refl (omega arith)
        (λ y j q o. g.quit d b l p (subst (λ (z : Asking M). OneAsking z a) (sym (same-asking b y true j q)) o))
    move-gone s d t (refuse b p e) g = still a s t d _ g refl refl (omega arith) (λ y j q _. cc)
    move-gone s d t (send b l id p ok new) g = record {
      unsent = λ m i. ⊎_elim (λ (q : m ≡ _). λ o. g.quit d b l p (subst (λ (y : Append M). OneAsking y.asking a) q o)) (λ (h : In m s.sent). g.unsent m h) i;
      quit = put_all (λ _ x. Quit a x.phase) s.controllers d _ (λ y j q _. cc) (λ j _. g.quit j);
      past = omega (arith, g.past);
    }
    move-gone s d t (store m i q e) g = record { unsent = g.unsent; quit = g.quit; past = omega (arith, g.past) }
    move-gone s d t (tell m r p i e) g = still a s t d _ g refl refl (omega arith) (λ y j q _. cc)
    move-gone s d t (leave runs) g = still a s t d _ g refl refl (omega arith) (λ y j q _. cc)
    move-gone s d t crash g = still a s t d _ g refl refl (omega arith) (λ y j q _. cc)
    move-gone s d t halt g = still a s t d _ g refl refl (omega arith) (λ y j q _. cc)

    run-gone : (s t : State M) → Run base s t → Gone a s → Gone a t
    run-gone s t here g = g
    run-gone s t (on {t = u} c r m) g = move-gone u c t m (run-gone s u r g)

    module _ (s : State M) (v : Invariant base s) (c : ℕ) (l : Bool) (p : (s.controllers c).phase ≡ asked a l) where
      right : AskedRight s a × (a.asker ≡ c) × (l ≡ true → a.since ≤ (s.controllers c).known)
      right = subst (PhaseRight s c (s.controllers c).known) p (v.controllers c).phase

      fresh : ((n : Append M) → In n s.sent → OneAsking n.asking a → ⊥) × ((d : Denied M) → In d s.denied → OneAsking d.asking a → ⊥)
      fresh = subst (PhaseOnce s.sent s.denied) p (v.asks c)

      -- What another is asked for has another asker.
      others : (d : ℕ) → (d ≡ c → ⊥) → Quit a (s.controllers d).phase
      others d w b j q o = w (sym (subst (PhaseRight s d (s.controllers d).known) q (v.controllers d).phase).1 ∙ o.0 ∙ right.1)

      gone : (t : State M) (k : Controller M) → t.sent ≡ s.sent → t.controllers ≡ put s.controllers c k → s.clock < t.clock
          → Quit a k.phase → Gone a t
      gone t k e q w o = record {
        unsent = λ m i. fresh.0 m (subst (λ (y : List (Append M)). In m y) e i);
        quit = λ d. subst (λ (f : ℕ → Controller M). Quit a (f d).phase) (sym q)
            (put_all (λ _ x. Quit a x.phase) s.controllers c k o others d);
        past = omega (arith, right.0.time);
      }

      abbrev Rests : State M → Type 0
      Rests t = ((t.controllers c).phase ≡ idle) ⊎ ((t.controllers c).phase ≡ halted)

      no-rest : {P : Type 0} (t : State M) (b : Asking M) (j : Bool) → (t.controllers c).phase ≡ asked b j → Rests t → P
      no-rest t b j q = ⊎_elim (λ (e : (t.controllers c).phase ≡ idle). absurd cc) (λ (e : (t.controllers c).phase ≡ halted). absurd cc)

      pub gone-now : (t : State M) → Move base s c t → Rests t → Gone a t
      gone-now t (ask x q) o = absurd (cc (sym q ∙ p))
      gone-now t (look n runs h w f) o = no-rest t a l (ap (λ (k : Controller M). k.phase) (put_same s.controllers c _) ∙ p) o
      gone-now t (read b j n q h e w) o = no-rest t b true (ap (λ (k : Controller M). k.phase) (put_same s.controllers c _)) o
      gone-now t (refuse b q e) o = gone t _ refl refl (omega arith) (λ y j e _. cc)
      gone-now t (send b j id q ok new) o =
          let now : (t.controllers c).phase ≡ waiting _ = ap (λ (k : Controller M). k.phase) (put_same s.controllers c _) in
          ⊎_elim (λ (e : (t.controllers c).phase ≡ idle). absurd cc) (λ (e : (t.controllers c).phase ≡ halted). absurd cc) o
      gone-now t (store m i q e) o = no-rest t a l p o
      gone-now t (tell m r q i e) o = absurd (cc (sym q ∙ p))
      gone-now t (leave runs) o = gone t _ refl refl (omega arith) (λ y j e _. cc)
      gone-now t crash o = gone t _ refl refl (omega arith) (λ y j e _. cc)
      gone-now t halt o = gone t _ refl refl (omega arith) (λ y j e _. cc)

pub never-sent : {M : Machine} (base : M.Log) (s : State M) → Invariant base s → (c : ℕ) (a : Asking M) (l : Bool) → (s.controllers c).phase ≡ asked a l
    → (t : State M) → Move base s c t → ((t.controllers c).phase ≡ idle) ⊎ ((t.controllers c).phase ≡ halted) → (u : State M) → Run base t u
    → (m : Append M) → In m u.sent → OneAsking m.asking a → ⊥
never-sent base s v c a l p t m o u r = (run-gone base a t u r (gone-now base a s v c l p t m o)).unsent
