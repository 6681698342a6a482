-- The promise of EndingPromise holds.
use Rattle.std.specs.Prelude.{ℕ, zero, suc, ◌<◌, ◌≤◌, ◌≡◌, refl, Bool, true, false, List, ◌⊎◌, length}
use Rattle.std.proofs.Common.{arith, sym, ap, subst, ◌∙◌, inl, inr}
use Rattle.checks.specs.Test.{at_most}
use Rattle.checks.specs.TestLaws.{by_bool, by-test}
use Rattle.sharing.specs.declared.controller.Phase.TheVariants as phases
use Rattle.sharing.specs.declared.controller.Seen.{Seen}
use Rattle.sharing.specs.declared.controller.Seen.TheVariants as seen
use Rattle.sharing.specs.declared.controller.Act.{Act}
use Rattle.sharing.specs.declared.controller.Act.TheVariants as acts
use Rattle.sharing.specs.declared.controller.Turn.{Turn}
use Rattle.sharing.specs.Turns.{when_accepted, turn}
use Rattle.sharing.proofs.Laws.Turns.{accepted-some, next-own, placed-next, placed-further}
use Rattle.sharing.specs.Places.{At, In}
use Rattle.sharing.proofs.Laws.Places.{at_less, at_new}
use Rattle.sharing.specs.Sharing.{Machine, Row, Asking, Append, row, Phase, idle, asked, waiting, halted, Controller, State, with_row, Free, store, Reachable, Around, Alone, none, more}
use Rattle.sharing.proofs.Laws.Invariant.{Invariant, PhaseRight, AskedRight, Ahead, apart-phases, same-append, move-invariant, reachable-invariant}
use Rattle.sharing.proofs.SharingTheorem.{new-id, find-id, around-same, around-invariant, around-grows}
use Rattle.sharing.specs.Driving.{shown, Sees, reads-asked, comes-to, places, accepts, refuses, Stays, Turned}
use Rattle.sharing.specs.Ending.{Served, takes-it, takes-not, reads_on, reads-past, reads-up-to, stores-it, stored-it, Tells, Ends}
use Rattle.sharing.specs.EndingPromise.{TurnsEnd}

alone-invariant : {M : Machine} (base : M.Log) (c : ℕ) (s t : State M) (i : ℕ) → Invariant base s → Alone base c s i t → Invariant base t
alone-invariant base c s t i v none = v
alone-invariant base c s t i v (more {n = n} {t = u} h m) = move-invariant base u c (alone-invariant base c s u n v h) t m

-- What a shown phase, with what the controller stays with, says of the phase.
is-asked : {M : Machine} (a : Asking M) (l : Bool) (q : Phase M) → Stays (asked a l) q → shown q ≡ phases.Asked → q ≡ asked a false
is-asked a l idle h e = let z : ◌≡◌ {A = ℕ} 0 1 = cc in absurd (omega arith)
is-asked {M} a l (asked b false) h e = ap (λ (x : Asking M). asked x false) h
is-asked a l (asked b true) h e = let z : ◌≡◌ {A = ℕ} 0 1 = cc in absurd (omega arith)
is-asked a l (waiting m) h e = let z : ◌≡◌ {A = ℕ} 0 1 = cc in absurd (omega arith)
is-asked a l halted h e = let z : ◌≡◌ {A = ℕ} 0 1 = cc in absurd (omega arith)

is-current : {M : Machine} (a : Asking M) (l : Bool) (q : Phase M) → Stays (asked a l) q → shown q ≡ phases.Current → q ≡ asked a true
is-current a l idle h e = let z : ◌≡◌ {A = ℕ} 0 1 = cc in absurd (omega arith)
is-current a l (asked b false) h e = let z : ◌≡◌ {A = ℕ} 0 1 = cc in absurd (omega arith)
is-current {M} a l (asked b true) h e = ap (λ (x : Asking M). asked x true) h
is-current a l (waiting m) h e = let z : ◌≡◌ {A = ℕ} 0 1 = cc in absurd (omega arith)
is-current a l halted h e = let z : ◌≡◌ {A = ℕ} 0 1 = cc in absurd (omega arith)

sent-now : {M : Machine} (q : Phase M) (id : ℕ) → shown q ≡ phases.Waiting id → (m : Append M) × (q ≡ waiting m)
sent-now idle id e = let z : ◌≡◌ {A = ℕ} 0 1 = cc in absurd (omega arith)
sent-now (asked a false) id e = let z : ◌≡◌ {A = ℕ} 0 1 = cc in absurd (omega arith)
sent-now (asked a true) id e = let z : ◌≡◌ {A = ℕ} 0 1 = cc in absurd (omega arith)
sent-now (waiting m) id e = (m, refl)
sent-now halted id e = let z : ◌≡◌ {A = ℕ} 0 1 = cc in absurd (omega arith)

still-waits : {M : Machine} (m : Append M) (q : Phase M) (id : ℕ) → Stays (waiting m) q → shown q ≡ phases.Waiting id → q ≡ waiting m
still-waits m idle id h e = let z : ◌≡◌ {A = ℕ} 0 1 = cc in absurd (omega arith)
still-waits m (asked a l) id h e = absurd h
still-waits m (waiting n) id h e = ap waiting h
still-waits m halted id h e = let z : ◌≡◌ {A = ℕ} 0 1 = cc in absurd (omega arith)

ends_now : {M : Machine} (base : M.Log) (c n : ℕ) (s : State M) (a : Act) → Tells a → Ends base c n s a
ends_now base c zero s a h = h
ends_now base c (suc n) s a h = inl h

module _ {M : Machine} (base : M.Log) (c : ℕ) where
  -- What follows a turn, by what is known of it.
  abbrev Then : ℕ → State M → Seen → Type 0
  Then n u o = Sees u c o × ((w : State M) → Turned base u c (u.controllers c).phase o w → Ends base c n w (turn (shown (u.controllers c).phase) o).act)

  after_turn : (n : ℕ) (u : State M) → Invariant base u → (q : Phase M) → (u.controllers c).phase ≡ q → (o : Seen) → Sees u c o
      → ((w : State M) → Invariant base w → Turned base u c q o w → Ends base c n w (turn (shown q) o).act) → Then n u o
  after_turn n u v q p o x f = (
    x,
    λ w t. subst (λ (q : Phase M). Ends base c n w (turn (shown q) o).act) (sym p)
        (f w (alone-invariant base c u w t.moves.0 v t.moves.1) (subst (λ (q : Phase M). Turned base u c q o w) p t)),
  )

  abbrev phase-after : (s t : State M) → Around base c s t → (t.controllers c).phase ≡ (s.controllers c).phase
  phase-after s t r = ap (λ (k : Controller M). k.phase) (around-same base c s t r)

  waits : (s : State M) → Invariant base s → (m : Append M) → (s.controllers c).phase ≡ waiting m
      → In m s.sent × (m.asking.asker ≡ c) × Ahead s.rows (s.controllers c).known m
  waits s v m p = subst (PhaseRight s c (s.controllers c).known) p (v.controllers c).phase

  -- Its row is there: a read comes to it.
  module _ (n : ℕ) (s : State M) (v : Invariant base s) (m : Append M) (p : (s.controllers c).phase ≡ waiting m) (i : ℕ) (r : Row M)
      (here : At s.rows i r) (e : r.id ≡ m.id) where
    module _ (t : State M) (w : Invariant base t) (q : (t.controllers c).phase ≡ waiting m) (there : At t.rows i r) where
      read-case : (a : Act) → a ≡ acts.Read → (o : Seen) (u : State M) → Served base c s t a o u → Then n u o
      read-case a x o u (takes-it b l id y some ok new) = apart-phases b l m (sym y ∙ q)
      read-case a x o u (takes-not b l y bad) = apart-phases b l m (sym y ∙ q)
      read-case a x o u (reads_on b l k y h f g) = apart-phases b l m (sym y ∙ q)
      read-case a x o u (reads-past d k y h f g free) = absurd (free i r there
          ((waits t w m q).2 i r there e) (omega (arith, at_less s.rows i r here)) (e ∙ ap (λ (b : Append M). b.id) (same-append m d (sym q ∙ y))))
      read-case a x o u (reads-up-to d k b y h free g z) = after_turn n t w (waiting d) y (seen.Next k b.id) (comes-to d k b y h free g)
          (λ u _ _. subst (λ (y : Turn). Ends base c n u y.act) (sym (next-own d.id b.id z)) (ends_now base c n u acts.Tell tt))
      read-case a x o u (stores-it d y free) = let z : ◌≡◌ {A = ℕ} 0 1 = cc in absurd (omega arith)
      read-case a x o u (stored-it d j b y g z) = let z : ◌≡◌ {A = ℕ} 0 1 = cc in absurd (omega arith)

    from-reading-own : Ends base c (suc n) s acts.Read
    from-reading-own = inr (λ t a. both t (around-invariant base c s t v a) (phase-after s t a ∙ p) ((around-grows base c s t a).stands i r here))
      where
        both : (t : State M) → Invariant base t → (t.controllers c).phase ≡ waiting m → At t.rows i r
            → ((o : Seen) × (u : State M) × Served base c s t acts.Read o u) × ((o : Seen) (u : State M) → Served base c s t acts.Read o u → Then n u o)
        both t w q there = (
          (
            seen.Next i r.id,
            t,
            reads-up-to m i r q ((waits t w m q).2 i r there e)
                (λ j y z _ less g. omega (arith, w.one-row i j r y there z (e ∙ sym g))) there e,
          ),
          read-case t w q there acts.Read refl,
        )

  -- It sends its append, the first time or again.
  module _ (n : ℕ) (s : State M) (m : Append M) where
    after-place : (u : State M) → Invariant base u → (u.controllers c).phase ≡ waiting m → (i : ℕ) (r : Row M) → At u.rows i r → r.id ≡ m.id
        → Then (suc n) u (seen.Placed (u.controllers c).known i)
    after-place u v q i r there e = after_turn (suc n) u v (waiting m) q (seen.Placed (u.controllers c).known i) (places m i r q there e) (λ w x t.
        by-test (at_most i (u.controllers c).known)
        (λ (h : i ≤ (u.controllers c).known). subst (λ (y : Turn). Ends base c (suc n) w y.act) (sym (placed-next m.id (u.controllers c).known i h))
        (ends_now base c (suc n) w acts.Tell tt))
        (λ (h : (u.controllers c).known < i).
        let same : turn (shown (waiting m)) (seen.Placed (u.controllers c).known i) ≡ record { phase = phases.Waiting m.id; act = acts.Read } =
        placed-further m.id (u.controllers c).known i h in
        subst (λ (y : Turn). Ends base c (suc n) w y.act) (sym same)
        (from-reading-own n w x m (still-waits m (w.controllers c).phase m.id t.asking (t.phase ∙ ap (λ (y : Turn). y.phase) same)) i r
        (subst (λ (l : List (Row M)). At l i r) (sym t.rows) there) e)))

    append-case : (t : State M) → Invariant base t → (t.controllers c).phase ≡ waiting m → (a : Act) → a ≡ acts.Append
        → (o : Seen) (u : State M) → Served base c s t a o u → Then (suc n) u o
    append-case t w q a x o u (takes-it b l id y some ok new) = apart-phases b l m (sym y ∙ q)
    append-case t w q a x o u (takes-not b l y bad) = apart-phases b l m (sym y ∙ q)
    append-case t w q a x o u (reads_on b l k y h f g) = apart-phases b l m (sym y ∙ q)
    append-case t w q a x o u (reads-past d k y h f g free) = let z : ◌≡◌ {A = ℕ} 0 1 = cc in absurd (omega arith)
    append-case t w q a x o u (reads-up-to d k b y h free g e) = let z : ◌≡◌ {A = ℕ} 0 1 = cc in absurd (omega arith)
    append-case t w q a x o u (stores-it d y free) =
        let same : d ≡ m = same-append d m (sym y ∙ q) in
        let z = waits t w d y in
        after-place (with_row d t) (move-invariant base t c w (with_row d t) (store d z.0 z.1 free)) q (length t.rows) (row d) (at_new t.rows (row d))
        (ap (λ (b : Append M). b.id) same)
    append-case t w q a x o u (stored-it d j b y g z) = after-place t w q j b g (z ∙ ap (λ (b : Append M). b.id) (same-append d m (sym y ∙ q)))

    from-appending : Invariant base s → (s.controllers c).phase ≡ waiting m → Ends base c (suc (suc n)) s acts.Append
    from-appending v p = inr (λ t a. both t (around-invariant base c s t v a) (phase-after s t a ∙ p))
      where
        way : (t : State M) → (t.controllers c).phase ≡ waiting m → ((i : ℕ) × (r : Row M) × At t.rows i r × (r.id ≡ m.id)) ⊎ Free t.rows m.id
            → (o : Seen) × (u : State M) × Served base c s t acts.Append o u
        way t q (inl x) = (_, t, stored-it m x.0 x.1 q x.2 x.3)
        way t q (inr f) = (_, _, stores-it m q f)

        both : (t : State M) → Invariant base t → (t.controllers c).phase ≡ waiting m
            → ((o : Seen) × (u : State M) × Served base c s t acts.Append o u) × ((o : Seen) (u : State M) → Served base c s t acts.Append o u → Then (suc n) u o)
        both t w q = (way t q (find-id t.rows m.id), append-case t w q acts.Append refl)

  -- It tries the request on its copy, made of rows that were or were not read since the asking.
  module _ (n : ℕ) (s : State M) (a : Asking M) (l : Bool) where
    abbrev Ways : ℕ → State M → Act → Type 0
    Ways n t x = ((o : Seen) × (u : State M) × Served base c s t x o u) × ((o : Seen) (u : State M) → Served base c s t x o u → Then n u o)

    -- What a turn comes to where the request is accepted, and where it is refused.
    abbrev OnAccepted : State M → Type 0
    OnAccepted t = (id : ℕ) → (id ≡ 0 → ⊥) → (w : State M) → Invariant base w → Turned base t c (asked a l) (seen.Accepted id) w
        → Ends base c n w (turn (shown (asked a l)) (seen.Accepted id)).act

    abbrev OnRefused : State M → Type 0
    OnRefused t = (w : State M) → Invariant base w → Turned base t c (asked a l) seen.Refused w → Ends base c n w (turn (shown (asked a l)) seen.Refused).act

    take-case : (t : State M) → Invariant base t → (t.controllers c).phase ≡ asked a l → OnAccepted t → OnRefused t → (x : Act) → x ≡ acts.Try
        → (o : Seen) (u : State M) → Served base c s t x o u → Then n u o
    take-case t w q f g x e o u (takes-it b k id y some ok new) = after_turn n t w (asked a l) q (seen.Accepted id) (accepts b k id y some ok new) (f id some)
    take-case t w q f g x e o u (takes-not b k y bad) = after_turn n t w (asked a l) q seen.Refused (refuses b k y bad) g
    take-case t w q f g x e o u (reads_on b k j y h i z) = let z : ◌≡◌ {A = ℕ} 0 1 = cc in absurd (omega arith)
    take-case t w q f g x e o u (reads-past d k y h i z free) = let z : ◌≡◌ {A = ℕ} 0 1 = cc in absurd (omega arith)
    take-case t w q f g x e o u (reads-up-to d k b y h free i z) = let z : ◌≡◌ {A = ℕ} 0 1 = cc in absurd (omega arith)
    take-case t w q f g x e o u (stores-it d y free) = let z : ◌≡◌ {A = ℕ} 0 1 = cc in absurd (omega arith)
    take-case t w q f g x e o u (stored-it d j b y i z) = let z : ◌≡◌ {A = ℕ} 0 1 = cc in absurd (omega arith)

    takes : (t : State M) → (t.controllers c).phase ≡ asked a l → (o : Seen) × (u : State M) × Served base c s t acts.Try o u
    takes t q = by_bool (M.refuses (M.answer a.request (t.controllers c).copy))
        (λ h. (_, t, takes-not a l q h))
        (λ h. let k = new-id t.sent in (_, t, takes-it a l k.0 q (λ e. omega (arith, k.2, e)) h (λ m i e. omega (arith, k.1 m i))))

    from-taking : Invariant base s → (s.controllers c).phase ≡ asked a l → ((t : State M) → OnAccepted t) → ((t : State M) → OnRefused t) → Ends base c (suc n) s acts.Try
    from-taking v p f g = inr (λ t r. let q : (t.controllers c).phase ≡ asked a l = phase-after s t r ∙ p in
        (takes t q, take-case t (around-invariant base c s t v r) q (f t) (g t) acts.Try refl))

  -- The request is accepted, and there is an id: it is sent.
  on-accepted : (n id : ℕ) → (id ≡ 0 → ⊥) → (q : Phase M) → turn (shown q) (seen.Accepted id) ≡ when_accepted id → (t w : State M) → Invariant base w
      → Turned base t c q (seen.Accepted id) w → Ends base c (suc (suc n)) w (turn (shown q) (seen.Accepted id)).act
  on-accepted n id some q e t w x y =
      let same : turn (shown q) (seen.Accepted id) ≡ record { phase = phases.Waiting id; act = acts.Append } = e ∙ accepted-some id some in
      let m = sent-now (w.controllers c).phase id (y.phase ∙ ap (λ (z : Turn). z.phase) same) in
      subst (λ (z : Turn). Ends base c (suc (suc n)) w z.act) (sym same) (from-appending n w m.0 x m.1)

  from-current : (n : ℕ) (s : State M) → Invariant base s → (a : Asking M) → (s.controllers c).phase ≡ asked a true → Ends base c (suc (suc (suc n))) s acts.Try
  from-current n s v a p = from-taking (suc (suc n)) s a true v p
      (λ t id some w x y. on-accepted n id some (asked a true) refl t w x y)
      (λ t w x y. ends_now base c (suc (suc n)) w acts.Refuse tt)

  -- It reads after the asking.
  module _ (n : ℕ) (s : State M) (v : Invariant base s) (a : Asking M) (p : (s.controllers c).phase ≡ asked a false) where
    module _ (t : State M) (w : Invariant base t) (q : (t.controllers c).phase ≡ asked a false) where
      since : a.since ≤ length s.rows
      since = let o : AskedRight s a × (a.asker ≡ c) × (false ≡ true → a.since ≤ (s.controllers c).known) =
          subst (PhaseRight s c (s.controllers c).known) p (v.controllers c).phase in o.0.since

      fresh-case : (x : Act) → x ≡ acts.Read → (o : Seen) (u : State M) → Served base c s t x o u → Then (suc (suc (suc n))) u o
      fresh-case x e o u (takes-it b k id y some ok new) = let z : ◌≡◌ {A = ℕ} 0 1 = cc in absurd (omega arith)
      fresh-case x e o u (takes-not b k y bad) = let z : ◌≡◌ {A = ℕ} 0 1 = cc in absurd (omega arith)
      fresh-case x e o u (reads_on b k j y h i z) = after_turn (suc (suc (suc n))) t w (asked a false) q (seen.Read j)
          (reads-asked a false j q h (omega (arith, since)) z)
          (λ u x y. from-current n u x a (is-current a false (u.controllers c).phase y.asking y.phase))
      fresh-case x e o u (reads-past d k y h i z free) = apart-phases a false d (sym q ∙ y)
      fresh-case x e o u (reads-up-to d k b y h free i z) = apart-phases a false d (sym q ∙ y)
      fresh-case x e o u (stores-it d y free) = let z : ◌≡◌ {A = ℕ} 0 1 = cc in absurd (omega arith)
      fresh-case x e o u (stored-it d j b y i z) = let z : ◌≡◌ {A = ℕ} 0 1 = cc in absurd (omega arith)

    from-reading : Ends base c (suc (suc (suc (suc n)))) s acts.Read
    from-reading = inr (λ t r. let q : (t.controllers c).phase ≡ asked a false = phase-after s t r ∙ p in
        let w : Invariant base t = around-invariant base c s t v r in (
          (_, t, reads_on a false (length t.rows) q (w.controllers c).known (around-grows base c s t r).longer (omega arith)),
          fresh-case t w q acts.Read refl,
        ))

  from-asked : (n : ℕ) (s : State M) → Invariant base s → (a : Asking M) → (s.controllers c).phase ≡ asked a false
      → Ends base c (suc (suc (suc (suc (suc n))))) s acts.Try
  from-asked n s v a p = from-taking (suc (suc (suc (suc n)))) s a false v p
      (λ t id some w x y. on-accepted (suc (suc n)) id some (asked a false) refl t w x y)
      (λ t w x y. from-reading n w x a (is-asked a false (w.controllers c).phase y.asking y.phase))

pub turns-end : {M : Machine} (base : M.Log) (s : State M) → Reachable base s → TurnsEnd base s
turns-end base s r = record {
  asked = λ c a p. from-asked base c 0 s (reachable-invariant base s r) a p;
  waiting = λ c m p. from-appending base c 0 s m (reachable-invariant base s r) p;
}
