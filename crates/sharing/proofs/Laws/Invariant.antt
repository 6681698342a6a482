-- What holds after every run of the shared log.
use Rattle.std.specs.Prelude.{ℕ, zero, suc, ◌+◌, ◌<◌, ◌≤◌, ◌≡◌, refl, Bool, true, false, List, [], ◌∷◌, ◌++◌, ◌⊎◌, length, take, drop}
use Rattle.std.proofs.Common.{arith, sym, ap, subst, ◌∙◌, inl, inr, ⊎_elim, length-append, take-append-drop, take-take}
use Rattle.std.proofs.lemmas.Bool.{false≢true}
use Rattle.std.proofs.lemmas.List.{take-append-le}
use Rattle.checks.specs.Test.{same, less}
use Rattle.checks.specs.TestLaws.{by-test}
use Rattle.chain.specs.Log.{put}
use Rattle.chain.proofs.Laws.Lists.{put_same, put_other, put_all}
use Rattle.sharing.specs.Places.{At, In}
use Rattle.sharing.proofs.Laws.Places.{at_less, at_some, at-append, at-cases, at_one, in_right}
use Rattle.sharing.specs.Sharing.{Machine, Refuses, Row, replay, log_at, Asking, Append, row, Phase, idle, asked, waiting, halted, Controller, Telling, Denied, State, initial, with_controller, with_row, with_sent, with_told, with_denied, with_forgotten, in_phase, reading, passing, starting, pending, asking, append, telling, denial, Free, FreeFrom, Move, ask, look, read, refuse, send, store, tell, leave, crash, halt, Run, here, on, Reachable, Around, nothing, other, late}
use Rattle.sharing.specs.SharingPromise.{OneAsking, DeniedApart}

-- What was asked, and what was told before that.
pub record AskedRight {M : Machine} (s : State M) (a : Asking M) : Type 0 where
  pub since : a.since ≤ length s.rows
  pub time : a.time < s.clock
  pub earlier : (k : Telling M) → In k s.told → k.time < a.time → k.place < a.since

-- The own row, if it is there, comes after the rows that are known.
abbrev pub Ahead : {M : Machine} → List (Row M) → ℕ → Append M → Type 0
Ahead {M} rows n m = (i : ℕ) (r : Row M) → At rows i r → r.id ≡ m.id → n ≤ i

abbrev pub PhaseRight : {M : Machine} → State M → ℕ → ℕ → Phase M → Type 0
PhaseRight s c n idle = Unit {0}
PhaseRight s c n (asked a l) = AskedRight s a × (a.asker ≡ c) × (l ≡ true → a.since ≤ n)
PhaseRight s c n (waiting m) = In m s.sent × (m.asking.asker ≡ c) × Ahead s.rows n m
PhaseRight s c n halted = Unit {0}

pub record ControllerRight {M : Machine} (base : M.Log) (s : State M) (c : ℕ) (k : Controller M) : Type 0 where
  pub known : k.known ≤ length s.rows
  pub copy : k.copy ≡ log_at base s.rows k.known
  pub phase : PhaseRight s c k.known k.phase

pub record ToldRight {M : Machine} (base : M.Log) (s : State M) (k : Telling M) : Type 0 where
  pub sent : In k.append s.sent
  pub stands : At s.rows k.place (row k.append)
  pub answer : k.answer ≡ M.answer k.append.asking.request (log_at base s.rows k.place)
  pub time : k.time < s.clock

pub record DeniedRight {M : Machine} (base : M.Log) (s : State M) (d : Denied M) : Type 0 where
  pub from : d.asking.since ≤ d.known
  pub to : d.known ≤ length s.rows
  pub answer : d.answer ≡ M.answer d.asking.request (log_at base s.rows d.known)
  pub refused : M.refuses d.answer ≡ true
  pub time : d.asking.time < s.clock

-- Where an append that was sent has come to.
pub data Owned {M : Machine} (s : State M) (m : Append M) : Type 0 where
  told : (k : Telling M) → In k s.told → k.append ≡ m → Owned s m
  pends : (s.controllers m.asking.asker).phase ≡ waiting m → Owned s m
  forgotten : In m s.forgotten → Owned s m

-- No two of a list of tellings are of one append.
abbrev pub Apart : {M : Machine} → List (Telling M) → Type 0
Apart [] = Unit {0}
Apart {M} (a ∷ l) = ((k : Telling M) → In k l → k.append.id ≡ a.append.id → ⊥) × Apart l

-- What a controller is asked for was not sent yet, and not denied.
abbrev pub PhaseOnce : {M : Machine} → List (Append M) → List (Denied M) → Phase M → Type 0
PhaseOnce sent ds idle = Unit {0}
PhaseOnce {M} sent ds (asked a l) = ((n : Append M) → In n sent → OneAsking n.asking a → ⊥) × ((d : Denied M) → In d ds → OneAsking d.asking a → ⊥)
PhaseOnce sent ds (waiting m) = Unit {0}
PhaseOnce sent ds halted = Unit {0}

pub record Invariant {M : Machine} (base : M.Log) (s : State M) : Type 0 where
  pub sent : (m : Append M) → In m s.sent → AskedRight s m.asking
  pub unique : (m n : Append M) → In m s.sent → In n s.sent → m.id ≡ n.id → m ≡ n
  pub rows : (i : ℕ) (r : Row M) → At s.rows i r → (m : Append M) × In m s.sent × (row m ≡ r) × (m.asking.since ≤ i)
  pub one-row : (i j : ℕ) (r q : Row M) → At s.rows i r → At s.rows j q → r.id ≡ q.id → i ≡ j
  pub controllers : (c : ℕ) → ControllerRight base s c (s.controllers c)
  pub told : (k : Telling M) → In k s.told → ToldRight base s k
  pub apart : Apart s.told
  pub pending : (c : ℕ) (m : Append M) → (s.controllers c).phase ≡ waiting m → (k : Telling M) → In k s.told → k.append.id ≡ m.id → ⊥
  pub owned : (m : Append M) → In m s.sent → Owned s m
  pub denied : (d : Denied M) → In d s.denied → DeniedRight base s d
  pub denied-apart : DeniedApart s.denied
  pub unsent : (d : Denied M) → In d s.denied → (m : Append M) → In m s.sent → OneAsking m.asking d.asking → ⊥
  pub forgotten : length s.forgotten ≤ s.crashes
  pub asks : (c : ℕ) → PhaseOnce s.sent s.denied (s.controllers c).phase
  pub once : (m n : Append M) → In m s.sent → In n s.sent → OneAsking m.asking n.asking → m ≡ n

-- The rows only grow.
pub record Grows {M : Machine} (old new : List (Row M)) : Type 0 where
  pub longer : length old ≤ length new
  pub same : (n : ℕ) → n ≤ length old → take n new ≡ take n old
  pub stands : (i : ℕ) (r : Row M) → At old i r → At new i r

pub grows-not : {M : Machine} (rows : List (Row M)) → Grows rows rows
grows-not rows = record { longer = omega arith; same = λ n h. refl; stands = λ i r h. h }

pub grows_one : {M : Machine} (rows : List (Row M)) (r : Row M) → Grows rows (rows ++ (r ∷ []))
grows_one rows r = record {
  longer = omega (arith, length-append rows (r ∷ []));
  same = λ n h. take-append-le n rows (r ∷ []) h;
  stands = λ i q h. at-append rows (r ∷ []) i q h;
}

-- A later state: what is said of an earlier one still holds.
pub record Later {M : Machine} (s t : State M) : Type 0 where
  pub clock : s.clock ≤ t.clock
  pub rows : Grows s.rows t.rows
  pub sent : (m : Append M) → In m s.sent → In m t.sent
  pub told : (k : Telling M) → In k t.told → In k s.told ⊎ (s.clock ≤ k.time)

module _ {M : Machine} (base : M.Log) {s t : State M} (l : Later s t) where
  pub same_log : (n : ℕ) → n ≤ length s.rows → log_at base t.rows n ≡ log_at base s.rows n
  same_log n h = ap (λ (rows : List (Row M)). replay rows base) (l.rows.same n h)

  pub asked-later : (a : Asking M) → AskedRight s a → AskedRight t a
  asked-later a h = record {
    since = omega (arith, l.rows.longer, h.since);
    time = omega (arith, l.clock, h.time);
    earlier = λ k i e. ⊎_elim (λ (o : In k s.told). h.earlier k o e) (λ (o : s.clock ≤ k.time). absurd (omega (arith, h.time))) (l.told k i);
  }

  ahead-later : (n : ℕ) (m : Append M) → n ≤ length s.rows → Ahead s.rows n m → Ahead t.rows n m
  ahead-later n m h f i r q e = by-test (less i (length s.rows))
      (λ (w : i < length s.rows). let o = at_some s.rows i w in
      f i o.0 o.1 (ap (λ (x : Row M). x.id) (at_one t.rows i o.0 r (l.rows.stands i o.0 o.1) q) ∙ e))
      (λ (w : length s.rows ≤ i). omega arith)

  phase-later : (c n : ℕ) (p : Phase M) → n ≤ length s.rows → PhaseRight s c n p → PhaseRight t c n p
  phase-later c n idle w h = tt
  phase-later c n (asked a e) w h = (asked-later a h.0, h.1, h.2)
  phase-later c n (waiting m) w h = (l.sent m h.0, h.1, ahead-later n m w h.2)
  phase-later c n halted w h = tt

  pub controller-later : (c : ℕ) (k : Controller M) → ControllerRight base s c k → ControllerRight base t c k
  controller-later c k h = record {
    known = omega (arith, l.rows.longer, h.known);
    copy = rw (same_log k.known h.known) h.copy;
    phase = phase-later c k.known k.phase h.known h.phase;
  }

  pub told-later : (k : Telling M) → ToldRight base s k → ToldRight base t k
  told-later k h = record {
    sent = l.sent k.append h.sent;
    stands = l.rows.stands k.place (row k.append) h.stands;
    answer = rw (same_log k.place (let w = at_less s.rows k.place (row k.append) h.stands in omega (arith, w))) h.answer;
    time = omega (arith, l.clock, h.time);
  }

  pub denied-later : (d : Denied M) → DeniedRight base s d → DeniedRight base t d
  denied-later d h = record {
    from = h.from;
    to = omega (arith, l.rows.longer, h.to);
    answer = rw (same_log d.known h.to) h.answer;
    refused = h.refused;
    time = omega (arith, l.clock, h.time);
  }

pub apart-phases : {M : Machine} {P : Type 0} (a : Asking M) (l : Bool) (m : Append M) → asked a l ≡ waiting m → P
apart-phases a l m e = absurd cc

pub idle-waits : {M : Machine} {P : Type 0} (m : Append M) → idle ≡ waiting m → P
idle-waits m e = absurd cc

pub halted-waits : {M : Machine} {P : Type 0} (m : Append M) → halted ≡ waiting m → P
halted-waits m e = absurd cc

pub same-append : {M : Machine} (m n : Append M) → waiting m ≡ waiting n → m ≡ n
same-append m n e = cc

-- A controller changes, and nothing that was asked of the others.
tick : {M : Machine} (c : ℕ) (k : Controller M) (s : State M) → Later s (with_controller c k s)
tick c k s = record { clock = omega arith; rows = grows-not s.rows; sent = λ m h. h; told = λ a h. inl h }

module _ {M : Machine} (base : M.Log) (s : State M) (c : ℕ) (k : Controller M) (v : Invariant base s) where
  abbrev then : State M
  then = with_controller c k s

  turned-owned : ((m : Append M) → (s.controllers c).phase ≡ waiting m → Owned then m) → (m : Append M) → Owned s m → Owned then m
  turned-owned f m (told a i e) = told a i e
  turned-owned f m (forgotten i) = forgotten i
  turned-owned f m (pends e) = by-test (same m.asking.asker c)
      (λ (h : m.asking.asker ≡ c). f m (ap (λ (d : ℕ). (s.controllers d).phase) (sym h) ∙ e))
      (λ (h : m.asking.asker ≡ c → ⊥). pends (ap (λ (x : Controller M). x.phase) (put_other s.controllers c k m.asking.asker h) ∙ e))

  turned : ControllerRight base then c k → ((m : Append M) → (s.controllers c).phase ≡ waiting m → Owned then m)
      → ((m : Append M) → k.phase ≡ waiting m → (s.controllers c).phase ≡ waiting m)
      → PhaseOnce s.sent s.denied k.phase → Invariant base then
  turned right f g o = record {
    sent = λ m i. asked-later base (tick c k s) m.asking (v.sent m i);
    unique = v.unique;
    rows = v.rows;
    one-row = v.one-row;
    controllers = put_all (λ d x. ControllerRight base then d x) s.controllers c k right
        (λ d _. controller-later base (tick c k s) d (s.controllers d) (v.controllers d));
    told = λ a i. told-later base (tick c k s) a (v.told a i);
    apart = v.apart;
    pending = λ d m. put_all
        (λ d x. x.phase ≡ waiting m → (a : Telling M) → In a s.told → a.append.id ≡ m.id → ⊥)
        s.controllers c k (λ e. v.pending c m (g m e)) (λ d _ e. v.pending d m e) d;
    owned = λ m i. turned-owned f m (v.owned m i);
    denied = λ d i. denied-later base (tick c k s) d (v.denied d i);
    denied-apart = v.denied-apart;
    unsent = v.unsent;
    forgotten = v.forgotten;
    asks = put_all (λ d x. PhaseOnce s.sent s.denied x.phase) s.controllers c k o (λ d _. v.asks d);
    once = v.once;
  }

few-pending : {M : Machine} (p : Phase M) → length (pending p) ≤ 1
few-pending idle = omega arith
few-pending (asked a l) = omega arith
few-pending (waiting m) = omega arith
few-pending halted = omega arith

-- More is forgotten; one more stop is counted.
noted-forgotten : {M : Machine} (base : M.Log) (s : State M) (ms : List (Append M)) → Invariant base s → length ms ≤ 1 → Invariant base (with_forgotten ms s)
noted-forgotten {M} base s ms v few = record {
  sent = λ m i. asked-later base later m.asking (v.sent m i);
  unique = v.unique;
  rows = v.rows;
  one-row = v.one-row;
  controllers = λ c. controller-later base later c (s.controllers c) (v.controllers c);
  told = λ k i. told-later base later k (v.told k i);
  apart = v.apart;
  pending = v.pending;
  owned = λ m i. owned m (v.owned m i);
  denied = λ d i. denied-later base later d (v.denied d i);
  denied-apart = v.denied-apart;
  unsent = v.unsent;
  forgotten = omega (arith, length-append ms s.forgotten, v.forgotten);
  asks = v.asks;
  once = v.once;
}
  where
    later : Later s (with_forgotten ms s)
    later = record { clock = omega arith; rows = grows-not s.rows; sent = λ m h. h; told = λ a h. inl h }

    owned : (m : Append M) → Owned s m → Owned (with_forgotten ms s) m
    owned m (told a i e) = told a i e
    owned m (forgotten i) = forgotten (in_right ms s.forgotten m i)
    owned m (pends e) = pends e

start : {M : Machine} (base : M.Log) (rows : List (Row M)) → base ≡ log_at base rows 0
unfolding replay
start base rows = refl

replay-append : {M : Machine} (rows more : List (Row M)) (b : M.Log) → replay (rows ++ more) b ≡ replay more (replay rows b)
unfolding replay
replay-append [] more b = refl
replay-append {M} (r ∷ rows) more b = replay-append rows more (M.after r.request b)

-- What holds of a controller's copy once it has read on, or has taken its own row.
read-on : {M : Machine} (base : M.Log) (rows : List (Row M)) (j n : ℕ) → j ≤ n → n ≤ length rows
    → replay (drop j (take n rows)) (log_at base rows j) ≡ log_at base rows n
read-on {M} base rows j n h w =
    sym (replay-append (take j rows) (drop j (take n rows)) base)
    ∙ ap (λ (l : List (Row M)). replay l base)
    (ap (λ (l : List (Row M)). l ++ drop j (take n rows)) (sym (take-take j n rows h)) ∙ take-append-drop j (take n rows))

one_more : (n : ℕ) → suc n ≡ n + 1
one_more n = omega arith

one_on : {M : Machine} (rows : List (Row M)) (b : M.Log) (i : ℕ) (r : Row M) → At rows i r → M.after r.request (log_at b rows i) ≡ log_at b rows (suc i)
unfolding replay
one_on [] b i r h = absurd h
one_on {M} (x ∷ rows) b zero r h = ap (λ (q : Row M). M.after q.request b) (sym h)
one_on {M} (x ∷ rows) b (suc i) r h = one_on rows (M.after x.request b) i r h

-- The row that bears an append's id is that append's.
pub own_row : {M : Machine} (base : M.Log) (s : State M) → Invariant base s → (m : Append M) → In m s.sent → (i : ℕ) (r : Row M) → At s.rows i r → r.id ≡ m.id
    → (row m ≡ r) × (m.asking.since ≤ i)
own_row {M} base s v m h i r q e =
    let o = v.rows i r q in
    let same : o.0 ≡ m = v.unique o.0 m o.1 h (ap (λ (x : Row M). x.id) o.2 ∙ e) in
    (sym (ap row same) ∙ o.2, rw same at o.3)

module _ {M : Machine} (base : M.Log) (s : State M) (c : ℕ) (v : Invariant base s) where
  abbrev me : Controller M
  me = s.controllers c

  right : ControllerRight base s c (s.controllers c)
  right = v.controllers c

  -- What the others are asked for is not what this one is.
  others-once : (sent : List (Append M)) (ds : List (Denied M)) → ((m : Append M) → In m sent → In m s.sent ⊎ (m.asking.asker ≡ c))
      → ((d : Denied M) → In d ds → In d s.denied ⊎ (d.asking.asker ≡ c))
      → (d n : ℕ) (q : Phase M) → (d ≡ c → ⊥) → PhaseRight s d n q → PhaseOnce s.sent s.denied q → PhaseOnce sent ds q
  others-once sent ds f g d n idle w h o = tt
  others-once sent ds f g d n (asked a l) w h o = (
    (λ m i e. ⊎_elim (λ (x : In m s.sent). o.0 m x e) (λ (x : m.asking.asker ≡ c). w (sym h.1 ∙ sym e.0 ∙ x)) (f m i)),
    (λ m i e. ⊎_elim (λ (x : In m s.denied). o.1 m x e) (λ (x : m.asking.asker ≡ c). w (sym h.1 ∙ sym e.0 ∙ x)) (g m i)),
  )
  others-once sent ds f g d n (waiting m) w h o = tt
  others-once sent ds f g d n halted w h o = tt

  module _ (a : Asking M) (l : Bool) (id : ℕ) (p : me.phase ≡ asked a l)
      (new : (m : Append M) → In m s.sent → m.id ≡ id → ⊥) where
    abbrev mine : Append M
    mine = append id a

    abbrev sends : Controller M
    sends = in_phase (waiting mine) me

    abbrev sending : State M
    sending = with_sent mine (with_controller c sends s)

    later : Later s sending
    later = record { clock = omega arith; rows = grows-not s.rows; sent = λ m h. inr h; told = λ k h. inl h }

    sent-invariant : Invariant base sending
    sent-invariant = record {
      sent = λ m i. ⊎_elim (λ (q : m ≡ mine). rw q (asked-later base later a phase.0)) (λ (o : In m s.sent). asked-later base later m.asking (v.sent m o)) i;
      unique = unique;
      rows = λ i r h. let o = v.rows i r h in (o.0, inr o.1, o.2, o.3);
      one-row = v.one-row;
      controllers = put_all (λ d x. ControllerRight base sending d x) s.controllers c sends
          (record { known = right.known; copy = right.copy; phase = (inl refl, phase.1, λ i r h e. absurd (free i r h e)) })
          (λ d _. controller-later base later d (s.controllers d) (v.controllers d));
      told = λ k i. told-later base later k (v.told k i);
      apart = v.apart;
      pending = λ d m. put_all
          (λ d x. x.phase ≡ waiting m → (k : Telling M) → In k s.told → k.append.id ≡ m.id → ⊥)
          s.controllers c sends
          (λ e k i q. new k.append (v.told k i).sent (q ∙ ap (λ (x : Append M). x.id) (sym (same-append mine m e))))
          (λ d _ e. v.pending d m e) d;
      owned = λ m i. ⊎_elim (λ (q : m ≡ mine). rw q (pends pending-mine)) (λ (o : In m s.sent). owned m (v.owned m o)) i;
      denied = λ d i. denied-later base later d (v.denied d i);
      denied-apart = v.denied-apart;
      unsent = λ d i m j e. ⊎_elim (λ (q : m ≡ mine). fresh.1 d i (flip d m q e)) (λ (o : In m s.sent). v.unsent d i m o e) j;
      forgotten = v.forgotten;
      asks = put_all (λ d x. PhaseOnce sending.sent s.denied x.phase) s.controllers c sends tt
          (λ d w. others-once sending.sent s.denied
          (λ m i. ⊎_elim (λ (q : m ≡ mine). inr (ap (λ (x : Append M). x.asking.asker) q ∙ phase.1)) (λ (o : In m s.sent). inl o) i) (λ e i. inl i)
          d (s.controllers d).known (s.controllers d).phase w (v.controllers d).phase (v.asks d));
      once = once;
    }
      where
        phase : AskedRight s a × (a.asker ≡ c) × (l ≡ true → a.since ≤ me.known)
        phase = subst (PhaseRight s c me.known) p right.phase

        fresh : ((n : Append M) → In n s.sent → OneAsking n.asking a → ⊥) × ((d : Denied M) → In d s.denied → OneAsking d.asking a → ⊥)
        fresh = subst (PhaseOnce s.sent s.denied) p (v.asks c)

        free : Free s.rows id
        free i r h e = let o = v.rows i r h in new o.0 o.1 (ap (λ (x : Row M). x.id) o.2 ∙ e)

        flip : (d : Denied M) (m : Append M) → m ≡ mine → OneAsking m.asking d.asking → OneAsking d.asking a
        flip d m q e = (sym e.0 ∙ ap (λ (x : Append M). x.asking.asker) q, sym e.1 ∙ ap (λ (x : Append M). x.asking.time) q)

        pending-mine : (put s.controllers c sends a.asker).phase ≡ waiting mine
        pending-mine = ap (λ (d : ℕ). (put s.controllers c sends d).phase) phase.1 ∙ ap (λ (x : Controller M). x.phase) (put_same s.controllers c sends)

        once : (m n : Append M) → In m sending.sent → In n sending.sent → OneAsking m.asking n.asking → m ≡ n
        once m n (inl x) (inl y) e = x ∙ sym y
        once m n (inl x) (inr y) e = absurd (fresh.0 n y (sym e.0 ∙ ap (λ (z : Append M). z.asking.asker) x, sym e.1 ∙ ap (λ (z : Append M). z.asking.time) x))
        once m n (inr x) (inl y) e = absurd (fresh.0 m x (e.0 ∙ ap (λ (z : Append M). z.asking.asker) y, e.1 ∙ ap (λ (z : Append M). z.asking.time) y))
        once m n (inr x) (inr y) e = v.once m n x y e

        unique : (m n : Append M) → In m sending.sent → In n sending.sent → m.id ≡ n.id → m ≡ n
        unique m n (inl x) (inl y) e = x ∙ sym y
        unique m n (inl x) (inr y) e = absurd (new n y (sym e ∙ ap (λ (q : Append M). q.id) x))
        unique m n (inr x) (inl y) e = absurd (new m x (e ∙ ap (λ (q : Append M). q.id) y))
        unique m n (inr x) (inr y) e = v.unique m n x y e

        owned : (m : Append M) → Owned s m → Owned sending m
        owned m (told k i e) = told k i e
        owned m (forgotten i) = forgotten i
        owned m (pends e) = by-test (same m.asking.asker c)
            (λ (h : m.asking.asker ≡ c). apart-phases a l m (sym p ∙ ap (λ (d : ℕ). (s.controllers d).phase) (sym h) ∙ e))
            (λ (h : m.asking.asker ≡ c → ⊥). pends (ap (λ (x : Controller M). x.phase) (put_other s.controllers c sends m.asking.asker h) ∙ e))

  module _ (n : Append M) (p : me.phase ≡ waiting n) (stood : At s.rows me.known (row n)) where
    abbrev done : Controller M
    done = passing n me

    abbrev after : State M
    after = with_told (telling n me s) (with_controller c done s)

    latter : Later s after
    latter = record {
      clock = omega arith;
      rows = grows-not s.rows;
      sent = λ m h. h;
      told = λ k i. ⊎_elim (λ (q : k ≡ telling n me s). inr (rw q (omega arith))) (λ (o : In k s.told). inl o) i;
    }

    told-invariant : Invariant base after
    told-invariant = record {
      sent = λ m i. asked-later base latter m.asking (v.sent m i);
      unique = v.unique;
      rows = v.rows;
      one-row = v.one-row;
      controllers = put_all (λ d x. ControllerRight base after d x) s.controllers c done
          (record {
            known = let w = at_less s.rows me.known (row n) stood in omega (arith, w);
            copy = ap (M.after n.asking.request) right.copy ∙ one_on s.rows base me.known (row n) stood ∙ ap (log_at base s.rows) (one_more me.known);
            phase = tt;
          })
          (λ d _. controller-later base latter d (s.controllers d) (v.controllers d));
      told = λ k i. ⊎_elim (λ (q : k ≡ telling n me s). rw q (record {
        sent = waits.0;
        stands = stood;
        answer = ap (M.answer n.asking.request) right.copy;
        time = omega arith;
      })) (λ (o : In k s.told). told-later base latter k (v.told k o)) i;
      apart = (v.pending c n p, v.apart);
      pending = λ d m. put_all
          (λ d x. x.phase ≡ waiting m → (k : Telling M) → In k after.told → k.append.id ≡ m.id → ⊥)
          s.controllers c done (λ e. idle-waits m e)
          (λ d w e k i q. ⊎_elim
          (λ (x : k ≡ telling n me s). w (clash d m e (ap (λ (y : Telling M). y.append.id) (sym x) ∙ q)))
          (λ (o : In k s.told). v.pending d m e k o q) i) d;
      owned = λ m i. owned m (v.owned m i);
      denied = λ d i. denied-later base latter d (v.denied d i);
      denied-apart = v.denied-apart;
      unsent = v.unsent;
      forgotten = v.forgotten;
      asks = put_all (λ d x. PhaseOnce s.sent s.denied x.phase) s.controllers c done tt (λ d _. v.asks d);
      once = v.once;
    }
      where
        waits : In n s.sent × (n.asking.asker ≡ c) × Ahead s.rows me.known n
        waits = subst (PhaseRight s c me.known) p right.phase

        clash : (d : ℕ) (m : Append M) → (s.controllers d).phase ≡ waiting m → n.id ≡ m.id → d ≡ c
        clash d m e q =
            let w : In m s.sent × (m.asking.asker ≡ d) × Ahead s.rows (s.controllers d).known m =
            subst (PhaseRight s d (s.controllers d).known) e (v.controllers d).phase in
            sym w.1 ∙ ap (λ (x : Append M). x.asking.asker) (v.unique m n w.0 waits.0 (sym q)) ∙ waits.1

        owned : (m : Append M) → Owned s m → Owned after m
        owned m (told k i e) = told k (inr i) e
        owned m (forgotten i) = forgotten i
        owned m (pends e) = by-test (same m.asking.asker c)
            (λ (h : m.asking.asker ≡ c). told (telling n me s) (inl refl)
            (same-append n m (sym p ∙ ap (λ (d : ℕ). (s.controllers d).phase) (sym h) ∙ e)))
            (λ (h : m.asking.asker ≡ c → ⊥). pends (ap (λ (x : Controller M). x.phase) (put_other s.controllers c done m.asking.asker h) ∙ e))

  module _ (a : Asking M) (p : me.phase ≡ asked a true) (no : Refuses M a.request me.copy) where
    abbrev denies : Controller M
    denies = in_phase idle me

    abbrev denying : State M
    denying = with_denied (denial a me) (with_controller c denies s)

    thereon : Later s denying
    thereon = record { clock = omega arith; rows = grows-not s.rows; sent = λ m h. h; told = λ k h. inl h }

    denied-invariant : Invariant base denying
    denied-invariant = record {
      sent = λ m i. asked-later base thereon m.asking (v.sent m i);
      unique = v.unique;
      rows = v.rows;
      one-row = v.one-row;
      controllers = put_all (λ d x. ControllerRight base denying d x) s.controllers c denies
          (record { known = right.known; copy = right.copy; phase = tt })
          (λ d _. controller-later base thereon d (s.controllers d) (v.controllers d));
      told = λ k i. told-later base thereon k (v.told k i);
      apart = v.apart;
      pending = λ d m. put_all
          (λ d x. x.phase ≡ waiting m → (k : Telling M) → In k s.told → k.append.id ≡ m.id → ⊥)
          s.controllers c denies (λ e. idle-waits m e) (λ d _ e. v.pending d m e) d;
      owned = λ m i. owned m (v.owned m i);
      denied = λ d i. ⊎_elim (λ (q : d ≡ denial a me). rw q (record {
        from = phase.2 refl;
        to = right.known;
        answer = ap (M.answer a.request) right.copy;
        refused = no;
        time = omega (arith, phase.0.time);
      })) (λ (o : In d s.denied). denied-later base thereon d (v.denied d o)) i;
      denied-apart = (fresh.1, v.denied-apart);
      unsent = λ d i m j e. ⊎_elim
          (λ (q : d ≡ denial a me). fresh.0 m j (e.0 ∙ ap (λ (x : Denied M). x.asking.asker) q, e.1 ∙ ap (λ (x : Denied M). x.asking.time) q))
          (λ (o : In d s.denied). v.unsent d o m j e) i;
      forgotten = v.forgotten;
      asks = put_all (λ d x. PhaseOnce s.sent denying.denied x.phase) s.controllers c denies tt
          (λ d w. others-once s.sent denying.denied (λ m i. inl i)
          (λ e i. ⊎_elim (λ (q : e ≡ denial a me). inr (ap (λ (x : Denied M). x.asking.asker) q ∙ phase.1)) (λ (o : In e s.denied). inl o) i)
          d (s.controllers d).known (s.controllers d).phase w (v.controllers d).phase (v.asks d));
      once = v.once;
    }
      where
        phase : AskedRight s a × (a.asker ≡ c) × (true ≡ true → a.since ≤ me.known)
        phase = subst (PhaseRight s c me.known) p right.phase

        fresh : ((n : Append M) → In n s.sent → OneAsking n.asking a → ⊥) × ((d : Denied M) → In d s.denied → OneAsking d.asking a → ⊥)
        fresh = subst (PhaseOnce s.sent s.denied) p (v.asks c)

        owned : (m : Append M) → Owned s m → Owned denying m
        owned m (told k i e) = told k i e
        owned m (forgotten i) = forgotten i
        owned m (pends e) = by-test (same m.asking.asker c)
            (λ (h : m.asking.asker ≡ c). apart-phases a true m (sym p ∙ ap (λ (d : ℕ). (s.controllers d).phase) (sym h) ∙ e))
            (λ (h : m.asking.asker ≡ c → ⊥). pends (ap (λ (x : Controller M). x.phase) (put_other s.controllers c denies m.asking.asker h) ∙ e))

stored-invariant : {M : Machine} (base : M.Log) (s : State M) → Invariant base s → (n : Append M) → In n s.sent → Free s.rows n.id
    → Invariant base (with_row n s)
stored-invariant {M} base s v n h free = record {
  sent = λ m i. asked-later base later m.asking (v.sent m i);
  unique = v.unique;
  rows = λ i r q. ⊎_elim (λ (o : At s.rows i r). v.rows i r o)
      (λ (o : (i ≡ length s.rows) × (row n ≡ r)). (n, h, o.1, rw o.0 (v.sent n h).since))
      (at-cases s.rows (row n) i r q);
  one-row = λ i j r q a b e. one i j r q (at-cases s.rows (row n) i r a) (at-cases s.rows (row n) j q b) e;
  controllers = λ c. controller-later base later c (s.controllers c) (v.controllers c);
  told = λ k i. told-later base later k (v.told k i);
  apart = v.apart;
  pending = v.pending;
  owned = λ m i. owned m (v.owned m i);
  denied = λ d i. denied-later base later d (v.denied d i);
  denied-apart = v.denied-apart;
  unsent = v.unsent;
  forgotten = v.forgotten;
  asks = v.asks;
  once = v.once;
}
  where
    later : Later s (with_row n s)
    later = record { clock = omega arith; rows = grows_one s.rows (row n); sent = λ m h. h; told = λ k h. inl h }

    one : (i j : ℕ) (r q : Row M) → At s.rows i r ⊎ ((i ≡ length s.rows) × (row n ≡ r)) → At s.rows j q ⊎ ((j ≡ length s.rows) × (row n ≡ q))
        → r.id ≡ q.id → i ≡ j
    one i j r q (inl a) (inl b) e = v.one-row i j r q a b e
    one i j r q (inl a) (inr b) e = absurd (free i r a (e ∙ ap (λ (x : Row M). x.id) (sym b.1)))
    one i j r q (inr a) (inl b) e = absurd (free j q b (sym e ∙ ap (λ (x : Row M). x.id) (sym a.1)))
    one i j r q (inr a) (inr b) e = a.0 ∙ sym b.0

    owned : (m : Append M) → Owned s m → Owned (with_row n s) m
    owned m (told k i e) = told k i e
    owned m (forgotten i) = forgotten i
    owned m (pends e) = pends e

module _ {M : Machine} (base : M.Log) (s : State M) (c : ℕ) (v : Invariant base s) where
  abbrev now : Controller M
  now = s.controllers c

  -- A controller that isn't waiting, and doesn't begin to.
  unbound : (k : Controller M) → ControllerRight base (with_controller c k s) c k
      → ((m : Append M) → now.phase ≡ waiting m → ⊥) → ((m : Append M) → k.phase ≡ waiting m → ⊥)
      → PhaseOnce s.sent s.denied k.phase → Invariant base (with_controller c k s)
  unbound k right f g o = turned base s c k v right (λ m e. absurd (f m e)) (λ m e. absurd (g m e)) o

  copied : (n : ℕ) → now.known ≤ n → n ≤ length s.rows → (reading s.rows n now).copy ≡ log_at base s.rows n
  copied n h w = ap (replay (drop now.known (take n s.rows))) (v.controllers c).copy ∙ read-on base s.rows now.known n h w

  asked-right : (a : Asking M) (l : Bool) → now.phase ≡ asked a l → AskedRight s a × (a.asker ≡ c) × (l ≡ true → a.since ≤ now.known)
  asked-right a l p = subst (PhaseRight s c now.known) p (v.controllers c).phase

  waiting-right : (m : Append M) → now.phase ≡ waiting m → In m s.sent × (m.asking.asker ≡ c) × Ahead s.rows now.known m
  waiting-right m p = subst (PhaseRight s c now.known) p (v.controllers c).phase

  look-phase : (n : ℕ) → now.known ≤ n → (k : Controller M) (p : Phase M) → ((m : Append M) → p ≡ waiting m → FreeFrom s.rows now.known n m.id)
      → PhaseRight s c now.known p → PhaseRight (with_controller c k s) c n p
  look-phase n h k idle f o = tt
  look-phase n h k (asked a l) f o = (asked-later base (tick c k s) a o.0, o.1, λ e. omega (arith, o.2 e))
  look-phase n h k (waiting m) f o = (
    o.0,
    o.1,
    λ i r q e. by-test (less i n)
        (λ (w : i < n). absurd (f m refl i r q (o.2 i r q e) w e)) (λ (w : n ≤ i). w),
  )
  look-phase n h k halted f o = tt

  -- It forgets what it was waiting for, and waits no longer.
  left : (k : Controller M) → ((m : Append M) → k.phase ≡ waiting m → ⊥) → PhaseOnce s.sent s.denied k.phase
      → ControllerRight base (with_controller c k (with_forgotten (pending now.phase) s)) c k
      → Invariant base (with_controller c k (with_forgotten (pending now.phase) s))
  left k rests o right = turned base (with_forgotten (pending now.phase) s) c k
      (noted-forgotten base s (pending now.phase) v (few-pending now.phase)) right
      (λ m e. forgotten (subst (λ (q : Phase M). In m (pending q ++ s.forgotten)) (sym e) (inl refl)))
      (λ m e. absurd (rests m e)) o

  pub move-invariant : (t : State M) → Move base s c t → Invariant base t
  move-invariant t (ask x p) = unbound (in_phase (asked (asking x c s) false) now) (record {
    known = (v.controllers c).known;
    copy = (v.controllers c).copy;
    phase = (
      record {
        since = omega arith;
        time = omega arith;
        earlier = λ k i _. at_less s.rows k.place (row k.append) (v.told k i).stands;
      },
      refl,
      λ e. absurd (false≢true e),
    );
  }) (λ m e. idle-waits m (sym p ∙ e)) (λ m e. apart-phases (asking x c s) false m e)
      ((λ n i e. omega (arith, (v.sent n i).time, e.1)), (λ d i e. omega (arith, (v.denied d i).time, e.1)))
  move-invariant t (look n runs h w f) = turned base s c (reading s.rows n now) v (record {
    known = w;
    copy = copied n h w;
    phase = look-phase n h (reading s.rows n now) now.phase f (v.controllers c).phase;
  }) (λ m e. pends (ap (λ (d : ℕ). (put s.controllers c (reading s.rows n now) d).phase) (waiting-right m e).1
      ∙ ap (λ (x : Controller M). x.phase) (put_same s.controllers c (reading s.rows n now)) ∙ e)) (λ m e. e) (v.asks c)
  move-invariant t (read a l n p h since w) = let k : Controller M = in_phase (asked a true) (reading s.rows n now) in unbound k (record {
    known = w;
    copy = copied n h w;
    phase = (asked-later base (tick c k s) a (asked-right a l p).0, (asked-right a l p).1, λ _. since);
  }) (λ m e. apart-phases a l m (sym p ∙ e)) (λ m e. apart-phases a true m e) (subst (PhaseOnce s.sent s.denied) p (v.asks c))
  move-invariant t (refuse a p e) = denied-invariant base s c v a p e
  move-invariant t (send a l id p ok new) = sent-invariant base s c v a l id p new
  move-invariant t (store m h q free) = stored-invariant base s v m h free
  move-invariant t (tell m r p h e) = told-invariant base s c v m p
      (subst (At s.rows now.known) (sym (own_row base s v m (waiting-right m p).0 now.known r h e).0) h)
  move-invariant t (leave runs) = left (in_phase idle now) idle-waits tt (record { known = (v.controllers c).known; copy = (v.controllers c).copy; phase = tt })
  move-invariant t crash = left (starting base) idle-waits tt (record { known = omega arith; copy = start base s.rows; phase = tt })
  move-invariant t halt = left (in_phase halted now) halted-waits tt (record { known = (v.controllers c).known; copy = (v.controllers c).copy; phase = tt })

pub initial-invariant : (M : Machine) (base : M.Log) → Invariant base (initial M base)
unfolding replay
initial-invariant M base = record {
  sent = λ m i. absurd i;
  unique = λ m n i. absurd i;
  rows = λ i r h. absurd h;
  one-row = λ i j r q h. absurd h;
  controllers = λ c. record { known = omega arith; copy = refl; phase = tt };
  told = λ k i. absurd i;
  apart = tt;
  pending = λ c m e k i. absurd i;
  owned = λ m i. absurd i;
  denied = λ d i. absurd i;
  denied-apart = tt;
  unsent = λ d i. absurd i;
  forgotten = omega arith;
  asks = λ c. tt;
  once = λ m n i. absurd i;
}

pub run-invariant : {M : Machine} (base : M.Log) (s t : State M) → Invariant base s → Run base s t → Invariant base t
run-invariant base s t v here = v
run-invariant base s t v (on {t = u} c r m) = move-invariant base u c (run-invariant base s u v r) t m

pub reachable-invariant : {M : Machine} (base : M.Log) (s : State M) → Reachable base s → Invariant base s
reachable-invariant {M} base s r = run-invariant base (initial M base) s (initial-invariant M base) r

-- Around a controller all goes on by moves, and it stays as it is.
pub around-run : {M : Machine} (base : M.Log) (c : ℕ) (s t : State M) → Around base c s t → Run base s t
around-run base c s t nothing = here
around-run base c s t (other {t = u} d w r m) = on d (around-run base c s u r) m
around-run base c s t (late {t = u} m r i e f) = on c (around-run base c s u r) (store m i e f)
