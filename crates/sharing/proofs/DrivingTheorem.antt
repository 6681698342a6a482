-- The promise of DrivingPromise holds.
use Rattle.std.specs.Prelude.{ℕ, ◌+◌, ◌<◌, ◌≤◌, ◌≡◌, refl, Bool, true, false, ◌++◌, length}
use Rattle.std.proofs.Common.{arith, sym, ap, subst, ◌∙◌, inl, inr}
use Rattle.checks.specs.Test.{same, at_most}
use Rattle.checks.specs.TestLaws.{by-test}
use Rattle.chain.specs.Log.{put}
use Rattle.chain.proofs.Laws.Lists.{put_same}
use Rattle.sharing.specs.declared.controller.Seen.{Seen}
use Rattle.sharing.specs.declared.controller.Seen.TheVariants as seen
use Rattle.sharing.specs.declared.controller.Act.{Act}
use Rattle.sharing.specs.declared.controller.Act.TheVariants as acts
use Rattle.sharing.specs.declared.controller.Turn.{Turn}
use Rattle.sharing.specs.Turns.{when_accepted, when_between, turn}
use Rattle.sharing.proofs.Laws.Turns.{accepted-some, next-own, next-other, placed-next, placed-further}
use Rattle.sharing.specs.Places.{At, In}
use Rattle.sharing.proofs.Laws.Places.{at_less}
use Rattle.sharing.specs.Sharing.{Machine, Accepts, Refuses, Row, Asking, Append, Phase, idle, asked, waiting, halted, Controller, State, with_controller, with_sent, with_told, with_denied, with_forgotten, in_phase, reading, passing, Runs, pending, asking, append, telling, denial, FreeFrom, Move, ask, look, read, refuse, send, tell, leave, halt, Reachable, Alone, none, more}
use Rattle.sharing.proofs.Laws.Invariant.{Invariant, PhaseRight, Ahead, idle-waits, same-append, reachable-invariant}
use Rattle.sharing.specs.Driving.{shown, Sees, asks, asks-halted, reads-idle, reads-asked, reads-waiting, comes-to, places, accepts, lacks-id, refuses, hears-nothing, stops, differs, Does, known_by, counted, Stays, Turned}
use Rattle.sharing.specs.DrivingPromise.{TurnsAreMoves}

stays_same : {M : Machine} (q : Phase M) → Stays q q
stays_same idle = tt
stays_same (asked a l) = refl
stays_same (waiting m) = refl
stays_same halted = tt

module _ {M : Machine} (base : M.Log) (s : State M) (c : ℕ) (v : Invariant base s) where
  abbrev now : Controller M
  now = s.controllers c

  -- The phase and what is known of a controller that was changed.
  new-phase : (k : Controller M) → (put s.controllers c k c).phase ≡ k.phase
  new-phase k = ap (λ (x : Controller M). x.phase) (put_same s.controllers c k)

  new-known : (k : Controller M) → (put s.controllers c k c).known ≡ k.known
  new-known k = ap (λ (x : Controller M). x.known) (put_same s.controllers c k)

  waits : (m : Append M) → now.phase ≡ waiting m → In m s.sent × (m.asking.asker ≡ c) × Ahead s.rows now.known m
  waits m p = subst (PhaseRight s c now.known) p (v.controllers c).phase

  abbrev Result : Seen → Phase M → Type 0
  Result o q = (t : State M) × Turned base s c q o t

  -- Nothing moves; or one move is made, with the controller's new record.
  stays : (o : Seen) (q : Phase M) → now.phase ≡ q → shown q ≡ (turn (shown q) o).phase
      → now.known ≡ counted (turn (shown q) o).act (known_by o now.known) → Does (turn (shown q) o).act s c s → Result o q
  stays o q p e k d = (s, record { moves = (0, none, omega arith); phase = ap shown p ∙ e; asking = subst (Stays q) (sym p) (stays_same q); rows = refl; known = k; does = d })

  goes : (o : Seen) (q r : Phase M) (t : State M) → Move base s c t → (t.controllers c).phase ≡ r → shown r ≡ (turn (shown q) o).phase → Stays q r → t.rows ≡ s.rows
      → (t.controllers c).known ≡ counted (turn (shown q) o).act (known_by o now.known) → Does (turn (shown q) o).act s c t → Result o q
  goes o q r t m p e w j k d = (t, record { moves = (1, more none m, omega arith); phase = ap shown p ∙ e; asking = subst (Stays q) (sym p) w; rows = j; known = k; does = d })

  -- While it waits, an act that tells nothing may be done without a move: so to send again is none.
  abbrev Quiet : Act → Type 0
  Quiet acts.Nothing = Unit {0}
  Quiet acts.Read = Unit {0}
  Quiet acts.Try = Unit {0}
  Quiet acts.Append = Unit {0}
  Quiet acts.Tell = ⊥
  Quiet acts.Refuse = ⊥
  Quiet acts.Withdraw = ⊥
  Quiet acts.Unknown = ⊥

  quietly : (m : Append M) → now.phase ≡ waiting m → (a : Act) → Quiet a → Does a s c s
  quietly m p acts.Nothing h = (refl, refl)
  quietly m p acts.Read h = (refl, refl)
  quietly m p acts.Try h = (refl, refl)
  quietly m p acts.Append h = ((refl, refl), (m, p, (waits m p).0, (waits m p).1))
  quietly m p acts.Tell h = absurd h
  quietly m p acts.Refuse h = absurd h
  quietly m p acts.Withdraw h = absurd h
  quietly m p acts.Unknown h = absurd h

  read_asked : (a : Asking M) (l : Bool) (n : ℕ) → now.phase ≡ asked a l → now.known ≤ n → a.since ≤ n → n ≤ length s.rows
      → Result (seen.Read n) (asked a l)
  read_asked a false n p h e w = let k : Controller M = in_phase (asked a true) (reading s.rows n now) in
      goes (seen.Read n) (asked a false) (asked a true) (with_controller c k s) (read a false n p h e w) (new-phase k) refl refl refl (new-known k) (refl, refl)
  read_asked a true n p h e w = let k : Controller M = in_phase (asked a true) (reading s.rows n now) in
      goes (seen.Read n) (asked a true) (asked a true) (with_controller c k s) (read a true n p h e w) (new-phase k) refl refl refl (new-known k) (refl, refl)

  asker : (a : Asking M) (l : Bool) → now.phase ≡ asked a l → a.asker ≡ c
  asker a l p = (subst (PhaseRight s c now.known) p (v.controllers c).phase).1

  -- A turn that is known by an equation.
  by_turn : (o : Seen) (p : Phase M) (u : Turn) → turn (shown p) o ≡ u → (t : State M) (i : ℕ) → Alone base c s i t → i ≤ 2
      → (r : Phase M) → (t.controllers c).phase ≡ r → shown r ≡ u.phase → Stays p r → t.rows ≡ s.rows
      → (t.controllers c).known ≡ counted u.act (known_by o now.known) → Does u.act s c t → Result o p
  by_turn o p u q t i a b r x y z j k d = (
    t,
    record {
      moves = (i, a, b);
      phase = ap shown x ∙ y ∙ ap (λ (y : Turn). y.phase) (sym q);
      asking = subst (Stays p) (sym x) z;
      rows = j;
      known = subst (λ (y : Turn). (t.controllers c).known ≡ counted y.act (known_by o now.known)) (sym q) k;
      does = subst (λ (y : Turn). Does y.act s c t) (sym q) d;
    },
  )

  sends : (a : Asking M) (l : Bool) (id : ℕ) → now.phase ≡ asked a l → (id ≡ 0 → ⊥) → Accepts M a.request now.copy
      → ((m : Append M) → In m s.sent → m.id ≡ id → ⊥) → turn (shown (asked a l)) (seen.Accepted id) ≡ when_accepted id → Result (seen.Accepted id) (asked a l)
  sends a l id p some ok new e = let m : Append M = append id a in let k : Controller M = in_phase (waiting m) now in
      by_turn (seen.Accepted id) (asked a l) _ (e ∙ accepted-some id some) (with_sent m (with_controller c k s)) 1 (more none (send a l id p ok new)) (omega arith)
      (waiting m) (new-phase k) refl refl refl (new-known k) ((refl, refl), (m, new-phase k, inl refl, asker a l p))

  accepted : (a : Asking M) (l : Bool) (id : ℕ) → now.phase ≡ asked a l → (id ≡ 0 → ⊥) → Accepts M a.request now.copy
      → ((m : Append M) → In m s.sent → m.id ≡ id → ⊥) → Result (seen.Accepted id) (asked a l)
  accepted a false id p some ok new = sends a false id p some ok new refl
  accepted a true id p some ok new = sends a true id p some ok new refl

  refused : (a : Asking M) (l : Bool) → now.phase ≡ asked a l → Refuses M a.request now.copy → Result seen.Refused (asked a l)
  refused a false p e = stays seen.Refused (asked a false) p refl refl (refl, refl)
  refused a true p e = let k : Controller M = in_phase idle now in
      goes seen.Refused (asked a true) idle (with_denied (denial a now) (with_controller c k s)) (refuse a p e) (new-phase k) refl tt refl (new-known k)
      (a, p, refl, (denial a now, refl, refl, e, refl))

  silent : (q : Phase M) → now.phase ≡ q → Result seen.Silence q
  silent idle p = stays seen.Silence idle p refl refl (refl, refl)
  silent (asked a false) p = stays seen.Silence (asked a false) p refl refl (refl, refl)
  silent (asked a true) p = stays seen.Silence (asked a true) p refl refl (refl, refl)
  silent (waiting m) p = stays seen.Silence (waiting m) p refl refl (quietly m p (turn (shown (waiting m)) seen.Silence).act tt)
  silent halted p = stays seen.Silence halted p refl refl (refl, refl)

  abbrev gone : Controller M
  gone = in_phase idle now

  abbrev without : State M
  without = with_forgotten (pending now.phase) (with_controller c gone s)

  awaited : (m : Append M) → now.phase ≡ waiting m → (n : Append M) × (now.phase ≡ waiting n) × In n (pending now.phase ++ s.forgotten)
  awaited m p = (m, p, subst (λ (q : Phase M). In m (pending q ++ s.forgotten)) (sym p) (inl refl))

  leaves : (q : Phase M) → now.phase ≡ q → Runs q → Move base s c without
  leaves q p runs = leave (subst Runs (sym p) runs)

  stopped : (q : Phase M) → now.phase ≡ q → Result seen.Stop q
  stopped idle p = stays seen.Stop idle p refl refl (refl, refl)
  stopped (asked a false) p = goes seen.Stop (asked a false) idle without (leaves (asked a false) p tt) (new-phase gone) refl tt refl (new-known gone)
      ((refl, refl), (refl, inl (a, false, p)))
  stopped (asked a true) p = goes seen.Stop (asked a true) idle without (leaves (asked a true) p tt) (new-phase gone) refl tt refl (new-known gone)
      ((refl, refl), (refl, inl (a, true, p)))
  stopped (waiting m) p = goes seen.Stop (waiting m) idle without (leaves (waiting m) p tt) (new-phase gone) refl tt refl (new-known gone)
      ((refl, refl), awaited m p)
  stopped halted p = stays seen.Stop halted p refl refl (refl, refl)

  no-id : (a : Asking M) (l : Bool) → now.phase ≡ asked a l → Result (seen.Accepted 0) (asked a l)
  no-id a false p = goes (seen.Accepted 0) (asked a false) idle without (leaves (asked a false) p tt) (new-phase gone) refl tt refl (new-known gone)
      ((refl, refl), (refl, inl (a, false, p)))
  no-id a true p = goes (seen.Accepted 0) (asked a true) idle without (leaves (asked a true) p tt) (new-phase gone) refl tt refl (new-known gone)
      ((refl, refl), (refl, inl (a, true, p)))

  abbrev ended : Controller M
  ended = in_phase halted now

  abbrev ending : State M
  ending = with_forgotten (pending now.phase) (with_controller c ended s)

  other-history : (q : Phase M) → now.phase ≡ q → Result seen.OtherHistory q
  other-history idle p = goes seen.OtherHistory idle halted ending halt (new-phase ended) refl tt refl (new-known ended) (refl, refl)
  other-history (asked a false) p = goes seen.OtherHistory (asked a false) halted ending halt (new-phase ended) refl tt refl (new-known ended)
      ((refl, refl), (refl, inl (a, false, p)))
  other-history (asked a true) p = goes seen.OtherHistory (asked a true) halted ending halt (new-phase ended) refl tt refl (new-known ended)
      ((refl, refl), (refl, inl (a, true, p)))
  other-history (waiting m) p = goes seen.OtherHistory (waiting m) halted ending halt (new-phase ended) refl tt refl (new-known ended)
      ((refl, refl), awaited m p)
  other-history halted p = stays seen.OtherHistory halted p refl refl (refl, refl)

  -- It has read on while it waits, not past its own row.
  module _ (m : Append M) (n : ℕ) (p : now.phase ≡ waiting m) (h : now.known ≤ n) (w : n ≤ length s.rows) (f : FreeFrom s.rows now.known n m.id) where
    abbrev further : Controller M
    further = reading s.rows n now

    abbrev looking : State M
    looking = with_controller c further s

    looks : Move base s c looking
    looks = look n (subst Runs (sym p) tt) h w (λ o e i r x y z q. f i r x y z (q ∙ ap (λ (b : Append M). b.id) (sym (same-append m o (sym p ∙ e)))))

    still : (looking.controllers c).phase ≡ waiting m
    still = new-phase further ∙ p

    read-waiting : Result (seen.Read n) (waiting m)
    read-waiting = goes (seen.Read n) (waiting m) (waiting m) looking looks still refl refl refl (new-known further) ((refl, refl), (m, still, (waits m p).0, (waits m p).1))

    next : (r : Row M) → At s.rows n r → Result (seen.Next n r.id) (waiting m)
    next r there = by-test (same r.id m.id) own another
      where
        own : r.id ≡ m.id → Result (seen.Next n r.id) (waiting m)
        own e =
            let k : Controller M = passing m (looking.controllers c) in
            by_turn (seen.Next n r.id) (waiting m) _ (next-own m.id r.id e)
            (with_told (telling m (looking.controllers c) looking) (with_controller c k looking)) 2
            (more (more none looks) (tell m r still (subst (λ (j : ℕ). At s.rows j r) (sym (new-known further)) there) e)) (omega arith)
            idle (ap (λ (z : Controller M). z.phase) (put_same looking.controllers c k)) refl tt refl
            (ap (λ (z : Controller M). z.known) (put_same looking.controllers c k) ∙ ap (λ (j : ℕ). j + 1) (new-known further))
            (m, p, (telling m (looking.controllers c) looking, refl, refl), refl)

        another : (r.id ≡ m.id → ⊥) → Result (seen.Next n r.id) (waiting m)
        another e = by_turn (seen.Next n r.id) (waiting m) _ (next-other m.id r.id e) looking 1 (more none looks) (omega arith) (waiting m) still refl refl refl (new-known further) (refl, refl)

  -- It knows where its own row is.
  placed : (m : Append M) (place : ℕ) (r : Row M) → now.phase ≡ waiting m → At s.rows place r → r.id ≡ m.id → Result (seen.Placed now.known place) (waiting m)
  placed m place r p there e = by-test (at_most place now.known) next_one further-on
    where
      next_one : place ≤ now.known → Result (seen.Placed now.known place) (waiting m)
      next_one h =
          let k : Controller M = passing m now in
          let here : place ≡ now.known = omega (arith, (waits m p).2 place r there e) in
          by_turn (seen.Placed now.known place) (waiting m) _ (placed-next m.id now.known place h) (with_told (telling m now s) (with_controller c k s)) 1
          (more none (tell m r p (subst (λ (j : ℕ). At s.rows j r) here there) e)) (omega arith) idle (new-phase k) refl tt refl (new-known k)
          (m, p, (telling m now s, refl, refl), refl)

      further-on : now.known < place → Result (seen.Placed now.known place) (waiting m)
      further-on h = by_turn (seen.Placed now.known place) (waiting m) _ (placed-further m.id now.known place h) s 0 none (omega arith) (waiting m) p refl refl refl refl
          (quietly m p when_between tt)

  result : (o : Seen) (q : Phase M) → now.phase ≡ q → Result o q → Result o now.phase
  result o q p x = subst (Result o) (sym p) x

  pub every-turn : (o : Seen) → Sees s c o → Result o now.phase
  every-turn o (asks x p) = let k : Controller M = in_phase (asked (asking x c s) false) now in
      result o idle p (goes o idle (asked (asking x c s) false) (with_controller c k s) (ask x p) (new-phase k) refl tt refl (new-known k) (refl, refl))
  every-turn o (asks-halted p) = result o halted p (stays o halted p refl refl ((refl, refl), (refl, inr p)))
  every-turn o (reads-idle n p h w) = let k : Controller M = reading s.rows n now in
      result o idle p (goes o idle idle (with_controller c k s) (look n (subst Runs (sym p) tt) h w (λ m e. idle-waits m (sym p ∙ e))) (new-phase k ∙ p) refl tt refl (new-known k) (refl, refl))
  every-turn o (reads-asked a l n p h e w) = result o (asked a l) p (read_asked a l n p h e w)
  every-turn o (reads-waiting m n p h w f) = result o (waiting m) p (read-waiting m n p h w f)
  every-turn o (comes-to m n r p h f there) = result o (waiting m) p (next m n p h (let w = at_less s.rows n r there in omega (arith, w)) f r there)
  every-turn o (places m place r p there e) = result o (waiting m) p (placed m place r p there e)
  every-turn o (accepts a l id p some ok new) = result o (asked a l) p (accepted a l id p some ok new)
  every-turn o (lacks-id a l p) = result o (asked a l) p (no-id a l p)
  every-turn o (refuses a l p e) = result o (asked a l) p (refused a l p e)
  every-turn o hears-nothing = silent now.phase refl
  every-turn o stops = stopped now.phase refl
  every-turn o differs = other-history now.phase refl

pub turns-are-moves : {M : Machine} (base : M.Log) (s : State M) → Reachable base s → TurnsAreMoves base s
turns-are-moves base s r = record { moved = λ c o x. every-turn base s c (reachable-invariant base s r) o x }
