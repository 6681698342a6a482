-- The promises of SharingPromise hold.
use Rattle.std.specs.Prelude.{ℕ, zero, suc, ◌+◌, ◌<◌, ◌≤◌, ◌≡◌, refl, Bool, true, List, [], ◌∷◌, ◌++◌, map, ◌⊎◌, length}
use Rattle.std.proofs.Common.{arith, sym, ap, subst, ◌∙◌, inl, inr, ⊎_elim, length-append, take_all}
use Rattle.std.proofs.lemmas.List.{length-map}
use Rattle.checks.specs.Test.{same, less}
use Rattle.checks.specs.TestLaws.{by_bool, by-test}
use Rattle.chain.proofs.Laws.Lists.{put_same, put_other}
use Rattle.sharing.specs.Places.{At, In}
use Rattle.sharing.proofs.Laws.Places.{at_less, at_one, at_new, in_map, in_left, in_right, covers}
use Rattle.sharing.specs.Sharing.{Machine, Accepts, Refuses, Row, replay, replies, log_at, Asking, Append, row, Phase, idle, asked, waiting, halted, Controller, Telling, Denied, State, with_controller, with_sent, with_row, in_phase, reading, starting, Runs, append, Free, Move, ask, look, read, refuse, send, store, tell, leave, crash, halt, Run, here, on, Reachable, Around, nothing, other, late}
use Rattle.sharing.proofs.Laws.Invariant as invariant
use Rattle.sharing.proofs.Laws.Invariant.{Invariant, PhaseRight, AskedRight, Ahead, Apart, Grows, grows-not, grows_one, Owned, own_row, same-append, move-invariant, run-invariant, reachable-invariant, around-run}
use Rattle.sharing.proofs.Laws.Withdrawn.{never-sent}
use Rattle.sharing.specs.SharingPromise.{IsReply, ToldIsReplay, DifferentRows, DifferentAskings, ToldOnce, Whose, RowsAreAccounted, RealTimeOrder, RefusalsAreRight, IsTold, Within, WaitFree, CopiesAreFirstParts, HaltedIsSilent, WithdrawnHasNone}

-- The answers of a replay, one by one.
answers_at : {M : Machine} (rows : List (Row M)) (b : M.Log) (i : ℕ) (r : Row M) → At rows i r → At (replies rows b) i (M.answer r.request (log_at b rows i))
unfolding replay replies
answers_at [] b i r h = absurd h
answers_at {M} (x ∷ rows) b zero r h = ap (λ (q : Row M). M.answer q.request b) h
answers_at {M} (x ∷ rows) b (suc i) r h = answers_at rows (M.after x.request b) i r h

module _ {M : Machine} (base : M.Log) (s : State M) (v : Invariant base s) where
  is-reply : (k : Telling M) → In k s.told → IsReply base s.rows k
  is-reply k i = let o = v.told k i in (
    o.stands,
    subst (At (replies s.rows base) k.place) (sym o.answer) (answers_at s.rows base k.place (row k.append) o.stands),
    o.answer,
  )

  different-rows : (l : List (Telling M)) → ((k : Telling M) → In k l → In k s.told) → Apart l → DifferentRows l
  different-rows [] f h = tt
  different-rows (a ∷ l) f h = ((λ k i e. h.0 k i (id k i e)), different-rows l (λ k i. f k (inr i)) h.1)
    where
      id : (k : Telling M) → In k l → k.place ≡ a.place → k.append.id ≡ a.append.id
      id k i e = ap (λ (r : Row M). r.id) (at_one s.rows a.place (row k.append) (row a.append)
          (subst (λ (n : ℕ). At s.rows n (row k.append)) e (v.told k (f k (inr i))).stands) (v.told a (f a (inl refl))).stands)

  different-askings : (l : List (Telling M)) → ((k : Telling M) → In k l → In k s.told) → Apart l → DifferentAskings l
  different-askings [] f h = tt
  different-askings (a ∷ l) f h = (
    (λ k i e. h.0 k i (ap (λ (m : Append M). m.id)
        (v.once k.append a.append (v.told k (f k (inr i))).sent (v.told a (f a (inl refl))).sent e))),
    different-askings l (λ k i. f k (inr i)) h.1,
  )

-- The rows of a run only grow, by one at a time; and so does what was told.
move-grows : {M : Machine} (base : M.Log) (s : State M) (c : ℕ) (t : State M) → Move base s c t → Grows s.rows t.rows × (length t.rows ≤ length s.rows + 1)
move-grows base s c t (ask x p) = (grows-not s.rows, omega arith)
move-grows base s c t (look n runs h w f) = (grows-not s.rows, omega arith)
move-grows base s c t (read a l n p h e w) = (grows-not s.rows, omega arith)
move-grows base s c t (refuse a p e) = (grows-not s.rows, omega arith)
move-grows base s c t (send a l id p ok new) = (grows-not s.rows, omega arith)
move-grows base s c t (store m h q e) = (grows_one s.rows (row m), omega (arith, length-append s.rows (row m ∷ [])))
move-grows base s c t (tell m r p h e) = (grows-not s.rows, omega arith)
move-grows base s c t (leave runs) = (grows-not s.rows, omega arith)
move-grows base s c t crash = (grows-not s.rows, omega arith)
move-grows base s c t halt = (grows-not s.rows, omega arith)

move-keeps : {M : Machine} (base : M.Log) (s : State M) (c : ℕ) (t : State M) → Move base s c t
    → ((k : Telling M) → In k s.told → In k t.told) × ((d : Denied M) → In d s.denied → In d t.denied)
move-keeps base s c t (ask x p) = ((λ k i. i), (λ d i. i))
move-keeps base s c t (look n runs h w f) = ((λ k i. i), (λ d i. i))
move-keeps base s c t (read a l n p h e w) = ((λ k i. i), (λ d i. i))
move-keeps base s c t (refuse a p e) = ((λ k i. i), (λ d i. inr i))
move-keeps base s c t (send a l id p ok new) = ((λ k i. i), (λ d i. i))
move-keeps base s c t (store m h q e) = ((λ k i. i), (λ d i. i))
move-keeps base s c t (tell m r p h e) = ((λ k i. inr i), (λ d i. i))
move-keeps base s c t (leave runs) = ((λ k i. i), (λ d i. i))
move-keeps base s c t crash = ((λ k i. i), (λ d i. i))
move-keeps base s c t halt = ((λ k i. i), (λ d i. i))

grows-on : {M : Machine} (a b c : List (Row M)) → Grows a b → Grows b c → Grows a c
grows-on a b c h k = record {
  longer = omega (arith, h.longer, k.longer);
  same = λ n w. k.same n (omega (arith, h.longer)) ∙ h.same n w;
  stands = λ i r w. k.stands i r (h.stands i r w);
}

pub run-grows : {M : Machine} (base : M.Log) (s t : State M) → Run base s t → Grows s.rows t.rows
run-grows base s t here = grows-not s.rows
run-grows base s t (on {t = u} c r m) = grows-on s.rows u.rows t.rows (run-grows base s u r) (move-grows base u c t m).0

told-kept : {M : Machine} (base : M.Log) (s t : State M) → Run base s t → (k : Telling M) → In k s.told → In k t.told
told-kept base s t here k i = i
told-kept base s t (on {t = u} c r w) k i = (move-keeps base u c t w).0 k (told-kept base s u r k i)

denied-kept : {M : Machine} (base : M.Log) (s t : State M) → Run base s t → (d : Denied M) → In d s.denied → In d t.denied
denied-kept base s t here d i = i
denied-kept base s t (on {t = u} c r w) d i = (move-keeps base u c t w).1 d (denied-kept base s u r d i)

-- A run comes through every number of rows.
moment : {M : Machine} (base : M.Log) (s t : State M) → Run base s t → (n : ℕ) → length s.rows ≤ n → n ≤ length t.rows
    → (u : State M) × Run base s u × Run base u t × (length u.rows ≡ n)
moment base s t here n h w = (s, here, here, omega arith)
moment base s t (on {t = u} c r m) n h w = by-test (less (length u.rows) n)
    (λ (q : length u.rows < n). (t, on c r m, here, omega (arith, (move-grows base u c t m).1)))
    (λ (q : n ≤ length u.rows). let o = moment base s u r n h q in (o.0, o.1, on c o.2 m, o.3))

module _ {M : Machine} (base : M.Log) (s : State M) (r : Reachable base s) where
  v : Invariant base s
  v = reachable-invariant base s r

  pub told-is-replay : ToldIsReplay base s
  told-is-replay = record {
    now = is-reply base s v;
    kept = λ t w k i. is-reply base t (run-invariant base s t v w) k (told-kept base s t w k i);
  }

  pub told-once : ToldOnce base s
  told-once = record {
    rows = v.rows;
    one-row = λ m n h k e i j q p a b x y. v.one-row i j q p a b (x ∙ ap (λ (z : Append M). z.id) (v.once m n h k e) ∙ sym y);
    different-rows = different-rows base s v s.told (λ k i. i) v.apart;
    different-askings = different-askings base s v s.told (λ k i. i) v.apart;
    different-denials = v.denied-apart;
    no_row = λ d i t w j q h m k e o. (run-invariant base s t v w).unsent d (denied-kept base s t w d i) m k o;
    not-both = λ d i k j e. v.unsent d i k.append (v.told k j).sent e;
  }

  pub withdrawn-has-none : WithdrawnHasNone base s
  withdrawn-has-none = record { never = never-sent base s v }

  pub rows-are-accounted : RowsAreAccounted s
  rows-are-accounted = record {
    whose = whose;
    one-a-crash = v.forgotten;
    count = λ cs f. omega (
      arith,
      covers (λ (x : Row M). x.id) s.rows (ids cs) v.one-row (λ i q h. named cs f i q (whose i q h)),
      length-append (map told-id s.told) (map sent-id s.forgotten ++ map awaited cs),
      length-append (map sent-id s.forgotten) (map awaited cs),
      length-map s.told told-id,
      length-map s.forgotten sent-id,
      length-map cs awaited,
    );
  }
    where
      at : (i : ℕ) (q : Row M) → At s.rows i q → (m : Append M) → row m ≡ q → Owned s m → Whose s i q
      at i q h m e (invariant.told k j x) = Whose.told k j
          (v.one-row k.place i (row k.append) q (v.told k j).stands h (ap (λ (n : Append M). n.id) x ∙ ap (λ (z : Row M). z.id) e)) (ap row x ∙ e)
      at i q h m e (invariant.pends x) = Whose.pending m.asking.asker m x e
      at i q h m e (invariant.forgotten x) = Whose.forgotten m x e

      whose : (i : ℕ) (q : Row M) → At s.rows i q → Whose s i q
      whose i q h = let o = v.rows i q h in at i q h o.0 o.2 (v.owned o.0 o.1)

      -- The ids of what was told, was forgotten, and is waited for.
      told-id : Telling M → ℕ
      told-id k = k.append.id

      sent-id : Append M → ℕ
      sent-id m = m.id

      id-of : Phase M → ℕ
      id-of idle = 0
      id-of (asked a l) = 0
      id-of (waiting m) = m.id
      id-of halted = 0

      awaited : ℕ → ℕ
      awaited c = id-of (s.controllers c).phase

      ids : List ℕ → List ℕ
      ids cs = map told-id s.told ++ (map sent-id s.forgotten ++ map awaited cs)

      named : (cs : List ℕ) → ((c : ℕ) (m : Append M) → (s.controllers c).phase ≡ waiting m → In c cs) → (i : ℕ) (q : Row M) → Whose s i q → In q.id (ids cs)
      named cs f i q (Whose.told k j e w) = in_left (map told-id s.told) _ q.id
          (subst (λ (n : ℕ). In n (map told-id s.told)) (ap (λ (z : Row M). z.id) w) (in_map told-id s.told k j))
      named cs f i q (Whose.forgotten m j w) = in_right (map told-id s.told) _ q.id (in_left (map sent-id s.forgotten) _ q.id
          (subst (λ (n : ℕ). In n (map sent-id s.forgotten)) (ap (λ (z : Row M). z.id) w) (in_map sent-id s.forgotten m j)))
      named cs f i q (Whose.pending c m p w) = in_right (map told-id s.told) _ q.id (in_right (map sent-id s.forgotten) _ q.id
          (subst (λ (n : ℕ). In n (map awaited cs)) (ap id-of p ∙ ap (λ (z : Row M). z.id) w) (in_map awaited cs c (f c m p))))

  pub real-time-order : RealTimeOrder s
  real-time-order = record {
    earlier = λ k l i j e.
        let o = v.told l j in
        let w = own_row base s v l.append o.sent l.place (row l.append) o.stands refl in
        omega (arith, (v.sent l.append o.sent).earlier k i e, w.1);
  }

  pub refusals-are-right : RefusalsAreRight base s
  refusals-are-right = record { right = right }
    where
      right : (t : State M) → Run base s t → (d : Denied M) → In d t.denied → d.asking.since ≡ length s.rows
          → (u : State M) × Run base s u × Run base u t × Refuses M d.asking.request (replay u.rows base) ×
          (d.answer ≡ M.answer d.asking.request (replay u.rows base))
      right t w d i e =
          let o = (run-invariant base s t v w).denied d i in
          let m = moment base s t w d.known (omega (arith, o.from)) o.to in
          let same : M.answer d.asking.request (replay m.0.rows base) ≡ d.answer =
          ap (λ (rows : List (Row M)). M.answer d.asking.request (replay rows base))
          (sym (take_all d.known m.0.rows (omega (arith, m.3))) ∙ sym ((run-grows base m.0 t m.2).same d.known (omega (arith, m.3))))
          ∙ sym o.answer in
          (m.0, m.1, m.2, ap M.refuses same ∙ o.refused, sym same)

  pub copies-are-first-parts : CopiesAreFirstParts base s
  copies-are-first-parts = record {
    known = λ c. (v.controllers c).known;
    copy = λ c. (v.controllers c).copy;
  }

-- There is an id that no append ever had, and that is not 0.
pub new-id : {M : Machine} (ms : List (Append M)) → (id : ℕ) × ((m : Append M) → In m ms → m.id < id) × (0 < id)
new-id [] = (1, (λ m i. absurd i), omega arith)
new-id {M} (x ∷ ms) = let o = new-id ms in (
  o.0 + x.id + 1,
  (λ m i. ⊎_elim (λ (q : m ≡ x). omega (arith, ap (λ (y : Append M). y.id) q)) (λ (h : In m ms). omega (arith, o.1 m h)) i),
  omega arith,
)

-- A row has an id, or none has.
pub find-id : {M : Machine} (rows : List (Row M)) (id : ℕ) → ((i : ℕ) × (r : Row M) × At rows i r × (r.id ≡ id)) ⊎ Free rows id
find-id [] id = inr (λ i r h e. h)
find-id {M} (x ∷ rows) id = by-test (same x.id id) (λ (e : x.id ≡ id). inl (0, x, refl, e)) (λ (e : x.id ≡ id → ⊥). on-rows e (find-id rows id))
  where
    none : (x.id ≡ id → ⊥) → Free rows id → Free (x ∷ rows) id
    none e f zero r h q = e (ap (λ (y : Row M). y.id) h ∙ q)
    none e f (suc i) r h q = f i r h q

    on-rows : (x.id ≡ id → ⊥) → ((i : ℕ) × (r : Row M) × At rows i r × (r.id ≡ id)) ⊎ Free rows id
        → ((i : ℕ) × (r : Row M) × At (x ∷ rows) i r × (r.id ≡ id)) ⊎ Free (x ∷ rows) id
    on-rows e (inl o) = inl (suc o.0, o.1, o.2, o.3)
    on-rows e (inr f) = inr (none e f)

-- Others' moves leave a controller as it is.
others-move : {M : Machine} (base : M.Log) (s : State M) (c d : ℕ) (t : State M) → (d ≡ c → ⊥) → Move base s d t → t.controllers c ≡ s.controllers c
others-move base s c d t w (ask x p) = put_other s.controllers d _ c (λ e. w (sym e))
others-move base s c d t w (look n runs h k f) = put_other s.controllers d _ c (λ e. w (sym e))
others-move base s c d t w (read a l n p h e k) = put_other s.controllers d _ c (λ e. w (sym e))
others-move base s c d t w (refuse a p e) = put_other s.controllers d _ c (λ e. w (sym e))
others-move base s c d t w (send a l id p ok new) = put_other s.controllers d _ c (λ e. w (sym e))
others-move base s c d t w (store m h q e) = refl
others-move base s c d t w (tell m r p h e) = put_other s.controllers d _ c (λ e. w (sym e))
others-move base s c d t w (leave runs) = put_other s.controllers d _ c (λ e. w (sym e))
others-move base s c d t w crash = put_other s.controllers d _ c (λ e. w (sym e))
others-move base s c d t w halt = put_other s.controllers d _ c (λ e. w (sym e))

pub around-same : {M : Machine} (base : M.Log) (c : ℕ) (s t : State M) → Around base c s t → t.controllers c ≡ s.controllers c
around-same base c s t nothing = refl
around-same base c s t (other {t = u} d w r m) = others-move base u c d t w m ∙ around-same base c s u r
around-same base c s t (late {t = u} m r i e f) = around-same base c s u r

pub around-invariant : {M : Machine} (base : M.Log) (c : ℕ) (s t : State M) → Invariant base s → Around base c s t → Invariant base t
around-invariant base c s t v r = run-invariant base s t v (around-run base c s t r)

pub around-grows : {M : Machine} (base : M.Log) (c : ℕ) (s t : State M) → Around base c s t → Grows s.rows t.rows
around-grows base c s t r = run-grows base s t (around-run base c s t r)

at_once : {M : Machine} (base : M.Log) (c : ℕ) (a : Asking M) (n : ℕ) (s : State M) → IsTold s a → Within base c a n s
at_once base c a zero s h = h
at_once base c a (suc n) s h = inl h

module _ {M : Machine} (base : M.Log) (c : ℕ) where
  abbrev phase-after : (s t : State M) → Around base c s t → (t.controllers c).phase ≡ (s.controllers c).phase
  phase-after s t r = ap (λ (k : Controller M). k.phase) (around-same base c s t r)

  -- One of its moves, after which it is told within n more.
  abbrev Moves : Asking M → ℕ → State M → Type 0
  Moves a n t = (u : State M) × Move base t c u × Within base c a n u

  -- Its own row is the next one: it tells.
  from_next : (n : ℕ) (s : State M) (m : Append M) (r : Row M) → (s.controllers c).phase ≡ waiting m → At s.rows (s.controllers c).known r → r.id ≡ m.id
      → Within base c m.asking (suc n) s
  from_next n s m r p h e = inr (λ t a. (
    _,
    tell m r (phase-after s t a ∙ p)
        (subst (λ (k : Controller M). At t.rows k.known r) (sym (around-same base c s t a)) ((around-grows base c s t a).stands (s.controllers c).known r h)) e,
    at_once base c m.asking n _ (inl (_, inl refl, refl)),
  ))

  -- Its own row is there: it reads up to it.
  reads-to-own : (n : ℕ) (t : State M) → Invariant base t → (m : Append M) (i : ℕ) (r : Row M) → (t.controllers c).phase ≡ waiting m → At t.rows i r → r.id ≡ m.id
      → Moves m.asking (suc n) t
  reads-to-own n t w m i r q there e =
      let k : Controller M = reading t.rows i (t.controllers c) in
      let o : In m t.sent × (m.asking.asker ≡ c) × Ahead t.rows (t.controllers c).known m =
      subst (PhaseRight t c (t.controllers c).known) q (w.controllers c).phase in
      let at_most : i < length t.rows = at_less t.rows i r there in (
        with_controller c k t,
        look i (subst Runs (sym q) tt) (o.2 i r there e) (omega (arith, at_most)) (λ n x j y z _ less g. omega (
          arith,
          w.one-row i j r y there z
              (e ∙ ap (λ (b : Append M). b.id) (same-append m n (sym q ∙ x)) ∙ sym g),
        )),
        from_next n (with_controller c k t) m r (ap (λ (b : Controller M). b.phase) (put_same t.controllers c k) ∙ q)
            (subst (λ (b : Controller M). At t.rows b.known r) (sym (put_same t.controllers c k)) there) e,
      )

  from-stored : (n : ℕ) (s : State M) → Invariant base s → (m : Append M) (i : ℕ) (r : Row M) → (s.controllers c).phase ≡ waiting m → At s.rows i r → r.id ≡ m.id
      → Within base c m.asking (suc (suc n)) s
  from-stored n s v m i r p h e =
      inr (λ t a. reads-to-own n t (around-invariant base c s t v a) m i r (phase-after s t a ∙ p) ((around-grows base c s t a).stands i r h) e)

  -- Its append is delivered, where it wasn't yet.
  from-waiting : (n : ℕ) (s : State M) → Invariant base s → (m : Append M) → (s.controllers c).phase ≡ waiting m → Within base c m.asking (suc (suc (suc n))) s
  from-waiting n s v m p = inr (λ t a. served t (around-invariant base c s t v a) (phase-after s t a ∙ p) (find-id t.rows m.id))
    where
      served : (t : State M) → Invariant base t → (t.controllers c).phase ≡ waiting m
          → ((i : ℕ) × (r : Row M) × At t.rows i r × (r.id ≡ m.id)) ⊎ Free t.rows m.id → Moves m.asking (suc (suc n)) t
      served t w q (inl x) = reads-to-own (suc n) t w m x.0 x.1 q x.2 x.3
      served t w q (inr f) =
          let o : In m t.sent × (m.asking.asker ≡ c) × Ahead t.rows (t.controllers c).known m =
          subst (PhaseRight t c (t.controllers c).known) q (w.controllers c).phase in
          let step : Move base t c (with_row m t) = store m o.0 o.1 f in
          (with_row m t, step, from-stored n (with_row m t) (move-invariant base t c w (with_row m t) step) m (length t.rows) (row m) q (at_new t.rows (row m)) refl)

  sends : (n : ℕ) (t : State M) → Invariant base t → (a : Asking M) (l : Bool) → (t.controllers c).phase ≡ asked a l → Accepts M a.request (t.controllers c).copy
      → Moves a (suc (suc (suc n))) t
  sends n t w a l q ok =
      let o = new-id t.sent in
      let m : Append M = append o.0 a in
      let k : Controller M = in_phase (waiting m) (t.controllers c) in
      let u : State M = with_sent m (with_controller c k t) in
      let step : Move base t c u = send a l o.0 q ok (λ n i e. omega (arith, o.1 n i)) in
      (u, step, from-waiting n u (move-invariant base t c w u step) m (ap (λ (b : Controller M). b.phase) (put_same t.controllers c k)))

  -- It has read since it was asked: it says the refusal, or sends.
  from-current : (n : ℕ) (s : State M) → Invariant base s → (a : Asking M) → (s.controllers c).phase ≡ asked a true → Within base c a (suc (suc (suc (suc n)))) s
  from-current n s v a p = inr (λ t w. by_bool (M.refuses (M.answer a.request (t.controllers c).copy))
      (λ o. (_, refuse a (phase-after s t w ∙ p) o, at_once base c a (suc (suc (suc n))) _ (inr (_, inl refl, refl))))
      (λ o. sends n t (around-invariant base c s t v w) a true (phase-after s t w ∙ p) o))

  from-asked : (n : ℕ) (s : State M) → Invariant base s → (a : Asking M) (l : Bool) → (s.controllers c).phase ≡ asked a l
      → Within base c a (suc (suc (suc (suc (suc n))))) s
  from-asked n s v a l p = inr (λ t w. by_bool (M.refuses (M.answer a.request (t.controllers c).copy))
      (λ o. reads t (around-invariant base c s t v w) (phase-after s t w ∙ p))
      (λ o. sends (suc n) t (around-invariant base c s t v w) a l (phase-after s t w ∙ p) o))
    where
      reads : (t : State M) → Invariant base t → (t.controllers c).phase ≡ asked a l → Moves a (suc (suc (suc (suc n)))) t
      reads t w q =
          let k : Controller M = in_phase (asked a true) (reading t.rows (length t.rows) (t.controllers c)) in
          let o : AskedRight t a × (a.asker ≡ c) × (l ≡ true → a.since ≤ (t.controllers c).known) =
          subst (PhaseRight t c (t.controllers c).known) q (w.controllers c).phase in
          let step : Move base t c (with_controller c k t) = read a l (length t.rows) q (w.controllers c).known o.0.since (omega arith) in (
            with_controller c k t,
            step,
            from-current n (with_controller c k t) (move-invariant base t c w (with_controller c k t) step) a (ap (λ (b : Controller M). b.phase) (put_same t.controllers c k)),
          )

pub wait-free : {M : Machine} (base : M.Log) (s : State M) → Reachable base s → WaitFree base s
wait-free base s r = record {
  asks = λ c a l p. from-asked base c 0 s (reachable-invariant base s r) a l p;
  waits = λ c m p. from-waiting base c 0 s (reachable-invariant base s r) m p;
}

module _ {M : Machine} (base : M.Log) (s : State M) where
  abbrev Silent : ℕ → State M → Type 0
  Silent c t = (t.sent ≡ s.sent) × (t.told ≡ s.told) × (t.denied ≡ s.denied) × (((t.controllers c).phase ≡ halted) ⊎ (t.controllers c ≡ starting base))

  silent : (c : ℕ) → (s.controllers c).phase ≡ halted → (t : State M) → Move base s c t → Silent c t
  silent c p t (ask x q) = absurd (cc (sym q ∙ p))
  silent c p t (look n runs h w f) = absurd (subst Runs p runs)
  silent c p t (read a l n q h e w) = absurd (cc (sym q ∙ p))
  silent c p t (refuse a q e) = absurd (cc (sym q ∙ p))
  silent c p t (send a l id q ok new) = absurd (cc (sym q ∙ p))
  silent c p t (store m h q e) = (refl, refl, refl, inl p)
  silent c p t (tell m r q h e) = absurd (cc (sym q ∙ p))
  silent c p t (leave runs) = absurd (subst Runs p runs)
  silent c p t crash = (refl, refl, refl, inr (put_same s.controllers c (starting base)))
  silent c p t halt = (refl, refl, refl, inl (ap (λ (k : Controller M). k.phase) (put_same s.controllers c (in_phase halted (s.controllers c)))))

pub halted-is-silent : {M : Machine} (base : M.Log) (s : State M) → HaltedIsSilent base s
halted-is-silent base s = record { silent = silent base s }
