-- The promises of LosingPromise hold.
use Rattle.std.specs.Prelude.{ℕ, suc, ◌+◌, ◌<◌, ◌≤◌, ◌≡◌, ◌⊎◌, length, take}
use Rattle.std.proofs.Common.{arith, ◌∙◌, length-append, take-append-drop, take_all, take-take, length-take-le}
use Rattle.std.proofs.Math.Path.{refl, sym, ap, subst}
use mathlib.Core.List.{List, [], ◌∷◌, ◌++◌, append_assoc}
use Rattle.std.proofs.Math.Logic.{inl, inr, ⊎_elim}
use Rattle.std.proofs.Math.ListN.{drop}
use Rattle.std.proofs.lemmas.List.{take-append-le}
use Rattle.checks.specs.Test.{same}
use Rattle.checks.specs.TestLaws.{by-test}
use Rattle.chain.specs.Log.{put}
use Rattle.chain.proofs.Laws.Lists.{put_same, put_other}
use Rattle.sharing.specs.declared.controller.Phase.{Phase}
use Rattle.sharing.specs.declared.controller.Phase.TheVariants as phases
use Rattle.sharing.specs.declared.controller.Seen.TheVariants.{OtherHistory}
use Rattle.sharing.specs.Turns.{turn}
use Rattle.sharing.specs.Places.{At, In}
use Rattle.sharing.proofs.Laws.Places.{at-append, at_right, at_split, at_take, at-untake}
use Rattle.sharing.specs.Sharing.{Machine, Row, row, Telling, Controller, State, Move, ask, look, read, refuse, send, store, tell, leave, crash, halt, Run, Reachable}
use Rattle.sharing.specs.Losing.{Contents, table, chain_value, Agrees, Collision, known_to, table_place, Spares, Steady, next}
use Rattle.sharing.specs.Losing as losing
use Rattle.sharing.specs.LosingPromise.{LossIsFound, ToldIsKept}
use Rattle.sharing.proofs.SharingTheorem.{run-grows, told-is-replay, copies-are-first-parts}

first_of : Contents → ℕ
first_of [] = 0
first_of (x ∷ l) = x

rest_of : Contents → Contents
rest_of [] = []
rest_of (x ∷ l) = l

-- Contents are the same or are not.
same-contents : (x y : Contents) → (x ≡ y) ⊎ (x ≡ y → ⊥)
unfolding first_of rest_of
same-contents [] [] = inl refl
same-contents [] (y ∷ ys) = inr (λ e. omega (arith, ap length e))
same-contents (x ∷ xs) [] = inr (λ e. omega (arith, ap length e))
same-contents (x ∷ xs) (y ∷ ys) = by-test (same x y)
    (λ (e : x ≡ y). ⊎_elim
    (λ (q : xs ≡ ys). inl (ap (λ (n : ℕ). n ∷ xs) e ∙ ap (λ (l : Contents). y ∷ l) q))
    (λ (q : xs ≡ ys → ⊥). inr (λ w. q (ap rest_of w))) (same-contents xs ys))
    (λ (e : x ≡ y → ⊥). inr (λ w. e (ap first_of w)))

module _ (h : ℕ → Contents → ℕ) where
  -- Two lists of rows with one chain value: they are the same, from the same value, or h has taken two to one.
  same-chain : (v w : ℕ) (old new : List Contents) → length old ≡ length new → chain_value h v old ≡ chain_value h w new → ((v ≡ w) × (old ≡ new)) ⊎ Collision h
  unfolding chain_value
  same-chain v w [] [] n e = inl (e, refl)
  same-chain v w [] (y ∷ new) n e = absurd (omega arith)
  same-chain v w (x ∷ old) [] n e = absurd (omega arith)
  same-chain v w (x ∷ old) (y ∷ new) n e = ⊎_elim one (λ (o : Collision h). inr o) (same-chain (h v x) (h w y) old new (omega arith) e)
    where
      one : (h v x ≡ h w y) × (old ≡ new) → ((v ≡ w) × (x ∷ old ≡ y ∷ new)) ⊎ Collision h
      one o = by-test (same v w)
          (λ (a : v ≡ w). ⊎_elim
          (λ (b : x ≡ y). inl (a, ap (λ (r : Contents). r ∷ old) b ∙ ap (λ (l : List Contents). y ∷ l) o.1))
          (λ (b : x ≡ y → ⊥). inr (record { value = v; contents = x; other_value = w; other_contents = y; equal = o.0; different = λ q. b q.1 }))
          (same-contents x y))
          (λ (a : v ≡ w → ⊥). inr (record { value = v; contents = x; other_value = w; other_contents = y; equal = o.0; different = λ q. a q.0 }))

  found : (first : ℕ) (engine known : List Contents) → Agrees h first engine (length known) (chain_value h first known)
      → (take (length known) engine ≡ known) ⊎ Collision h
  found first engine known o = ⊎_elim
      (λ (q : (first ≡ first) × (take (length known) engine ≡ known)). inl q.1) (λ (q : Collision h). inr q)
      (same-chain first first (take (length known) engine) known (length-take-le (length known) engine o.0) o.1)

  goes_on : (v : ℕ) (known more : List Contents) → chain_value h v (known ++ more) ≡ chain_value h (chain_value h v known) more
  unfolding chain_value
  goes_on v [] more = refl
  goes_on v (x ∷ known) more = goes_on (h v x) known more

  reads_on : (first : ℕ) (engine known : List Contents) (n : ℕ) → Agrees h first engine (length known) (chain_value h first known) → length known ≤ n
      → (known ++ drop (length known) (take n engine) ≡ take n engine) ⊎ Collision h
  reads_on first engine known n o w = ⊎_elim
      (λ (q : take (length known) engine ≡ known). inl (ap (λ (l : List Contents). l ++ drop (length known) (take n engine))
      (sym q ∙ sym (take-take (length known) n engine w)) ∙ take-append-drop (length known) (take n engine)))
      (λ (q : Collision h). inr q) (found first engine known o)

  agrees-more : (first : ℕ) (known more : List Contents) → Agrees h first (known ++ more) (length known) (chain_value h first known)
  agrees-more first known more = (
    omega (arith, length-append known more),
    ap (chain_value h first) (take-append-le (length known) known more (omega arith) ∙ take_all (length known) known (omega arith)),
  )

pub loss-is-found : (h : ℕ → Contents → ℕ) (first : ℕ) → LossIsFound h first
loss-is-found h first = record {
  found = found h first;
  goes_on = goes_on h first;
  reads_on = reads_on h first;
  not-by-last = λ a b d n. (refl, λ e. n (sym (ap first-row e)));
  stops = stops;
}
  where
    first-row : List Contents → Contents
    first-row [] = []
    first-row (x ∷ l) = x

    stops : (p : Phase) → (turn p OtherHistory).phase ≡ phases.Halted
    stops phases.Idle = refl
    stops phases.Asked = refl
    stops phases.Current = refl
    stops (phases.Waiting id) = refl
    stops phases.Halted = refl

module _ {M : Machine} (f : Row M → List Contents) where
  pub table-append : (rows more : List (Row M)) → table f (rows ++ more) ≡ table f rows ++ table f more
  unfolding table
  table-append [] more = refl
  table-append (r ∷ rows) more = ap (λ (l : List Contents). f r ++ l) (table-append rows more) ∙ sym (append_assoc (f r) (table f rows) (table f more))

  -- A row of the system, row by row in the table.
  at_table : (rows : List (Row M)) (i j : ℕ) (r : Row M) (x : Contents) → At rows i r → At (f r) j x → At (table f rows) (length (table f (take i rows)) + j) x
  unfolding table
  at_table rows i j r x there k = subst (λ (l : List Contents). At l (length (table f (take i rows)) + j) x)
      (sym (ap (table f) (at_split rows i r there) ∙ table-append (take i rows) (r ∷ drop (suc i) rows)))
      (at_right (table f (take i rows)) (f r ++ table f (drop (suc i) rows)) j x (at-append (f r) (table f (drop (suc i) rows)) j x k))

-- No list is its own rest.
shorter : {A : Type 0} {P : Type 0} (a : A) (l : List A) → l ≡ a ∷ l → P
shorter a l e = absurd (omega (arith, ap length e))

first-telling : {M : Machine} → List (Telling M) → Telling M → Telling M
first-telling [] k = k
first-telling (a ∷ l) k = a

module _ {M : Machine} (base : M.Log) (c : ℕ) where
  -- What a controller knows grows, but for a crash.
  grows-by : (s t : State M) (d : ℕ) (k : Controller M) → t.controllers ≡ put s.controllers d k → (d ≡ c → (s.controllers c).known ≤ k.known)
      → (s.controllers c).known ≤ (t.controllers c).known
  grows-by s t d k e w = by-test (same c d)
      (λ (q : c ≡ d). subst (λ (n : ℕ). (s.controllers c).known ≤ n)
      (sym (ap (λ (g : ℕ → Controller M). (g c).known) e ∙ ap (λ (j : ℕ). (put s.controllers d k j).known) q ∙ ap (λ (x : Controller M). x.known) (put_same s.controllers d k)))
      (w (sym q)))
      (λ (q : c ≡ d → ⊥). subst (λ (n : ℕ). (s.controllers c).known ≤ n)
      (sym (ap (λ (g : ℕ → Controller M). (g c).known) e ∙ ap (λ (x : Controller M). x.known) (put_other s.controllers d k c q))) (omega arith))

  same_known : (s : State M) (d : ℕ) → d ≡ c → (s.controllers c).known ≤ (s.controllers d).known
  same_known s d e = let q : (s.controllers d).known ≡ (s.controllers c).known = ap (λ (j : ℕ). (s.controllers j).known) e in omega (arith, q)

  known-grows : (s : State M) (d : ℕ) (t : State M) (m : Move base s d t) → Spares c m → (s.controllers c).known ≤ (t.controllers c).known
  known-grows s d t (ask x p) o = grows-by s t d _ refl (same_known s d)
  known-grows s d t (look n runs k w g) o = grows-by s t d _ refl (λ e. let q = same_known s d e in omega (arith, q, k))
  known-grows s d t (read a l n p k e w) o = grows-by s t d _ refl (λ e. let q = same_known s d e in omega (arith, q, k))
  known-grows s d t (refuse a p e) o = grows-by s t d _ refl (same_known s d)
  known-grows s d t (send a l id p ok new) o = grows-by s t d _ refl (same_known s d)
  known-grows s d t (store m i q e) o = omega arith
  known-grows s d t (tell m r p i e) o = grows-by s t d _ refl (λ e. let q = same_known s d e in omega (arith, q))
  known-grows s d t (leave runs) o = grows-by s t d _ refl (same_known s d)
  known-grows s d t crash o = grows-by s t d _ refl (λ e. absurd (o e))
  known-grows s d t halt o = grows-by s t d _ refl (same_known s d)

  steady-grows : (s t : State M) → Steady base c s t → (s.controllers c).known ≤ (t.controllers c).known
  steady-grows s t losing.same = omega arith
  steady-grows s t (next {t = u} d r m o) = let q = steady-grows s u r in let w = known-grows u d t m o in omega (arith, q, w)

  -- What it has told is known to it.
  told-known : (s t : State M) → Move base s c t → (k : Telling M) → t.told ≡ k ∷ s.told → k.place < (t.controllers c).known
  unfolding first-telling
  told-known s t (ask x p) k e = shorter k s.told e
  told-known s t (look n runs a w g) k e = shorter k s.told e
  told-known s t (read a l n p b q w) k e = shorter k s.told e
  told-known s t (refuse a p q) k e = shorter k s.told e
  told-known s t (send a l id p ok new) k e = shorter k s.told e
  told-known s t (store m i q w) k e = shorter k s.told e
  told-known s t (tell m r p i q) k e =
      let place : (s.controllers c).known ≡ k.place = ap (λ (l : List (Telling M)). (first-telling l k).place) e in
      let known : (t.controllers c).known ≡ (s.controllers c).known + 1 = ap (λ (x : Controller M). x.known) (put_same s.controllers c _) in
      omega (arith, place, known)
  told-known s t (leave runs) k e = shorter k s.told e
  told-known s t crash k e = shorter k s.told e
  told-known s t halt k e = shorter k s.told e

pub told-is-kept : {M : Machine} (f : Row M → List Contents) (h : ℕ → Contents → ℕ) (first : ℕ) (base : M.Log) (s : State M) → Reachable base s
    → ToldIsKept f h first base s
told-is-kept {M} f h first base s r = record {
  stands = stands;
  own = λ c t m k e u w. let q = told-known base c s t m k e in let z = steady-grows base c t u w in omega (arith, q, z);
  agrees = agrees;
}
  where
    stands : (c : ℕ) (k : Telling M) → In k s.told → k.place < (s.controllers c).known
        → (engine : List Contents) → Agrees h first engine (length (known_to f s c)) (chain_value h first (known_to f s c))
        → (j : ℕ) (x : Contents) → At (f (row k.append)) j x → At engine (table_place f s k.place + j) x ⊎ Collision h
    stands c k i w engine o j x there = ⊎_elim
        (λ (q : take (length (known_to f s c)) engine ≡ known_to f s c).
        inl (at-untake engine (table_place f s k.place + j) (length (known_to f s c)) x
        (subst (λ (l : List Contents). At l (table_place f s k.place + j) x) (sym q) among)))
        (λ (q : Collision h). inr q) (found h first engine (known_to f s c) o)
      where
        early : List (Row M)
        early = take (s.controllers c).known s.rows

        stood : At early k.place (row k.append)
        stood = at_take s.rows k.place (s.controllers c).known (row k.append) ((told-is-replay base s r).now k i).0 w

        among : At (known_to f s c) (table_place f s k.place + j) x
        among = subst (λ (l : List (Row M)). At (known_to f s c) (length (table f l) + j) x) (take-take k.place (s.controllers c).known s.rows (omega arith))
            (at_table f early k.place j (row k.append) x stood there)

    agrees : (t : State M) → Run base s t → (c : ℕ) → Agrees h first (table f t.rows) (length (known_to f s c)) (chain_value h first (known_to f s c))
    agrees t w c = subst (λ (l : List Contents). Agrees h first l (length (known_to f s c)) (chain_value h first (known_to f s c)))
        (ap (λ (l : List Contents). l ++ table f (drop n t.rows)) (ap (table f) (sym ((run-grows base s t w).same n ((copies-are-first-parts base s r).known c))))
        ∙ sym (table-append f (take n t.rows) (drop n t.rows)) ∙ ap (table f) (take-append-drop n t.rows))
        (agrees-more h first (known_to f s c) (table f (drop n t.rows)))
      where
        n : ℕ
        n = (s.controllers c).known
