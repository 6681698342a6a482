-- The promises of SharedPromise hold.
use Rattle.std.specs.Prelude.{ℕ, zero, suc, ◌<◌, ◌≡◌, refl, true, false, List, [], ◌∷◌, map, ◌⊎◌, length, take, drop, eqb}
use Rattle.std.proofs.Common.{arith, sym, ap, subst, subst₂, ◌∙◌, ⊎_elim, take-append-drop, eqb-true}
use Rattle.std.proofs.lemmas.Bool.{false≢true}
use Rattle.checks.specs.TestLaws.{by_bool}
use Rattle.checks.specs.Checks.{first-refused}
use Rattle.chain.specs.declared.answer.Refusal.{Refusal}
use Rattle.chain.specs.declared.answer.Position.{Position}
use Rattle.chain.specs.declared.answer.Answer.{Answer}
use Rattle.chain.specs.declared.answer.Answer.TheVariants.{Done, Written, Refused}
use Rattle.chain.specs.Answers.{is_refused}
use Rattle.chain.specs.Steps.{write, Content, amount, Step, by}
use Rattle.chain.specs.Operations.{Buffers, after_steps, fresh_answer, after_fresh, chain_reading}
use Rattle.chain.specs.Journal.{start}
use Rattle.chain.specs.LogPromise.{told}
use Rattle.chain.proofs.LogTheorem.{whole-history, refusals-change-nothing}
use Rattle.chain.proofs.MarkingTheorem.{marks-hold}
use Rattle.chain.proofs.GrowingTheorem.{readings-grow}
use Rattle.sharing.specs.Places.{At, In}
use Rattle.sharing.proofs.Laws.Places.{at_less, at_some, at_one}
use Rattle.sharing.specs.Sharing.{Row, replay, log_at, Append, row, Telling, State, initial, Move, ask, look, read, refuse, send, store, tell, leave, crash, halt, Run, here, on, Reachable}
use Rattle.sharing.specs.SharingPromise.{IsReply, CopiesAreFirstParts}
use Rattle.sharing.proofs.SharingTheorem.{told-is-replay, told-once, copies-are-first-parts}
use Rattle.sharing.proofs.Laws.Invariant.{reachable-invariant}
use Rattle.shared.specs.Shared.{Kept, kept, Change, step, set_mark, drop_mark, set_rights, set_rights_checks, change_answer, after_change, after_changes, change_answers, all_refused, run_log, changes, writes, read_word, spot, index}
use Rattle.shared.specs.SharedPromise.{Single, Stored, StepsAreAnswered, ReadingIsRows}
use Rattle.shared.proofs.Laws.Replays.{steps, steps-append, rows_append, replayed, at-changes, state-at, answers_at, later-row, one_spot}
use Rattle.shared.proofs.Laws.Writes.{changes-writes, all_noted, words-of-reads, word_at, writes-before}

-- A step that is refused changes nothing.
refused-step : (x : Change) (m : Kept) (r : Refusal) → change_answer x m ≡ Refused r → after_change x m ≡ m
refused-step (step k c) m r e = ap (λ (b : Buffers). kept b m.marks m.rights) (refusals-change-nothing.step (by m.rights c k) m.log r e)
refused-step (set_mark n) m r e = ap (λ (ms : List ℕ). kept m.log ms m.rights) (marks-hold.refused-set n m.log m.marks r e)
refused-step (drop_mark n) m r e = ap (λ (ms : List ℕ). kept m.log ms m.rights) (marks-hold.refused-drop n m.log m.marks r e)
refused-step (set_rights c word) m r e = ap (λ (ws : List ℕ). kept m.log m.marks ws)
    (first-refused (set_rights_checks c word m) Refused Done (Refused r) m.rights _ not_done e)
  where
    not_done : Done ≡ Refused r → ⊥
    not_done q = cc

-- Each step has an answer.
as_many : (xs : List Change) (m : Kept) → length (change_answers xs m) ≡ length xs
unfolding change_answers
as_many [] m = refl
as_many (x ∷ xs) m = ap suc (as_many xs (after_change x m))

each-refused : (answers : List Answer) → all_refused answers ≡ true → (j : ℕ) (a : Answer) → At answers j a → is_refused a ≡ 1
each-refused [] e j a h = absurd h
each-refused (x ∷ answers) e zero a h = by_bool (eqb (is_refused x) 1)
    (λ t. ap is_refused (sym h) ∙ eqb-true (is_refused x) 1 t) (λ t. absurd (false≢true (rw t at e)))
each-refused (x ∷ answers) e (suc j) a h = by_bool (eqb (is_refused x) 1)
    (λ t. each-refused answers (rw t at e) j a h) (λ t. absurd (false≢true (rw t at e)))

-- What is accepted has a step, so what is sent has one, and every row.
some-step : (xs : List Change) (m : Kept) → all_refused (change_answers xs m) ≡ false → 0 < length xs
unfolding change_answers
some-step [] m e = absurd (false≢true (sym e))
some-step (x ∷ xs) m e = omega arith

abbrev SomeSteps : State run_log → Type 0
SomeSteps s = (m : Append run_log) → In m s.sent → 0 < length m.asking.request

move-steps : (base : Kept) (s : State run_log) (c : ℕ) (t : State run_log) → Move {M = run_log} base s c t → SomeSteps s → SomeSteps t
move-steps base s c t (ask x p) h = h
move-steps base s c t (look n runs k w f) h = h
move-steps base s c t (read a l n p k e w) h = h
move-steps base s c t (refuse a p e) h = h
move-steps base s c t (send a l id p ok new) h = λ m i. ⊎_elim
    (λ (q : m ≡ _). subst (λ (x : Append run_log). 0 < length x.asking.request) (sym q) (some-step a.request (s.controllers c).copy ok))
    (λ (o : In m s.sent). h m o) i
move-steps base s c t (store m i q e) h = h
move-steps base s c t (tell m r p i e) h = h
move-steps base s c t (leave runs) h = h
move-steps base s c t crash h = h
move-steps base s c t halt h = h

run-steps : (base : Kept) (s t : State run_log) → Run {M = run_log} base s t → SomeSteps s → SomeSteps t
run-steps base s t here h = h
run-steps base s t (on {t = u} c r m) h = move-steps base u c t m (run-steps base s u r h)

module _ (base : Kept) (s : State run_log) (reached : Reachable {M = run_log} base s) where
  has-step : (i : ℕ) (r : Row run_log) → At s.rows i r → 0 < length r.request
  has-step i r h =
      let o = (told-once base s reached).rows i r h in
      subst (λ (q : Row run_log). 0 < length q.request) o.2 (run-steps base (initial run_log base) s reached (λ m i. absurd i) o.0 o.1)

  single-at : (t : State run_log) → (k : Telling run_log) → IsReply base t.rows k → (j : ℕ) (x : Change) (a : Answer) → Single k j x a
      → At (changes t.rows) (spot t.rows k.place j) x × At (change_answers (changes t.rows) base) (spot t.rows k.place j) a
  single-at t k o j x a e =
      let xs : List Change = k.append.asking.request in
      let there : At (changes t.rows) (spot t.rows k.place j) x = at-changes t.rows k.place j (row k.append) x o.0 e.change in
      let less : j < length xs = at_less xs j x e.change in
      let before = state-at t.rows base k.place j (row k.append) o.0 (omega (arith, less)) in
      let mine : change_answer x (after_changes (take (spot t.rows k.place j) (changes t.rows)) base) ≡ a =
      ap (change_answer x) before
      ∙ at_one k.answer j (change_answer x (after_changes (take j xs) (log_at base t.rows k.place))) a
      (subst (λ (l : List Answer). At l j (change_answer x (after_changes (take j xs) (log_at base t.rows k.place)))) (sym o.2)
      (answers_at xs (log_at base t.rows k.place) j x e.change)) e.answer in (
        there,
        subst (At (change_answers (changes t.rows) base) (spot t.rows k.place j)) mine
            (answers_at (changes t.rows) base (spot t.rows k.place j) x there),
      )

  pub steps-are-answered : StepsAreAnswered base s
  steps-are-answered = record {
    each = λ k i. ap length ((told-is-replay base s reached).now k i).2 ∙ as_many k.append.asking.request (log_at base s.rows k.place);
    single = λ t w k i j x a e. single-at t k ((told-is-replay base s reached).kept t w k i) j x a e;
    refused = refused-step;
    denied = λ d i. let o = (reachable-invariant base s reached).denied d i in (
      ap length o.answer ∙ as_many d.asking.request (log_at base s.rows d.known),
      each-refused d.answer o.refused,
    );
    further = λ i j w h. let o = at_some s.rows i (omega arith) in later-row s.rows i j 0 0 o.0 o.1 (has-step i o.0 o.1) w;
  }

pub reading-is-rows : (n : ℕ) (b : Buffers) → fresh_answer n b ≡ Done → (marks rights : List ℕ) (s : State run_log)
    → Reachable (kept (after_fresh n b) marks rights) s → ReadingIsRows (kept (after_fresh n b) marks rights) s
reading-is-rows n b d marks rights s r = record {
  reading = reading;
  told = λ k i j z c p e. subst
      (λ (l : List ℕ). At l (index s.rows base (spot s.rows k.place j)) (read_word (record { client = c; value = amount z })))
      (sym reading) (word_at (changes s.rows) base (spot s.rows k.place j) z c p (stands k i j z c p e) (stored k i j z c p e));
  in_order = in_order;
  once = λ k l i o j g x y c q m p e w same. one_spot k.place l.place j g
      (index s.rows base (spot s.rows k.place j)) (index s.rows base (spot s.rows l.place g))
      (λ h. in_order k l i j g x c m e h) (λ h. in_order l k o g j y q p w h) same;
  copies = λ c. subst (λ (copy : Kept). chain_reading copy.log ≡ take (length (chain_reading copy.log)) (chain_reading (replay s.rows base).log))
      (sym (first.copy c)) (grown (s.controllers c).known);
}
  where
    base : Kept
    base = kept (after_fresh n b) marks rights

    reply : (k : Telling run_log) → In k s.told → IsReply base s.rows k
    reply = (told-is-replay base s r).now

    first : CopiesAreFirstParts base s
    first = copies-are-first-parts base s r

    stands : (k : Telling run_log) → In k s.told → (j : ℕ) (z : Content) (c : ℕ) (p : Position) → Stored k j z c p
        → At (changes s.rows) (spot s.rows k.place j) (step (write z) c)
    stands k i j z c p e = at-changes s.rows k.place j (row k.append) (step (write z) c) (reply k i).0 e.change

    stored : (k : Telling run_log) → In k s.told → (j : ℕ) (z : Content) (c : ℕ) (p : Position) → Stored k j z c p
        → change_answer (step (write z) c) (after_changes (take (spot s.rows k.place j) (changes s.rows)) base) ≡ Written p
    stored k i j z c p e =
        let less : j < length k.append.asking.request = at_less k.append.asking.request j (step (write z) c) e.change in
        ap (change_answer (step (write z) c)) (state-at s.rows base k.place j (row k.append) (reply k i).0 (omega (arith, less)))
        ∙ at_one k.answer j (change_answer (step (write z) c) (after_changes (take j k.append.asking.request) (log_at base s.rows k.place))) (Written p)
        (subst (λ (l : List Answer). At l j (change_answer (step (write z) c) (after_changes (take j k.append.asking.request) (log_at base s.rows k.place))))
        (sym (reply k i).2) (answers_at k.append.asking.request (log_at base s.rows k.place) j (step (write z) c) e.change)) e.answer

    further : (k l : Telling run_log) → In k s.told → (j g : ℕ) (z : Content) (c : ℕ) (p : Position) → Stored k j z c p
        → (k.place < l.place) ⊎ ((k.place ≡ l.place) × (j < g)) → spot s.rows k.place j < spot s.rows l.place g
    further k l i j g z c p e w =
        let less : j < length k.append.asking.request = at_less k.append.asking.request j (step (write z) c) e.change in
        ⊎_elim (λ (h : k.place < l.place). later-row s.rows k.place l.place j g (row k.append) (reply k i).0 less h)
        (λ (h : (k.place ≡ l.place) × (j < g)). omega (arith, h.1, ap (λ (p : ℕ). length (changes (take p s.rows))) h.0)) w

    in_order : (k l : Telling run_log) → In k s.told → (j g : ℕ) (z : Content) (c : ℕ) (p : Position) → Stored k j z c p
        → (k.place < l.place) ⊎ ((k.place ≡ l.place) × (j < g))
        → index s.rows base (spot s.rows k.place j) < index s.rows base (spot s.rows l.place g)
    in_order k l i j g z c p e w = writes-before (changes s.rows) base (spot s.rows k.place j) (spot s.rows l.place g) z c p
        (stands k i j z c p e) (stored k i j z c p e) (further k l i j g z c p e w)

    reading : chain_reading (replay s.rows base).log ≡ map read_word (writes (changes s.rows) base)
    reading = ap chain_reading (replayed s.rows base)
        ∙ (whole-history.shows n b d (steps (changes s.rows) base)).reading
        ∙ words-of-reads (told n b (steps (changes s.rows) base)).accepted
        ∙ ap (map read_word) (all_noted (steps (changes s.rows) base) (after_fresh n b) start ∙ changes-writes (changes s.rows) base)

    grown : (k : ℕ)
        → chain_reading (log_at base s.rows k).log ≡ take (length (chain_reading (log_at base s.rows k).log)) (chain_reading (replay s.rows base).log)
    grown k =
        let early : List Change = changes (take k s.rows) in
        let late : List Change = changes (drop k s.rows) in
        subst₂ (λ (x y : Buffers). chain_reading x ≡ take (length (chain_reading x)) (chain_reading y))
        (sym (replayed (take k s.rows) base))
        (ap (λ (xs : List Step). after_steps xs (after_fresh n b)) (sym (steps-append early late base)
        ∙ ap (λ (l : List Change). steps l base) (sym (rows_append (take k s.rows) (drop k s.rows)) ∙ ap changes (take-append-drop k s.rows)))
        ∙ sym (replayed s.rows base))
        (readings-grow.prefix n b d (steps early base) (steps late (after_changes early base)))
