-- The accepted writes of single steps: those that the journal notes, and the place of each among them.
use Rattle.std.specs.Prelude.{ℕ, suc, ◌<◌, ◌≡◌, refl, length, take}
use Rattle.std.proofs.Common.{arith, sym, subst, ◌∙◌, length-append, take-take}
use Rattle.std.proofs.Math.Path.{ap}
use mathlib.Core.List.{List, [], ◌∷◌, ◌++◌, map, append_assoc, append-nil}
use Rattle.std.proofs.Math.ListN.{drop}
use Rattle.records.specs.declared.entry.Entry.{Entry}
use Rattle.chain.specs.declared.answer.Position.{Position}
use Rattle.chain.specs.declared.answer.Answer.{Answer}
use Rattle.chain.specs.declared.answer.Answer.TheVariants.{Done, WasClosed, Behind, Written, Refused}
use Rattle.chain.specs.Steps.{Kind, name, become, abdicate, fetch, close_last, finish, create, append, close_own, write, Content, amount, Step}
use Rattle.chain.specs.Operations.{Buffers, step_answer, after_step, step_answers}
use Rattle.chain.specs.Journal.{Journal, on_done, note_fetch, note_close, note_create, note_append, note, journal, chain_word, Read, read_of}
use Rattle.chain.proofs.Laws.Lists.{map_snoc}
use Rattle.sharing.specs.Places.{At}
use Rattle.sharing.proofs.Laws.Places.{at_split, at-seam, at_take, at_map}
use Rattle.shared.specs.Shared.{Kept, Change, step, set_mark, drop_mark, set_rights, change_answer, after_change, after_changes, if_written, written, change_written, writes, read_word}
use Rattle.shared.proofs.Laws.Replays.{step_of, steps}

-- A step that is no write adds none to the journal's accepted writes.
no_write : (a : Answer) (f : Journal → Journal) (j : Journal) → (f j).accepted ≡ j.accepted
    → map read_of (on_done a f j).accepted ≡ map read_of j.accepted ++ []
no_write Done f j h = ap (map read_of) h ∙ sym (append-nil (map read_of j.accepted))
no_write WasClosed f j h = sym (append-nil (map read_of j.accepted))
no_write Behind f j h = sym (append-nil (map read_of j.accepted))
no_write (Written n) f j h = sym (append-nil (map read_of j.accepted))
no_write (Refused r) f j h = sym (append-nil (map read_of j.accepted))

noted-write : (z : Content) (c : ℕ) (a : Answer) (j : Journal) → map read_of (note (write z) c a j).accepted ≡ map read_of j.accepted ++ written (write z) c a
noted-write z c Done j = sym (append-nil (map read_of j.accepted))
noted-write z c WasClosed j = sym (append-nil (map read_of j.accepted))
noted-write z c Behind j = sym (append-nil (map read_of j.accepted))
noted-write z c (Written n) j = map_snoc read_of j.accepted _
noted-write z c (Refused r) j = sym (append-nil (map read_of j.accepted))

-- What the journal notes of a step: its write, if it is one and is stored.
noted : (y : Kind) (c : ℕ) (a : Answer) (j : Journal) → map read_of (note y c a j).accepted ≡ map read_of j.accepted ++ written y c a
noted name c a j = sym (append-nil (map read_of j.accepted))
noted become c a j = sym (append-nil (map read_of j.accepted))
noted abdicate c a j = sym (append-nil (map read_of j.accepted))
noted fetch c a j = no_write a (note_fetch c) j refl
noted close_last c a j = sym (append-nil (map read_of j.accepted))
noted finish c a j = no_write a (note_close (j.fetched c)) j refl
noted create c a j = no_write a (note_create c) j refl
noted append c a j = no_write a (note_append c) j refl
noted close_own c a j = no_write a (note_close (j.latest c)) j refl
noted (write z) c a j = noted-write z c a j

-- The writes of steps are those of the single steps.
unfoldable pub step_writes : List Step → Buffers → List Read
step_writes [] b = []
step_writes (x ∷ xs) b = written x.kind x.client (step_answer x b) ++ step_writes xs (after_step x b)

change-writes : (x : Change) (m : Kept) (xs : List Step)
    → step_writes (step_of x m ++ xs) m.log ≡ change_written x (change_answer x m) ++ step_writes xs (after_change x m).log
unfolding step_writes
change-writes (step k c) m xs = refl
change-writes (set_mark n) m xs = refl
change-writes (drop_mark n) m xs = refl
change-writes (set_rights c word) m xs = refl

pub changes-writes : (xs : List Change) (m : Kept) → step_writes (steps xs m) m.log ≡ writes xs m
unfolding steps step_writes writes
changes-writes [] m = refl
changes-writes (x ∷ xs) m = change-writes x m (steps xs (after_change x m))
    ∙ ap (λ (l : List Read). change_written x (change_answer x m) ++ l) (changes-writes xs (after_change x m))

pub all_noted : (xs : List Step) (b : Buffers) (j : Journal) → map read_of (journal xs (step_answers xs b) j).accepted ≡ map read_of j.accepted ++ step_writes xs b
unfolding journal step_answers step_writes
all_noted [] b j = sym (append-nil (map read_of j.accepted))
all_noted (x ∷ xs) b j =
    all_noted xs (after_step x b) (note x.kind x.client (step_answer x b) j)
    ∙ ap (λ (l : List Read). l ++ step_writes xs (after_step x b)) (noted x.kind x.client (step_answer x b) j)
    ∙ append_assoc (map read_of j.accepted) (written x.kind x.client (step_answer x b)) (step_writes xs (after_step x b))

pub words-of-reads : (es : List Entry) → map chain_word es ≡ map read_word (map read_of es)
words-of-reads [] = refl
words-of-reads (e ∷ es) = ap (λ (l : List ℕ). chain_word e ∷ l) (words-of-reads es)

writes-append : (xs ys : List Change) (m : Kept) → writes (xs ++ ys) m ≡ writes xs m ++ writes ys (after_changes xs m)
unfolding writes after_changes
writes-append [] ys m = refl
writes-append (x ∷ xs) ys m = ap (λ (l : List Read). change_written x (change_answer x m) ++ l) (writes-append xs ys (after_change x m))
    ∙ sym (append_assoc (change_written x (change_answer x m)) (writes xs (after_change x m)) (writes ys (after_changes xs (after_change x m))))

-- A single step that is a write and is stored: the writes before it, its own, and those after it.
module _ (xs : List Change) (m : Kept) (i : ℕ) (z : Content) (c : ℕ) (n : Position) (h : At xs i (step (write z) c))
    (ok : change_answer (step (write z) c) (after_changes (take i xs) m) ≡ Written n) where
  abbrev mine : Read
  mine = record { client = c; value = amount z }

  writes-split : (rest : List Read) × (writes xs m ≡ writes (take i xs) m ++ (mine ∷ rest))
  unfolding writes
  writes-split = (
    writes (drop (suc i) xs) (after_change (step (write z) c) (after_changes (take i xs) m)),
    ap (λ (l : List Change). writes l m) (at_split xs i (step (write z) c) h)
        ∙ writes-append (take i xs) (step (write z) c ∷ drop (suc i) xs) m
        ∙ ap (λ (a : Answer). writes (take i xs) m ++ (if_written a mine ++ writes (drop (suc i) xs) (after_change (step (write z) c) (after_changes (take i xs) m)))) ok,
  )

  pub word_at : At (map read_word (writes xs m)) (length (writes (take i xs) m)) (read_word mine)
  word_at = at_map read_word (writes xs m) (length (writes (take i xs) m)) mine
      (subst (λ (l : List Read). At l (length (writes (take i xs) m)) mine) (sym writes-split.1)
      (at-seam (writes (take i xs) m) mine writes-split.0))

pub writes-before : (xs : List Change) (m : Kept) (i j : ℕ) (z : Content) (c : ℕ) (n : Position) → At xs i (step (write z) c)
    → change_answer (step (write z) c) (after_changes (take i xs) m) ≡ Written n → i < j → length (writes (take i xs) m) < length (writes (take j xs) m)
writes-before xs m i j z c n h ok w =
    let same : take i (take j xs) ≡ take i xs = take-take i j xs (omega arith) in
    let o = writes-split (take j xs) m i z c n (at_take xs i j (step (write z) c) h w)
    (ap (λ (l : List Change). change_answer (step (write z) c) (after_changes l m)) same ∙ ok) in
    omega (
      arith,
      ap length o.1,
      length-append (writes (take i (take j xs)) m) (record { client = c; value = amount z } ∷ o.0),
      ap (λ (l : List Change). length (writes l m)) same,
    )
