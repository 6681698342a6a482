-- What the shared run log promises, step by step. SharedTheorem proves each.
use Rattle.std.specs.Prelude.{ℕ, ◌<◌, ◌≤◌, ◌≡◌, ◌⊎◌, map, length, take}
use Rattle.chain.specs.declared.answer.Refusal.{Refusal}
use Rattle.chain.specs.declared.answer.Position.{Position}
use Rattle.chain.specs.declared.answer.Answer.{Answer}
use Rattle.chain.specs.declared.answer.Answer.TheVariants.{Written, Refused}
use Rattle.chain.specs.Answers.{is_refused}
use Rattle.chain.specs.Steps.{write, Content, amount}
use Rattle.chain.specs.Operations.{Buffers, chain_reading}
use Rattle.sharing.specs.Places.{At, In}
use Rattle.sharing.specs.Sharing.{replay, Telling, Denied, State, Run}
use Rattle.shared.specs.Shared.{Kept, Change, step, change_answer, after_change, change_answers, run_log, changes, writes, read_word, spot, index}

-- The j-th step of a request that was told, and its answer; and that of a write which was told as stored.
pub record Single (k : Telling run_log) (j : ℕ) (x : Change) (a : Answer) : Type 0 where
  pub change : At k.append.asking.request j x
  pub answer : At k.answer j a

abbrev pub Stored : Telling run_log → ℕ → Content → ℕ → Position → Type 0
Stored k j x c n = Single k j (step (write x) c) (Written n)

pub record StepsAreAnswered (base : Kept) (s : State run_log) : Type 0 where
  -- Each step of a request that was told has its answer.
  pub each : (k : Telling run_log) → In k s.told → length k.answer ≡ length k.append.asking.request
  -- It stands among the steps of all rows, and its answer is what these give there, taken one after another; then and in every later state.
  pub single : (t : State run_log) → Run base s t → (k : Telling run_log) → In k s.told → (j : ℕ) (x : Change) (a : Answer) → Single k j x a
      → At (changes t.rows) (spot t.rows k.place j) x × At (change_answers (changes t.rows) base) (spot t.rows k.place j) a
  -- One that is refused in its place changes nothing.
  pub refused : (x : Change) (m : Kept) (r : Refusal) → change_answer x m ≡ Refused r → after_change x m ≡ m
  -- Of a request that was denied without a row, each step has its answer, and is refused.
  pub denied : (d : Denied run_log) → In d s.denied → (length d.answer ≡ length d.asking.request) ×
      ((j : ℕ) (a : Answer) → At d.answer j a → is_refused a ≡ 1)
  -- Every row has a step: so rows may be counted by their steps, and a later one is further on.
  pub further : (i j : ℕ) → i < j → j ≤ length s.rows → spot s.rows i 0 < spot s.rows j 0

-- The chain reading of the replayed rows is exactly the accepted writes of the rows, in order: so each write that was told as stored stands in it once.
pub record ReadingIsRows (base : Kept) (s : State run_log) : Type 0 where
  pub reading : chain_reading (replay s.rows base).log ≡ map read_word (writes (changes s.rows) base)
  pub told : (k : Telling run_log) → In k s.told → (j : ℕ) (x : Content) (c : ℕ) (n : Position) → Stored k j x c n
      → At (chain_reading (replay s.rows base).log) (index s.rows base (spot s.rows k.place j)) (read_word (record { client = c; value = amount x }))
  -- No two of them at one index: one of a later row, or later in one row, is further on.
  pub in_order : (k l : Telling run_log) → In k s.told → (j i : ℕ) (x : Content) (c : ℕ) (n : Position) → Stored k j x c n
      → (k.place < l.place) ⊎ ((k.place ≡ l.place) × (j < i))
      → index s.rows base (spot s.rows k.place j) < index s.rows base (spot s.rows l.place i)
  -- So two at one index are one: the same step of the same row, of which there is one telling.
  pub once : (k l : Telling run_log) → In k s.told → In l s.told → (j i : ℕ) (x y : Content) (c d : ℕ) (n p : Position) → Stored k j x c n → Stored l i y d p
      → index s.rows base (spot s.rows k.place j) ≡ index s.rows base (spot s.rows l.place i) → (k.place ≡ l.place) × (j ≡ i)
  -- What a controller reads on its copy is the beginning of what the whole table comes to.
  pub copies : (c : ℕ) → let copy : Buffers = (s.controllers c).copy.log in
      chain_reading copy ≡ take (length (chain_reading copy)) (chain_reading (replay s.rows base).log)
