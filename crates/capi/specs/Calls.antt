-- What each exported function owes its caller, by the definitions of crate chain, with the answer as one number.
use Rattle.std.specs.Prelude.{ℕ, ◌≡◌, List, length, take, drop}
use Rattle.std.proofs.Common.{sym}
use Rattle.std.proofs.Math.Path.{subst}
use Rattle.std.proofs.Math.Option.{Option, none, some}
use Rattle.checks.specs.Checks.{Check, Outcome, stops, goes, outcome, first}
use Rattle.chain.specs.declared.answer.Refusal.{Refusal}
use Rattle.chain.specs.declared.answer.Answer.{Answer}
use Rattle.chain.specs.declared.answer.Answer.TheVariants.{Done, Refused}
use Rattle.chain.specs.Answers.{answer_number, chain_number, chain_count, window_number, window_found, window_start}
use Rattle.chain.specs.Rights.{all_rights}
use Rattle.chain.specs.Steps.{Step}
use Rattle.chain.specs.Buffers.{head}
use Rattle.chain.specs.Operations.{Buffers, step_answer, after_step, Result, fresh_checks, fresh_answer, after_fresh}
use Rattle.chain.specs.Operations.{read_ledger_checks, read_ledger_answer, read_ledger_part, read_chain_answer, read_chain_output}
use Rattle.chain.specs.Windows.{first_window}
use Rattle.chain.specs.Marks.{set_checks, set_answer, after_set, drop_checks, drop_answer, after_drop, read_mark_answer, read_mark_output}
use Rattle.chain.specs.Plans.{planned_answer, after_planned, forecast}
use Rattle.plans.specs.Numbers.{TakeResult}
use Rattle.chain.specs.NumberSizes.{NumbersBelow}
use Rattle.chain.proofs.Laws.Numbers.{step-numbers}
use Rattle.fresh.specs.Fresh.{FreshResult}
use Rattle.sentences.specs.Sentences.{sentence_answer, sentence_text, sentence_number, sentence_length}
use Rattle.sentences.specs.Read.{read_sentence, sentence_found, sentence_step, sentence_client, sentence_refusal}
use Rattle.readers.specs.Locate.{part_start, Locates}

-- The number of this interface, the same as CINDROLF_VERSION in include/cindrolf.h.
abbrev pub interface_version : ℕ
interface_version = 3

-- An operation on both buffers: its answer, and every word afterwards.
pub record Call (a : Answer) (after : Buffers) (r : ℕ) (state entries : List ℕ) : Type 0 where
  pub answers : r ≡ answer_number a
  pub state-words : state ≡ after.state
  pub entry-words : entries ≡ after.entries

abbrev pub FreshCall : ℕ → Buffers → ℕ → List ℕ → List ℕ → Type 0
FreshCall n b = Call (fresh_answer n b) (after_fresh n b)

abbrev pub StepCall : Step → Buffers → ℕ → List ℕ → List ℕ → Type 0
StepCall x b = Call (step_answer x b) (after_step x b)

-- A step by its number: 25 where there is none, before all else, and then as the step itself.
abbrev pub TakeCall : Option Step → Buffers → ℕ → List ℕ → List ℕ → Type 0
TakeCall x b = Call (planned_answer x b) (after_planned x b)

-- The rights of the functions that take none: all ten of each client.
abbrev pub all_of : List ℕ → List ℕ
all_of state = all_rights (head state).client_count

-- Read ledger: its answer, and where the part that it hands back begins and how many words it has.
pub record LedgerCall (l : ℕ) (b : Buffers) (answer start count : ℕ) : Type 0 where
  pub answers : answer ≡ answer_number (read_ledger_answer l b)
  pub starts : start ≡ part_start l b
  pub counts : count ≡ length (read_ledger_part l b)
  pub words : take count (drop start b.entries) ≡ read_ledger_part l b

-- Read chain: its answer and its count as two numbers, and every word of the output buffer afterwards.
pub record ChainCall (b : Buffers) (output : List ℕ) (answer count : ℕ) (after : List ℕ) : Type 0 where
  pub answers : answer ≡ chain_number (read_chain_answer b output)
  pub counts : count ≡ chain_count (read_chain_answer b output)
  pub output-words : after ≡ read_chain_output b output

-- The search for a window: its answer, whether one was found, and where it starts.
pub record WindowCall (n limit : ℕ) (b : Buffers) (answer found start : ℕ) : Type 0 where
  pub answers : answer ≡ window_number (first_window n limit b)
  pub founds : found ≡ window_found (first_window n limit b)
  pub starts : start ≡ window_start (first_window n limit b)

-- Set and drop: the answer, and every word of the marks buffer afterwards.
pub record MarkCall (a : Answer) (after : List ℕ) (r : ℕ) (marks : List ℕ) : Type 0 where
  pub answers : r ≡ answer_number a
  pub mark-words : marks ≡ after

abbrev pub SetMarkCall : ℕ → Buffers → List ℕ → ℕ → List ℕ → Type 0
SetMarkCall name b ms = MarkCall (set_answer name b ms) (after_set name b ms)

abbrev pub DropMarkCall : ℕ → Buffers → List ℕ → ℕ → List ℕ → Type 0
DropMarkCall name b ms = MarkCall (drop_answer name b ms) (after_drop name b ms)

-- Read at a mark: its answer and its count as two numbers, and every word of the output buffer afterwards.
pub record ReadMarkCall (name : ℕ) (b : Buffers) (ms output : List ℕ) (answer count : ℕ) (after : List ℕ) : Type 0 where
  pub answers : answer ≡ chain_number (read_mark_answer name b ms output)
  pub counts : count ≡ chain_count (read_mark_answer name b ms output)
  pub output-words : after ≡ read_mark_output name b ms output

-- The forecast: its three counts.
pub record ForecastCall (rights plan : List ℕ) (budget : ℕ) (b : Buffers) (entries ledgers refusals : ℕ) : Type 0 where
  pub entries-added : entries ≡ (forecast rights plan budget b).entries
  pub ledgers-added : ledgers ≡ (forecast rights plan budget b).ledgers
  pub refused : refusals ≡ (forecast rights plan budget b).refusals

-- A refusal in words: its answer and its length as two numbers, and every byte of the text buffer afterwards.
pub record SentenceCall (step client refusal : ℕ) (text : List ℕ) (answer length : ℕ) (after : List ℕ) : Type 0 where
  pub answers : answer ≡ sentence_number (sentence_answer step client refusal text)
  pub lengths : length ≡ sentence_length (sentence_answer step client refusal text)
  pub text-bytes : after ≡ sentence_text step client refusal text

-- A sentence read back: whether the text is one, and its step, its client and its refusal.
pub record ReadSentenceCall (text : List ℕ) (found step client refusal : ℕ) : Type 0 where
  pub founds : found ≡ sentence_found (read_sentence text)
  pub steps : step ≡ sentence_step (read_sentence text)
  pub clients : client ≡ sentence_client (read_sentence text)
  pub refusals : refusal ≡ sentence_refusal (read_sentence text)

-- Fresh, read ledger, set, drop, rearrange and restore number no entry.
pub numbers-none : (cs : List (Check Refusal)) → NumbersBelow (first cs Refused Done)
numbers-none cs = at _ (outcome cs Refused Done)
  where
    at : (a : Answer) → Outcome cs Refused Done a → NumbersBelow a
    at a (stops r e) = subst NumbersBelow (sym e) tt
    at a (goes p e) = subst NumbersBelow (sym e) tt

-- What each operation answers has a number.
module _ {n : ℕ} {b : Buffers} {a : Answer} {state entries : List ℕ} (o : FreshResult n b a state entries) where
  pub fresh-small : NumbersBelow a
  unfolding fresh_answer
  fresh-small = subst NumbersBelow (sym o.answers) (numbers-none (fresh_checks n b))

module _ {x : Step} {b : Buffers} {a : Answer} {state entries : List ℕ} (o : Result x b a state entries) where
  pub step_small : NumbersBelow a
  step_small = subst NumbersBelow (sym o.answers) (step-numbers x b)

module _ {x : Option Step} {b : Buffers} {a : Answer} {state entries : List ℕ} (o : TakeResult x b a state entries) where
  pub take-small : NumbersBelow a
  take-small = subst NumbersBelow (sym o.answers) (at x)
    where
      at : (x : Option Step) → NumbersBelow (planned_answer x b)
      at none = tt
      at (some y) = step-numbers y b

module _ {l : ℕ} {b : Buffers} {a : Answer} {start count : ℕ} (o : Locates l b a start count) where
  pub ledger-small : NumbersBelow a
  unfolding read_ledger_answer
  ledger-small = subst NumbersBelow (sym o.answers) (numbers-none (read_ledger_checks l b))

module _ (name : ℕ) (b : Buffers) (ms : List ℕ) {a : Answer} where
  pub set-small : a ≡ set_answer name b ms → NumbersBelow a
  unfolding set_answer
  set-small e = subst NumbersBelow (sym e) (numbers-none (set_checks name b ms))

  pub drop-small : a ≡ drop_answer name b ms → NumbersBelow a
  unfolding drop_answer
  drop-small e = subst NumbersBelow (sym e) (numbers-none (drop_checks name b ms))
