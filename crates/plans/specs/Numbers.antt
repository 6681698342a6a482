-- What the code's value for a step by its number means, and what taking it must give.
use Rattle.std.specs.Prelude.{ℕ, ◌≤◌, ◌≡◌, refl, List, Ok, Err}
use Rattle.std.proofs.Common.{sym, subst}
use Rattle.std.proofs.Math.Option.{Option, none, some}
use Rattle.chain.specs.declared.answer.Refusal.TheVariants as refusals
use Rattle.chain.specs.declared.answer.Answer.{Answer}
use Rattle.chain.specs.declared.answer.Answer.TheVariants.{Refused}
use Rattle.chain.specs.declared.kind.Kind as kind
use Rattle.chain.specs.declared.kind.Kind.TheVariants.{Name, Become, Abdicate, Fetch, CloseLast, Finish, Create, Append, Write, CloseOwn}
use Rattle.chain.specs.declared.kind.UnknownStep.{UnknownStep}
use Rattle.chain.specs.Steps.{Step, of_value}
use Rattle.chain.specs.Kinds.{with_content, place_in_order}
use Rattle.chain.specs.Operations.{Buffers, buffers, Result}
use Rattle.chain.specs.Plans.{numbered_kind, numbered_step, planned_answer, after_planned, ledgers_by}
use Rattle.chain.proofs.NumberedTheorem.{no_kind}
use Rattle.dispatch.specs.declared.Step as code
use Rattle.dispatch.specs.Dispatch.{step_of}
use Rattle.plans.specs.Planned.{Planned}

abbrev pub planned_of : List ℕ → Planned → Option Step
planned_of rights (Ok step) = some (step_of rights step)
planned_of rights (Err e) = none

abbrev pub Numbered : ℕ → ℕ → ℕ → Planned → Type 0
Numbered number client value p = (rights : List ℕ) → numbered_step rights number client value ≡ planned_of rights p

-- A kind is the one that stands at its place, where a write gets its value.
kind-at-place : (k : kind.Kind) (value : ℕ) → numbered_kind (place_in_order k) value ≡ some (with_content (of_value value) k)
kind-at-place Name value = refl
kind-at-place Become value = refl
kind-at-place Abdicate value = refl
kind-at-place Fetch value = refl
kind-at-place CloseLast value = refl
kind-at-place Finish value = refl
kind-at-place Create value = refl
kind-at-place Append value = refl
kind-at-place Write value = refl
kind-at-place CloseOwn value = refl

pub numbered-kind : (number client value : ℕ) (k : kind.Kind) → place_in_order k ≡ number
    → Numbered number client value (Ok (record { client = client; kind = k; value = value }))
unfolding numbered_step
numbered-kind number client value k e rights = rw (sym e, kind-at-place k value)

pub past_all : (number client value : ℕ) (e : UnknownStep) → 10 ≤ number → Numbered number client value (Err e)
past_all number client value e h rights = no_kind rights number client value h

-- How many ledger numbers an answer stands for, whatever the rights.
abbrev pub CountsLedgers : Planned → Answer → ℕ → Type 0
CountsLedgers p a n = (rights : List ℕ) → n ≡ ledgers_by (planned_of rights p) a

-- What is owed on any buffers: the answer, and every word of both.
pub record TakeResult (x : Option Step) (b : Buffers) (r : Answer) (state entries : List ℕ) : Type 0 where
  pub answers : r ≡ planned_answer x b
  pub words : buffers state entries ≡ after_planned x b

module _ (rights : List ℕ) (p : Planned) (b : Buffers) where
  pub step-taken : (step : code.Step) → p ≡ Ok step → {r : Answer} {state entries : List ℕ} → Result (step_of rights step) b r state entries
      → TakeResult (planned_of rights p) b r state entries
  step-taken step e o = rw e (record { answers = o.answers; words = λ i. buffers (o.state-words i) (o.entry-words i) })

  pub none-taken : {u : UnknownStep} → p ≡ Err u → TakeResult (planned_of rights p) b (Refused refusals.UnknownStep) b.state b.entries
  none-taken e = rw e (record { answers = refl; words = refl })

pub same-take : {x y : Option Step} {b : Buffers} {r : Answer} {state entries : List ℕ} → x ≡ y → TakeResult y b r state entries
    → TakeResult x b r state entries
same-take {b = b} {r} {state} {entries} e o = subst (λ (z : Option Step). TakeResult z b r state entries) (sym e) o
