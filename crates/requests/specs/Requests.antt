-- A line as a request: the step that it takes under the rights that are lent, the reply to it, and the buffers after it.
use Rattle.std.specs.Prelude.{ℕ, ◌≡◌, refl, cond, List, [], ◌∷◌, ◌++◌, Option, Some, None}
use Rattle.std.proofs.Common.{ap}
use Rattle.chain.specs.declared.answer.Answer.{Answer}
use Rattle.chain.specs.Steps.{Step}
use Rattle.chain.specs.Operations.{Buffers, buffers, Result, step_answer, after_step, after_steps}
use Rattle.dispatch.specs.declared.Step as code
use Rattle.dispatch.specs.Dispatch.{step_of}
use Rattle.grammar.specs.Grammar.{Request, parse_line}
use Rattle.requests.specs.Lines.{Line}

-- A line without byte 10 is a bad line, whatever it has.
unfoldable pub request_of : Line → Request
request_of l = cond l.ended (parse_line l.content) None

-- The answer of a step, or that no step was taken.
abbrev pub Reply : Type 0
Reply = Option Answer

abbrev pub reply_to : List ℕ → Request → Buffers → Reply
reply_to rights (Some x) b = Some (step_answer (step_of rights x) b)
reply_to rights None b = None

-- A bad line takes no step.
abbrev pub after_request : List ℕ → Request → Buffers → Buffers
after_request rights (Some x) b = after_step (step_of rights x) b
after_request rights None b = b

-- The steps that the lines take, in their order.
abbrev pub requested : List ℕ → Request → List Step
requested rights (Some x) = step_of rights x ∷ []
requested rights None = []

unfoldable pub taken : List ℕ → List Line → List Step
taken rights [] = []
taken rights (l ∷ ls) = requested rights (request_of l) ++ taken rights ls

-- The steps of a request, and then others.
pub request-steps : (rights : List ℕ) (r : Request) (xs : List Step) (b : Buffers)
    → after_steps (requested rights r ++ xs) b ≡ after_steps xs (after_request rights r b)
unfolding after_steps
request-steps rights (Some x) xs b = refl
request-steps rights None xs b = refl

-- What the code of a request owes: the reply to it, and both buffers after it.
pub record Answers (rights : List ℕ) (r : Request) (b : Buffers) (reply : Reply) (state entries : List ℕ) : Type 0 where
  pub replies : reply ≡ reply_to rights r b
  pub after-it : buffers state entries ≡ after_request rights r b

pub took : (rights : List ℕ) (x : code.Step) (b : Buffers) (a : Answer) (state entries : List ℕ) → Result (step_of rights x) b a state entries
    → Answers rights (Some x) b (Some a) state entries
took rights x b a state entries r = record { replies = ap Some r.answers; after-it = λ i. buffers (r.state-words i) (r.entry-words i) }

pub took-none : (rights state entries : List ℕ) → Answers rights None (buffers state entries) None state entries
took-none rights state entries = record { replies = refl; after-it = refl }
