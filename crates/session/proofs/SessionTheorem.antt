-- The promise of a session holds.
use Rattle.std.specs.Prelude.{Some, None, ℕ, suc, ◌≤◌, ◌≡◌, refl, length}
use Rattle.std.proofs.Common.{sym, ◌∙◌}
use Rattle.std.proofs.Math.Path.{ap}
use mathlib.Core.List.{List, [], ◌∷◌, ◌++◌, map, append_assoc}
use Rattle.text.specs.Bytes.{bytes}
use Rattle.limits.specs.Limits.{client_limit, input_limit}
use Rattle.chain.specs.Steps.{Step}
use Rattle.chain.specs.Rights.{all_rights}
use Rattle.chain.specs.Operations.{Buffers, step_answer, after_step, after_steps, step_answers, after_fresh, chain_reading}
use Rattle.chain.specs.LogPromise.{after, told}
use Rattle.dispatch.specs.Dispatch.{step_of}
use Rattle.grammar.specs.Grammar.{Request}
use Rattle.requests.specs.Lines.{Line, lines}
use Rattle.requests.specs.Requests.{request_of, reply_to, after_request, requested, taken}
use Rattle.requests.specs.Opening.{printed}
use Rattle.requests.specs.FirstLineLaws.{first_line}
use Rattle.requests.specs.OpeningLaws.{opens-good, opens-bad, opens-long}
use Rattle.requests.specs.BeginningLaws.{blank, begun, left-by-fresh, history}
use Rattle.replies.specs.Replies.{answer_text, reply_text, reply_line, entries_text, chain_line}
use Rattle.session.specs.Transcript.{session, session_text, transcript}
use Rattle.session.specs.SessionPromise.{replies, writes_line, ShowsSession, SessionShowsHistory}
use Rattle.session.proofs.AcceptedLaws.{accepted-text}

-- What is printed, from any buffers: the answers of the steps, in order, and the chain that they lead to.
abbrev shown : List ℕ → ℕ → List Line → Buffers → List ℕ
shown rights number ls b =
    replies number (map request_of ls) (step_answers (taken rights ls) b) ++ chain_line (chain_reading (after_steps (taken rights ls) b))

put-before : (first rest chain later : List ℕ) → later ≡ rest ++ chain → first ++ later ≡ (first ++ rest) ++ chain
put-before first rest chain later e = rw (e, append_assoc first rest chain)

line-printed : (rights : List ℕ) (r : Request) (ls : List Line) (number : ℕ) (b : Buffers) (later : List ℕ) → later ≡ shown rights (suc number) ls (after_request rights r b)
    → reply_line number (reply_text (reply_to rights r b)) ++ later ≡
    replies number (r ∷ map request_of ls) (step_answers (requested rights r ++ taken rights ls) b) ++ chain_line (chain_reading (after_steps (requested rights r ++ taken rights ls) b))
unfolding replies step_answers after_steps
line-printed rights (Some x) ls number b later e =
    let b' : Buffers = after_step (step_of rights x) b in
    put-before (reply_line number (answer_text (step_answer (step_of rights x) b))) (replies (suc number) (map request_of ls) (step_answers (taken rights ls) b'))
    (chain_line (chain_reading (after_steps (taken rights ls) b'))) later e
line-printed rights None ls number b later e =
    put-before (reply_line number (bytes "bad line")) (replies (suc number) (map request_of ls) (step_answers (taken rights ls) b))
    (chain_line (chain_reading (after_steps (taken rights ls) b))) later e

session-printed : (rights : List ℕ) (ls : List Line) (number : ℕ) (b : Buffers) → session rights number ls b ≡ shown rights number ls b
unfolding session taken replies step_answers after_steps
session-printed rights [] number b = refl
session-printed rights (l ∷ ls) number b =
    line-printed rights (request_of l) ls number b _ (session-printed rights ls (suc number) (after_request rights (request_of l) b))

module _ (n : ℕ) (some : 1 ≤ n) (few : n ≤ client_limit) where
  -- The chain line shows the accepted writes that the journal tells.
  chain-shows : (xs : List Step) → chain_line (chain_reading (after n blank xs)) ≡ writes_line (told n blank xs).accepted
  unfolding chain_line
  chain-shows xs = ap (λ (t : List ℕ). bytes "chain" ++ (t ++ bytes "\n"))
      (ap entries_text (history n some few xs).reading ∙ accepted-text xs (after_fresh n blank))

  good-session : (rest : List ℕ) → length (first_line n ++ rest) ≤ input_limit → ShowsSession n (lines rest) (transcript (first_line n ++ rest))
  unfolding transcript
  good-session rest h = record {
    begins = begun n some few;
    prints = ap (printed session_text) (opens-good n some few rest h)
        ∙ ap (session (all_rights n) 1 (lines rest)) (sym (left-by-fresh n some few))
        ∙ session-printed (all_rights n) (lines rest) 1 (after_fresh n blank)
        ∙ ap (λ (t : List ℕ). replies 1 (map request_of (lines rest)) (step_answers (taken (all_rights n) (lines rest)) (after_fresh n blank)) ++ t)
        (chain-shows (taken (all_rights n) (lines rest)));
    shows = history n some few (taken (all_rights n) (lines rest));
  }

pub session-shows-history : SessionShowsHistory
unfolding transcript
session-shows-history = record {
  good = λ n rest some few h. good-session n some few rest h;
  bad-start = λ input h none. ap (printed session_text) (opens-bad input h none);
  too_long = λ input h. ap (printed session_text) (opens-long input h);
}
