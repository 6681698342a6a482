-- A session on a log of its own in code: the fresh log, and the chain at the end.
use Rattle.std.specs.Prelude.{ℕ, ◌≤◌, ◌≡◌, List, length}
use Rattle.std.proofs.Common.{sym, ap, subst, ◌∙◌}
use Rattle.text.specs.Puts.{Puts, Room, left-room, left-last}
use Rattle.limits.specs.Limits.{client_limit}
use Rattle.chain.specs.Rights.{all_rights}
use Rattle.chain.specs.Operations.{Buffers, after_steps, fresh_buffers, chain_reading}
use Rattle.requests.specs.Lines.{Line}
use Rattle.requests.specs.Requests.{taken}
use Rattle.requests.specs.Opening.{session_capacity}
use Rattle.replies.specs.Replies.{chain_line}
use Rattle.session.specs.Transcript.{session}
use Rattle.session.specs.Owed.{Ran, Reads}
use Rattle.session.proofs.LengthLaws.{reads}

module _ (n : ℕ) (some : 1 ≤ n) (few : n ≤ client_limit) where
  module _ {rights : List ℕ} {ls : List Line} {b₁ b₂ : Buffers} {text text' : List ℕ} {from at : ℕ} (all : rights ≡ all_rights n)
      (is : b₁ ≡ fresh_buffers session_capacity n) (ran : Ran rights ls b₁ text from b₂ text' at) where
    r : Ran (all_rights n) ls b₁ text from b₂ text' at
    r = subst (λ (rs : List ℕ). Ran rs ls b₁ text from b₂ text' at) all ran

    pub end_reads : (out : List ℕ) → session_capacity ≤ length out → Reads b₂ out
    end_reads out h = subst (λ (b : Buffers). Reads b out) (sym (r.steps ∙ ap (after_steps (taken (all_rights n) ls)) is)) (reads n some few (taken (all_rights n) ls) out h)

    pub end-room : Room text from (session (all_rights n) 1 ls (fresh_buffers session_capacity n)) → Room text' at (chain_line (chain_reading b₂))
    end-room h = left-room r.left (subst (λ (b : Buffers). Room text from (session (all_rights n) 1 ls b)) (sym is) h)

    pub end-puts : (after : List ℕ) (end : ℕ) → Puts text' at (chain_line (chain_reading b₂)) after end
        → Puts text from (session (all_rights n) 1 ls (fresh_buffers session_capacity n)) after end
    end-puts after end p = subst (λ (b : Buffers). Puts text from (session (all_rights n) 1 ls b) after end) is (left-last r.left p)

  pub fresh-room : (rights : List ℕ) (b : Buffers) (ls : List Line) (text : List ℕ) (from : ℕ) → rights ≡ all_rights n → b ≡ fresh_buffers session_capacity n → Room text from (session (all_rights n) 1 ls (fresh_buffers session_capacity n))
      → Room text from (session rights 1 ls b)
  fresh-room rights b ls text from all e h = rw (all, e) h
