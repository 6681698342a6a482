-- What the parts of a session's code owe: the replies to all lines, the chain at the end.
use Rattle.session.specs.Owed.{Ran, Reads}
use Rattle.std.specs.Prelude.{ℕ, ◌+◌, ◌-◌, ◌≡◌, List, [], ◌∷◌, length, take, drop, Ok, Err}
use Rattle.std.proofs.Common.{arith, add-one, subst, ◌∙◌}
use Rattle.std.proofs.Math.Path.{refl, sym}
use Rattle.std.proofs.Math.Seq.{take-append_seam}
use Rattle.text.specs.Puts.{Puts, Room, room-first, Left, left-all, left-room, left-turn}
use Rattle.chain.specs.declared.answer.Refusal.{Refusal}
use Rattle.chain.specs.Answered.{ChainAnswer}
use Rattle.chain.specs.Operations.{Buffers, buffers, after_steps, chain_reading, read_chain_answer, read_chain_output}
use Rattle.requests.specs.Lines.{Line}
use Rattle.requests.specs.Requests.{Reply, Answers, request_of, reply_to, after_request, taken, request-steps}
use Rattle.replies.specs.Replies.{reply_text, reply_line, chain_line}
use Rattle.session.specs.Transcript.{session}

-- What such a reading comes to in code: the count that was answered, and the first words of the output.
module _ {b : Buffers} {out : List ℕ} (s : Reads b out) (a : ChainAnswer) (told : a ≡ read_chain_answer b out) where
  pub count-is : (n : ℕ) → a ≡ Ok n → n ≡ length (chain_reading b)
  count-is n e = let q : Ok n ≡ Ok (length (chain_reading b)) = sym e ∙ told ∙ s.answers in cc

  pub not-refused : (r : Refusal) → a ≡ Err r → ⊥
  not-refused r e =
      let q : Err r ≡ Ok (length (chain_reading b)) = sym e ∙ told ∙ s.answers in
      let z : ◌≡◌ {A = ℕ} 0 1 = cc in
      omega arith

pub part-is : {b : Buffers} {out : List ℕ} → Reads b out → (after : List ℕ) → after ≡ read_chain_output b out → (n : ℕ) → n ≡ length (chain_reading b)
    → take (n - 0) after ≡ chain_reading b
part-is {b} {out} s after e n q =
    let z : n - 0 ≡ length (chain_reading b) = omega (arith, q) in
    rw (z, e, s.output) (take-append_seam (chain_reading b) (drop (length (chain_reading b)) out))

-- A session that has come to a line: what is left to be put, and where all lines lead.
pub record Running (rights : List ℕ) (ls : List Line) (b : Buffers) (text : List ℕ) (from : ℕ) (rest : List Line) (number : ℕ) (b' : Buffers) (text' : List ℕ) (at : ℕ) : Type 0 where
  pub left : Left text from (session rights 1 ls b) text' at (session rights number rest b')
  pub steps : after_steps (taken rights rest) b' ≡ after_steps (taken rights ls) b

pub running-start : (rights : List ℕ) (ls : List Line) (b : Buffers) (text : List ℕ) (from : ℕ) → Running rights ls b text from ls 1 b text from
running-start rights ls b text from = record { left = left-all text from (session rights 1 ls b); steps = refl }

module _ {rights : List ℕ} {ls : List Line} {b : Buffers} {text : List ℕ} {from number : ℕ} {b' : Buffers} {text' : List ℕ} {at : ℕ} where
  pub running-room : {l : Line} {rest : List Line} → Running rights ls b text from (l ∷ rest) number b' text' at → Room text from (session rights 1 ls b)
      → Room text' at (reply_line number (reply_text (reply_to rights (request_of l) b')))
  unfolding session
  running-room s room = room-first _ _ (left-room s.left room)

  pub running-turn : {l : Line} {rest : List Line} → Running rights ls b text from (l ∷ rest) number b' text' at → (b'' : Buffers) (text'' : List ℕ) (at'' : ℕ)
      → b'' ≡ after_request rights (request_of l) b' → Puts text' at (reply_line number (reply_text (reply_to rights (request_of l) b'))) text'' at''
      → Running rights ls b text from rest (number + 1) b'' text'' at''
  unfolding session taken
  running-turn {l} {rest} s b'' text'' at'' e p = rw (add-one number, e) (record {
    left = left-turn s.left refl p;
    steps = sym (request-steps rights (request_of l) (taken rights rest) b') ∙ s.steps;
  })

  pub running-end : Running rights ls b text from [] number b' text' at → Ran rights ls b text from b' text' at
  unfolding session taken after_steps
  running-end s = record { left = s.left; steps = s.steps }

-- One turn of the loop over the lines.
module _ {rights : List ℕ} {ls : List Line} {b : Buffers} {text : List ℕ} {from number : ℕ} {b' : Buffers} {text' : List ℕ} {at : ℕ} {now later : List Line}
    {first : Line} {reply : Reply} {state entries : List ℕ} (s : Running rights ls b text from now number b' text' at) (splits : now ≡ first ∷ later)
    (a : Answers rights (request_of first) b' reply state entries) where
  here : Running rights ls b text from (first ∷ later) number b' text' at
  here = subst (λ (rest : List Line). Running rights ls b text from rest number b' text' at) splits s

  pub turn-room : Room text from (session rights 1 ls b) → Room text' at (reply_line number (reply_text reply))
  turn-room room = subst (λ (q : Reply). Room text' at (reply_line number (reply_text q))) (sym a.replies) (running-room here room)

  pub turn : (text'' : List ℕ) (at'' : ℕ) → Puts text' at (reply_line number (reply_text reply)) text'' at''
      → Running rights ls b text from later (number + 1) (buffers state entries) text'' at''
  turn text'' at'' p = running-turn here (buffers state entries) text'' at'' a.after-it
      (subst (λ (q : Reply). Puts text' at (reply_line number (reply_text q)) text'' at'') a.replies p)

pub turns-end : {rights : List ℕ} {ls : List Line} {b : Buffers} {text : List ℕ} {from number : ℕ} {b' : Buffers} {text' : List ℕ} {at : ℕ} {now : List Line}
    → Running rights ls b text from now number b' text' at → now ≡ [] → Ran rights ls b text from b' text' at
turns-end {rights} {ls} {b} {text} {from} {number} {b'} {text'} {at} s none = running-end
    (subst (λ (rest : List Line). Running rights ls b text from rest number b' text' at) none s)

-- The chain line of equal readings.
pub room_as : {text words reading : List ℕ} {at : ℕ} → words ≡ reading → Room text at (chain_line reading) → Room text at (chain_line words)
room_as {text} {at = at} e h = subst (λ (l : List ℕ). Room text at (chain_line l)) (sym e) h

pub puts-as : {text words reading after : List ℕ} {at end : ℕ} → words ≡ reading → Puts text at (chain_line words) after end
    → Puts text at (chain_line reading) after end
puts-as {text} {after = after} {at} {end} e h = subst (λ (l : List ℕ). Puts text at (chain_line l) after end) e h
