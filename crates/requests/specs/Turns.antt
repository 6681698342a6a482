-- One line of an input taken, and what is left of the lines then: what a loop over the lines meets.
use Rattle.std.specs.Prelude.{ℕ, ◌+◌, ◌-◌, ◌<◌, ◌≤◌, ◌≡◌, List, [], ◌∷◌, length, take, drop, ltb}
use Rattle.std.proofs.Common.{arith, sym, ap, ◌∙◌, drop_of_length-le}
use Rattle.text.specs.Find.{index_of}
use Rattle.chain.specs.Operations.{Buffers, buffers, after_steps}
use Rattle.grammar.specs.Grammar.{Request}
use Rattle.requests.specs.Lines.{Line, line, lines}
use Rattle.requests.specs.LineLaws.{next-line}
use Rattle.requests.specs.Requests.{Reply, request_of, reply_to, after_request, taken, request-steps, Answers}

-- The lines from a place on are the line taken and those from the next place on; its reply, and the buffers after it. The code keeps no
-- place: `Lines::next` gives the line, and `line::take` its reply.
pub record TakesLine (rights input : List ℕ) (from : ℕ) (b : Buffers) (reply : Reply) (next : ℕ) (b' : Buffers) : Type 0 where
  pub first : Line
  pub splits : lines (drop from input) ≡ first ∷ lines (drop next input)
  pub replies : reply ≡ reply_to rights (request_of first) b
  pub after-it : b' ≡ after_request rights (request_of first) b
  pub onward : from < next
  pub within : next ≤ length input + 1

pub takes-line : (rights input : List ℕ) (from end : ℕ) → from < length input → end ≡ from + index_of 10 (drop from input) → end ≤ length input
    → {b : Buffers} (r : Request) → r ≡ request_of (line (take (end - from) (drop from input)) (ltb end (length input)))
    → {reply : Reply} {state entries : List ℕ} → Answers rights r b reply state entries
    → TakesLine rights input from b reply (end + 1) (record { state = state; entries = entries })
takes-line rights input from end more ends past {b} r asked a = record {
  first = line (take (end - from) (drop from input)) (ltb end (length input));
  splits = next-line input from end more ends;
  replies = a.replies ∙ ap (λ (q : Request). reply_to rights q b) asked;
  after-it = a.after-it ∙ ap (λ (q : Request). after_request rights q b) asked;
  onward = omega (arith, ends);
  within = omega arith;
}

-- Past the end there is no line.
pub no_lines : (input : List ℕ) (i : ℕ) → length input ≤ i → lines (drop i input) ≡ []
unfolding lines
no_lines input i past = ap lines (drop_of_length-le input past)

-- Where the lines from a place on lead: the same before a line is taken and after it.
pub steps_taken : {rights : List ℕ} {now later : List Line} {first : Line} {b : Buffers} {reply : Reply} {state entries : List ℕ} → now ≡ first ∷ later
    → Answers rights (request_of first) b reply state entries
    → after_steps (taken rights now) b ≡ after_steps (taken rights later) (buffers state entries)
unfolding taken
steps_taken {rights} {now} {later} {first} {b} splits a =
    ap (λ (ls : List Line). after_steps (taken rights ls) b) splits
    ∙ request-steps rights (request_of first) (taken rights later) b
    ∙ ap (after_steps (taken rights later)) (sym a.after-it)

pub steps-turn : {rights input : List ℕ} {i : ℕ} {b : Buffers} {reply : Reply} {next : ℕ} {b' : Buffers} → TakesLine rights input i b reply next b'
    → after_steps (taken rights (lines (drop i input))) b ≡ after_steps (taken rights (lines (drop next input))) b'
unfolding taken
steps-turn {rights} {input} {i} {b} {reply} {next} {b'} t =
    ap (λ (ls : List Line). after_steps (taken rights ls) b) t.splits
    ∙ request-steps rights (request_of t.first) (taken rights (lines (drop next input))) b
    ∙ ap (after_steps (taken rights (lines (drop next input)))) (sym t.after-it)

pub steps-end : (rights input : List ℕ) (i : ℕ) (b : Buffers) → length input ≤ i → after_steps (taken rights (lines (drop i input))) b ≡ b
unfolding taken after_steps
steps-end rights input i b past = ap (λ (ls : List Line). after_steps (taken rights ls) b) (no_lines input i past)

pub steps_none : (rights : List ℕ) {now : List Line} (b : Buffers) → now ≡ [] → after_steps (taken rights now) b ≡ b
unfolding taken after_steps
steps_none rights b e = ap (λ (ls : List Line). after_steps (taken rights ls) b) e
