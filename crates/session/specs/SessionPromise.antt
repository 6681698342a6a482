-- What a session promises: its transcript is the history of its steps. SessionTheorem proves it.
use Rattle.std.specs.Prelude.{Some, None, ℕ, suc, ◌<◌, ◌≤◌, ◌≡◌, List, [], ◌∷◌, ◌++◌, map, length}
use Rattle.text.specs.Bytes.{bytes}
use Rattle.text.specs.Decimal.{decimal}
use Rattle.records.specs.declared.entry.Entry.{Entry}
use Rattle.chain.specs.declared.answer.Answer.{Answer}
use Rattle.chain.specs.declared.answer.Answer.TheVariants.{Done}
use Rattle.chain.specs.Rights.{all_rights}
use Rattle.chain.specs.Operations.{step_answers, fresh_answer, after_fresh}
use Rattle.chain.specs.LogPromise.{after, told, ShowsHistory}
use Rattle.grammar.specs.Grammar.{Request}
use Rattle.replies.specs.Replies.{answer_text, reply_line}
use Rattle.requests.specs.Lines.{Line, lines}
use Rattle.requests.specs.Requests.{request_of, taken}
use Rattle.requests.specs.FirstLineLaws.{first_line}
use Rattle.requests.specs.BeginningLaws.{blank}
use Rattle.session.specs.Transcript.{transcript}

-- The reply lines, numbered from some number on. A line that is a step takes the next answer; a bad line takes none.
unfoldable pub replies : ℕ → List Request → List Answer → List ℕ
replies number [] answers = []
replies number (None ∷ rs) answers = reply_line number (bytes "bad line") ++ replies (suc number) rs answers
replies number (Some x ∷ rs) [] = []
replies number (Some x ∷ rs) (a ∷ answers) = reply_line number (answer_text a) ++ replies (suc number) rs answers

-- The chain line: each accepted write as client:value, after a space.
unfoldable pub writes_text : List Entry → List ℕ
writes_text [] = []
writes_text (e ∷ es) = (bytes " " ++ (decimal e.client ++ (bytes ":" ++ decimal e.value))) ++ writes_text es

abbrev pub writes_line : List Entry → List ℕ
writes_line es = bytes "chain" ++ (writes_text es ++ bytes "\n")

-- A session of n clients, each with all its rights, and some lines after the first: the history is the steps of the good lines, from a done fresh on.
-- The chain line is written from the journal, which is computed from the steps and their answers alone.
pub record ShowsSession (n : ℕ) (ls : List Line) (printed : List ℕ) : Type 0 where
  pub begins : fresh_answer n blank ≡ Done
  pub prints : printed ≡
      replies 1 (map request_of ls) (step_answers (taken (all_rights n) ls) (after_fresh n blank)) ++ writes_line (told n blank (taken (all_rights n) ls)).accepted
  pub shows : ShowsHistory (after n blank (taken (all_rights n) ls)) (told n blank (taken (all_rights n) ls))

-- Every input is of one of three kinds.
pub record SessionShowsHistory : Type 0 where
  pub good : (n : ℕ) (rest : List ℕ) → 1 ≤ n → n ≤ 16 → length (first_line n ++ rest) ≤ 16384
      → ShowsSession n (lines rest) (transcript (first_line n ++ rest))
  pub bad-start : (input : List ℕ) → length input ≤ 16384
      → ((n : ℕ) (rest : List ℕ) → 1 ≤ n → n ≤ 16 → input ≡ first_line n ++ rest → ⊥)
      → transcript input ≡ bytes "bad start\n"
  pub too_long : (input : List ℕ) → 16384 < length input → transcript input ≡ bytes "too long\n"
