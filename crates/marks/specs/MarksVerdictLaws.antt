-- What the verdict on all three buffers says to the operation that goes on from it.
use Rattle.std.specs.Prelude.{ℕ, ◌≡◌, Bool, true, not, eqb, List, [], length, get_or, Ok, Err}
use Rattle.std.proofs.Common.{sym, ap, ◌∙◌}
use Rattle.fields.specs.Bit.{bit-true}
use Rattle.checks.specs.Test.{Test, differ, flag, is_not, test}
use Rattle.checks.specs.Checks.{Check, Passed}
use Rattle.records.specs.declared.head.Head.{Head}
use Rattle.records.specs.Words.{unpack_head}
use Rattle.chain.specs.declared.answer.Refusal.{Refusal}
use Rattle.chain.specs.Verdicts.{Verdict}
use Rattle.chain.specs.Verdicts.{verdict, and_then, verdict-append, verdict-passes}
use Rattle.chain.specs.Buffers.{head}
use Rattle.chain.specs.Operations.{buffers}
use Rattle.chain.specs.Marks.{marks_length, pairs_of, well_marked, log_count, marks_checks}
use Rattle.chain.specs.Formed.{Formed}
use Rattle.chain.proofs.Laws.Formed.{formed}
use Rattle.wellformed.specs.ThirdBufferLaws.{twice-not}

module _ (s e ms : List ℕ) where
  abbrev pub wrong : Test
  wrong = differ (length ms) marks_length

  abbrev pub faulty : Test
  faulty = is_not (flag (well_marked (log_count (buffers s e)) (pairs_of ms)))

  pub lengths-decide : {right : Bool} → right ≡ eqb (length ms) marks_length → right ≡ not (test wrong)
  lengths-decide is = is ∙ twice-not _

  -- By the entry count of the head that the check hands on.
  pub words-decide : {h : Head} {ok : Bool} → h ≡ unpack_head (get_or s 0 0) → ok ≡ well_marked h.entry_count (pairs_of ms) → ok ≡ not (test faulty)
  unfolding head
  words-decide at is = is ∙ ap (λ (h : Head). well_marked h.entry_count (pairs_of ms)) at ∙ twice-not _

  -- The verdict on all three buffers, then that of further checks.
  module _ (cs : List (Check Refusal)) (v : Verdict) (is : v ≡ verdict (marks_checks (buffers s e) ms [])) where
    then : verdict (marks_checks (buffers s e) ms cs) ≡ and_then v (verdict cs)
    then = verdict-append (marks_checks (buffers s e) ms []) cs ∙ ap (λ (w : Verdict). and_then w (verdict cs)) (sym is)

    pub refused-first : (r : Refusal) → v ≡ Err r → verdict (marks_checks (buffers s e) ms cs) ≡ Err r
    refused-first r p = then ∙ ap (λ (w : Verdict). and_then w (verdict cs)) p

    pub passed_on : v ≡ (Ok (tt {0})) → verdict (marks_checks (buffers s e) ms cs) ≡ verdict cs
    passed_on p = then ∙ ap (λ (w : Verdict). and_then w (verdict cs)) p

  -- A pass means a log, and marks that are well formed for it.
  pub record Marked : Type 0 where
    pub long : length ms ≡ marks_length
    pub formed : Formed s e
    pub well : well_marked (log_count (buffers s e)) (pairs_of ms) ≡ true

  pub passes-marked : (v : Verdict) → v ≡ verdict (marks_checks (buffers s e) ms []) → v ≡ (Ok (tt {0})) → Marked
  passes-marked v is p =
      let o : Passed (marks_checks (buffers s e) ms []) = verdict-passes (marks_checks (buffers s e) ms []) (sym is ∙ p) in record {
        long = o.0;
        formed = formed s e o.1.0.0 o.1.0.1 o.1.1.0;
        well = bit-true (well_marked (log_count (buffers s e)) (pairs_of ms)) o.1.1.1.0;
      }
