-- What the code of the verdict on a third buffer meets: a wrong length, no log, and then words that fit or do not.
use Rattle.std.specs.Prelude.{◌≡◌, refl, Bool, true, false, not, [], ◌∷◌, Ok, Err}
use Rattle.std.proofs.Math.Path.{sym}
use Rattle.std.proofs.Common.{ap, ◌∙◌}
use Rattle.checks.specs.Test.{Test, test}
use Rattle.checks.specs.Checks.{◌when◌}
use Rattle.records.specs.declared.head.Head.{Head}
use Rattle.chain.specs.declared.answer.Refusal.{Refusal}
use Rattle.chain.specs.declared.answer.Refusal.TheVariants.{WrongLength, NotWellFormed}
use Rattle.chain.specs.Verdicts.{verdict}
use Rattle.chain.specs.Operations.{Buffers, log_checks}
use Rattle.wellformed.specs.Checked.{Checked}
use Rattle.wellformed.specs.Checked.{checked, said, the-verdict}
use Rattle.wellformed.specs.LogVerdictLaws.{log-refused, log-passed}
use Rattle.wellformed.specs.Third.{third_checks}

-- A test and its negation say the same the other way round.
turned : (b c : Bool) → b ≡ not c → c ≡ not b
turned true true e = e
turned true false e = refl
turned false true e = refl
turned false false e = e

pub twice-not : (b : Bool) → b ≡ not (not b)
twice-not true = refl
twice-not false = refl

module _ (b : Buffers) (wrong faulty : Test) {right : Bool} (length : right ≡ not (test wrong)) where
  pub third-length : right ≡ false → Err WrongLength ≡ verdict (third_checks b wrong faulty)
  unfolding verdict
  third-length f = let w : test wrong ≡ true = turned _ _ length ∙ ap not f in rw w

  module _ (long : right ≡ true) {c : Checked} (is : c ≡ checked b) where
    then-log : verdict (third_checks b wrong faulty) ≡ verdict (log_checks b ((NotWellFormed when faulty) ∷ []))
    unfolding verdict
    then-log = let w : test wrong ≡ false = turned _ _ length ∙ ap not long in rw w

    pub third-no-log : {r : Refusal} → c ≡ Err r → Err r ≡ verdict (third_checks b wrong faulty)
    third-no-log {r} p = log-refused b ((NotWellFormed when faulty) ∷ []) (said c) (the-verdict b is) r (ap said p) ∙ sym then-log

    module _ {h : Head} (p : c ≡ Ok h) {ok : Bool} (found : ok ≡ not (test faulty)) where
      then-words : verdict (third_checks b wrong faulty) ≡ verdict ((NotWellFormed when faulty) ∷ [])
      then-words = then-log ∙ log-passed b ((NotWellFormed when faulty) ∷ []) (said c) (the-verdict b is) (ap said p)

      pub third-words : ok ≡ false → Err NotWellFormed ≡ verdict (third_checks b wrong faulty)
      unfolding verdict
      third-words f = let w : test faulty ≡ true = turned _ _ found ∙ ap not f in sym (then-words ∙ rw w)

      pub third-pass : ok ≡ true → (Ok (tt {0})) ≡ verdict (third_checks b wrong faulty)
      unfolding verdict
      third-pass t = let w : test faulty ≡ false = turned _ _ found ∙ ap not t in sym (then-words ∙ rw w)
