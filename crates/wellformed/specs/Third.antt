-- A third buffer that is lent beside a log: what the verdict on all three says, where the lengths of all come before the words of any.
use Rattle.std.specs.Prelude.{◌≡◌, Bool, not, List, [], ◌∷◌, get_or}
use Rattle.checks.specs.Test.{Test, test}
use Rattle.checks.specs.Checks.{Check, ◌when◌}
use Rattle.records.specs.declared.head.Head.{Head}
use Rattle.records.specs.Words.{unpack_head}
use Rattle.chain.specs.declared.answer.Refusal.{Refusal}
use Rattle.chain.specs.declared.answer.Refusal.TheVariants.{WrongLength, NotWellFormed}
use Rattle.chain.specs.Verdicts.{Verdict, verdict}
use Rattle.chain.specs.Operations.{Buffers, log_checks}

-- By what is wrong with its length, and with its words.
abbrev pub third_checks : Buffers → Test → Test → List (Check Refusal)
third_checks b wrong faulty = (WrongLength when wrong) ∷ log_checks b ((NotWellFormed when faulty) ∷ [])

-- A test of the length, and one of the words that goes by the head, decide what is wrong and what is faulty.
abbrev pub IsThirdVerdict : Buffers → Bool → (Head → Bool → Type 0) → Verdict → Type 0
IsThirdVerdict b right fits v = (wrong faulty : Test) → right ≡ not (test wrong)
    → ((h : Head) (ok : Bool) → h ≡ unpack_head (get_or b.state 0 0) → fits h ok → ok ≡ not (test faulty)) → v ≡ verdict (third_checks b wrong faulty)
