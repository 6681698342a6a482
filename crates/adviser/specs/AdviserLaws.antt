-- What carries the adviser's code to its answer: the verdict on the buffers, check 3, and what the log says of the client.
use Rattle.std.specs.Prelude.{Option, ℕ, ◌≡◌, Bool, true, false, [], ◌∷◌, Ok, Err}
use Rattle.std.proofs.Math.Path.{sym}
use Rattle.std.proofs.Common.{ap, ◌∙◌}
use Rattle.checks.specs.Test.{same, at_most, test}
use Rattle.checks.specs.TestLaws.{false-fails}
use Rattle.records.specs.declared.client.Client.{Client}
use Rattle.records.specs.declared.ledger.Ledger.{Ledger}
use Rattle.chain.specs.declared.kind.Kind.{Kind}
use Rattle.chain.specs.declared.answer.Refusal.{Refusal}
use Rattle.chain.specs.declared.answer.Refusal.TheVariants.{UnknownClient}
use Rattle.chain.specs.Answered.{Advice}
use Rattle.chain.specs.Verdicts.{Verdict}
use Rattle.chain.specs.Adviser.{client_advice, advice, adviser_checks, adviser}
use Rattle.chain.specs.Log.{Log}
use Rattle.chain.specs.Buffers.{head}
use Rattle.chain.specs.Operations.{Buffers, held, log_checks}
use Rattle.chain.specs.Steps.{client_check}
use Rattle.chain.specs.Verdicts.{verdict, verdict-refuses, passes-first}
use Rattle.lookup.specs.Opened.{Opened}
use Rattle.wellformed.specs.LogVerdictLaws.{log-formed, log-refused, log-passed}

-- What was looked up is what the log says.
pub looked-up : (c : ℕ) (s : Log) {a : Option Kind} {n : ℕ} {k : Client} {d : Ledger} → s.named_leader ≡ n → s.clients c ≡ k
    → s.ledgers (s.clients c).ledger.0 ≡ d → a ≡ client_advice (test (same n c)) k d.fenced → a ≡ advice c s
looked-up c s leader client ledger e = e ∙ sym (rw (ledger, client, leader))

module _ (c : ℕ) (b : Buffers) {v : Verdict} (said : v ≡ verdict (log_checks b [])) where
  -- Checks 1 and 2.
  pub no-log : {r : Refusal} → v ≡ Err r → ◌≡◌ {A = Advice} (Err r) (adviser c b)
  unfolding adviser
  no-log {r} h = sym (verdict-refuses (adviser_checks c b) Err (Ok (advice c (held b))) r (sym (log-refused b _ v said r h)))

  -- Check 3.
  module _ (h : v ≡ (Ok (tt {0}))) {t : Bool} (met : t ≡ test (at_most (head b.state).client_count c)) where
    rest : verdict (adviser_checks c b) ≡ verdict (client_check c (held b) ∷ [])
    rest = log-passed b (client_check c (held b) ∷ []) v said h

    pub unknown : t ≡ true → ◌≡◌ {A = Advice} (Err UnknownClient) (adviser c b)
    unfolding adviser verdict
    unknown e = sym (verdict-refuses (adviser_checks c b) Err (Ok (advice c (held b))) UnknownClient (rest ∙ rw (sym met ∙ e)))

    module _ (e : t ≡ false) where
      pub opened : Opened c b
      opened = record {
        good = (log-formed b [] (sym said ∙ h)).0;
        known = false-fails (at_most (held b).client_count c) (sym met ∙ e);
      }

      pub known : {a : Option Kind} → a ≡ advice c (held b) → Ok a ≡ adviser c b
      unfolding adviser verdict
      known q = ap Ok q ∙ sym (passes-first (adviser_checks c b) Err (Ok (advice c (held b))) (rest ∙ rw (sym met ∙ e)))
