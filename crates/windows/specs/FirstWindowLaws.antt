-- What the search for a window answers, by the verdict on the buffers and by the window's length.
use Rattle.std.specs.Prelude.{ℕ, ◌<◌, ◌≤◌, ◌≡◌, List, [], ◌∷◌, map, Ok, Err}
use Rattle.std.proofs.Math.Path.{sym, ap}
use Rattle.std.proofs.Common.{◌∙◌, inl, inr}
use Rattle.checks.specs.Test.{Holds}
use Rattle.checks.specs.TestLaws.{holds-true, fails-false}
use Rattle.checks.specs.Checks.{◌when◌}
use Rattle.records.specs.declared.head.Head.{Head}
use Rattle.chain.specs.declared.answer.Refusal.{Refusal}
use Rattle.chain.specs.declared.answer.Refusal.TheVariants.{WindowLength}
use Rattle.chain.specs.Answered.{WindowAnswer}
use Rattle.chain.specs.Verdicts.{verdict, verdict-refuses, passes-first}
use Rattle.chain.specs.Operations.{buffers, chain_reading}
use Rattle.chain.specs.Values.{value_of}
use Rattle.limits.specs.Limits.{window_limit}
use Rattle.chain.specs.Windows.{window_from, wrong_length, window_checks, first_window}
use Rattle.chain.proofs.Laws.Values.{values-cleared}
use Rattle.wellformed.specs.Checked.{Checked}
use Rattle.wellformed.specs.Checked.{checked, said, the-verdict, the-head}
use Rattle.wellformed.specs.LogVerdictLaws.{log-refused, log-passed}
use Rattle.readers.specs.Along.{chain_words, chain-reading}

module _ (s e : List ℕ) (n limit : ℕ) {c : Checked} (is : c ≡ checked (buffers s e)) where
  refused : (r : Refusal) → verdict (window_checks n (buffers s e)) ≡ Err r → Err r ≡ first_window n limit (buffers s e)
  unfolding first_window
  refused r h = sym (verdict-refuses (window_checks n (buffers s e)) Err (window_from n limit 0 (map value_of (chain_reading (buffers s e)))) r h)

  pub window-refused : {r : Refusal} → c ≡ Err r → Err r ≡ first_window n limit (buffers s e)
  window-refused {r} p = refused r (sym (log-refused (buffers s e) _ (said c) (the-verdict (buffers s e) is) r (ap said p)))

  module _ {h : Head} (p : c ≡ Ok h) where
    on : verdict (window_checks n (buffers s e)) ≡ verdict ((WindowLength when wrong_length n) ∷ [])
    on = log-passed (buffers s e) ((WindowLength when wrong_length n) ∷ []) (said c) (the-verdict (buffers s e) is) (ap said p)

    unserved : Holds (wrong_length n) → Err WindowLength ≡ first_window n limit (buffers s e)
    unfolding verdict
    unserved h = refused WindowLength (on ∙ rw (holds-true (wrong_length n) h))

    pub window-none : n ≡ 0 → Err WindowLength ≡ first_window n limit (buffers s e)
    window-none q = unserved (inl q)

    pub window-long : window_limit < n → Err WindowLength ≡ first_window n limit (buffers s e)
    window-long l = unserved (inr l)

    pub window-found : (n ≡ 0 → ⊥) → n ≤ window_limit → {a : WindowAnswer}
        → a ≡ window_from n limit 0 (map value_of (chain_words s e h)) → a ≡ first_window n limit (buffers s e)
    unfolding first_window verdict
    window-found some at_most found =
        let pass : verdict (window_checks n (buffers s e)) ≡ (Ok (tt {0})) = on ∙ rw (fails-false (wrong_length n) (some, at_most)) in
        found
        ∙ ap (window_from n limit 0) (sym (ap (map value_of) (chain-reading s e h (the-head (buffers s e) is p)) ∙ values-cleared (chain_words s e h)))
        ∙ sym (passes-first (window_checks n (buffers s e)) Err (window_from n limit 0 (map value_of (chain_reading (buffers s e)))) pass)
