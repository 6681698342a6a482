-- The promise of NumbersPromise holds.
use Rattle.std.specs.Prelude.{ℕ, ◌≡◌, refl, [], ◌∷◌, get_or}
use Rattle.std.proofs.Common.{sym, ap, ◌∙◌}
use Rattle.sharing.specs.declared.controller.Phase.{Phase}
use Rattle.sharing.specs.declared.controller.Phase.TheVariants as phases
use Rattle.sharing.specs.declared.controller.Seen.{Seen}
use Rattle.sharing.specs.declared.controller.Seen.TheVariants as seen
use Rattle.sharing.specs.declared.controller.Act.{Act}
use Rattle.sharing.specs.declared.controller.Act.TheVariants as acts
use Rattle.sharing.specs.Numbers.{phase_number, phase_id, phase_of, seen_of, act_number}
use Rattle.sharing.specs.NumbersPromise.{NumbersSayAll}

phase-again : (p : Phase) → phase_of (phase_number p) (phase_id p) ≡ p
phase-again phases.Idle = refl
phase-again phases.Asked = refl
phase-again phases.Current = refl
phase-again (phases.Waiting id) = refl
phase-again phases.Halted = refl

seen_by : (o : Seen) → (number : ℕ) × (first : ℕ) × (second : ℕ) × (seen_of number first second ≡ o)
seen_by seen.Asked = (0, 0, 0, refl)
seen_by (seen.Read n) = (1, n, 0, refl)
seen_by (seen.Next n id) = (2, n, id, refl)
seen_by (seen.Placed n place) = (3, n, place, refl)
seen_by (seen.Accepted id) = (4, id, 0, refl)
seen_by seen.Refused = (5, 0, 0, refl)
seen_by seen.Silence = (6, 0, 0, refl)
seen_by seen.Stop = (7, 0, 0, refl)
seen_by seen.OtherHistory = (8, 0, 0, refl)

abbrev act_of : ℕ → Act
act_of n = get_or (acts.Nothing ∷ acts.Read ∷ acts.Try ∷ acts.Append ∷ acts.Tell ∷ acts.Refuse ∷ acts.Withdraw ∷ acts.Unknown ∷ []) n acts.Nothing

act-again : (a : Act) → act_of (act_number a) ≡ a
act-again acts.Nothing = refl
act-again acts.Read = refl
act-again acts.Try = refl
act-again acts.Append = refl
act-again acts.Tell = refl
act-again acts.Refuse = refl
act-again acts.Withdraw = refl
act-again acts.Unknown = refl

pub numbers-say-all : NumbersSayAll
numbers-say-all = record {
  phase = phase-again;
  seen = seen_by;
  act = λ a b e. sym (act-again a) ∙ ap act_of e ∙ act-again b;
}
