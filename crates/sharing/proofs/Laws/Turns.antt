-- The entries of the table that compare numbers.
use Rattle.std.specs.Prelude.{ℕ, ◌<◌, ◌≤◌, ◌≡◌}
use Rattle.checks.specs.Test.{at_most, same}
use Rattle.checks.specs.TestLaws.{holds-true, fails-false}
use Rattle.sharing.specs.declared.controller.Phase.TheVariants as phases
use Rattle.sharing.specs.declared.controller.Act.TheVariants as acts
use Rattle.sharing.specs.Turns.{to, when_accepted, when_next, when_between, when_placed}

pub accepted-none : (id : ℕ) → id ≡ 0 → when_accepted id ≡ to phases.Idle acts.Withdraw
accepted-none id e = rw (holds-true (same id 0) e)

pub accepted-some : (id : ℕ) → (id ≡ 0 → ⊥) → when_accepted id ≡ to (phases.Waiting id) acts.Append
accepted-some id e = rw (fails-false (same id 0) e)

module _ (id there : ℕ) where
  pub next-own : there ≡ id → when_next id there ≡ to phases.Idle acts.Tell
  next-own e = rw (holds-true (same there id) e)

  pub next-other : (there ≡ id → ⊥) → when_next id there ≡ to (phases.Waiting id) acts.Read
  next-other e = rw (fails-false (same there id) e)

module _ (id n place : ℕ) where
  pub placed-next : place ≤ n → when_placed id n place ≡ to phases.Idle acts.Tell
  placed-next h = rw (holds-true (at_most place n) h)

  pub placed-further : n < place → when_placed id n place ≡ to (phases.Waiting id) when_between
  placed-further h = rw (fails-false (at_most place n) h)
