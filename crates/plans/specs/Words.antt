-- What the code's value for a step word means.
use Rattle.std.specs.Prelude.{ℕ, ◌≡◌, List}
use Rattle.std.proofs.Common.{sym}
use Rattle.chain.specs.Plans.{word_number, word_client, word_value, word_step}
use Rattle.plans.specs.Planned.{Planned}
use Rattle.plans.specs.Numbers.{planned_of, Numbered}

abbrev pub Tells : ℕ → Planned → Type 0
Tells word p = (rights : List ℕ) → word_step rights word ≡ planned_of rights p

pub tells : (word value : ℕ) (p : Planned) → value ≡ word_value word → Numbered (word_number word) (word_client word) value p → Tells word p
unfolding word_step
tells word value p e n rights = rw (sym e) (n rights)
