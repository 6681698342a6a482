-- The bit of a right in a client's word: the kinds count down from bit 63.
use Rattle.std.proofs.Common.{◌≡◌, refl, ℕ, ◌/◌, ◌%◌, ◌^◌, ◌-◌}
use Rattle.chain.specs.declared.kind.Kind.{Kind}
use Rattle.chain.specs.declared.kind.Kind.TheVariants.{Name, Become, Abdicate, Fetch, CloseLast, Finish, Create, Append, Write, CloseOwn}
use Rattle.chain.specs.Rights.{right_in}
use Rattle.chain.specs.Kinds.{place_in_order}

pub right_bit : (k : Kind) (w : ℕ) → right_in (place_in_order k) w ≡ w / 2 ^ (63 - place_in_order k) % 2
unfolding right_in
right_bit Name w = refl
right_bit Become w = refl
right_bit Abdicate w = refl
right_bit Fetch w = refl
right_bit CloseLast w = refl
right_bit Finish w = refl
right_bit Create w = refl
right_bit Append w = refl
right_bit Write w = refl
right_bit CloseOwn w = refl
