use Rattle.std.proofs.Common.{◌≡◌}
use Rattle.chain.specs.Operations.{buffers}
use Rattle.total.proofs.ListingLaws.{Listing}
use Rattle.total.proofs.ledgers.put_ledgers.Given as goal

abbrev pub invariant-loop-place : goal.invariant-loop-place
invariant-loop-place l = record {
  listing : Listing (buffers l.state l.entries) l.initial.to.text.now l.initial.to.at l.place l.to.text.now l.to.at;
  same_text : l.to.text.ghost_name ≡ l.initial.to.text.ghost_name;
}
