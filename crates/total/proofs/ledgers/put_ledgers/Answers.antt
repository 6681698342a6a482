use Rattle.std.proofs.Common.{rules, arith, sym, ◌∙◌}
use Rattle.total.proofs.ListingLaws.{listing-room, listing-turn, listing-end, listing_over}
use Rattle.total.proofs.ledgers.put_ledgers.Goals as goal

pub put_ledger-requires : goal.put_ledger-requires
put_ledger-requires c =
    listing-room c.requires.log c.loop-place.invariant.listing _ (sym c.in-Ok.is ∙ c.ledger_at.ensures) c.requires.room

pub loop-place-preserved : goal.loop-place-preserved
loop-place-preserved c = record {
  listing = listing-turn c.requires.log c.loop-place.invariant.listing _ (sym c.in-Ok.is ∙ c.ledger_at.ensures) c.put_ledger.ensures.puts;
  same_text = search rules;
}

pub returns-in_default-clause-puts : goal.returns-in_default-clause-puts
returns-in_default-clause-puts c = listing-end c.requires.log c.loop-place.invariant.listing _ (sym c.in_default.is ∙ c.ledger_at.ensures)

pub returns-clause-puts : goal.returns-clause-puts
returns-clause-puts c = listing_over c.requires.log c.loop-place.invariant.listing (omega arith)
