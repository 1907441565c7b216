-- The lines that were written are the listing.
use Rattle.std.proofs.Common.{ℕ, List, subst}
use Rattle.zy_io.specs.Writing.{Wrote}
use Rattle.zy_listing.proofs.ListingLemmas.{listing-lines}
use Rattle.zy_listing.proofs.listing.write_listing_as.Goals as goal

pub returns : goal.returns
returns g c =
    let Told : List ℕ → Type 0 = λ text. Wrote (g.K.Sink.sent c.args.sink.now) (g.K.Sink.sent c.write.new.sink) c.write.result text in
    subst Told (listing-lines c.args.machine.now c.args.same c.entries-entries.ensures.replay)
    (rw (c.scenario.ensures.value, c.entries-entries.ensures.value) at c.write.ensures)
