-- A place among the texts is that of a step.
use Rattle.std.proofs.Common.{◌<◌, length, sym, arith}
use Rattle.zy_listing.proofs.ListingLemmas.{length-taken, taken-at}
use Rattle.zy_listing.proofs.lines.taken.TakenPieceLines.line.Goals as goal

pub returns-clause-text : goal.returns-clause-text
returns-clause-text c =
    let h : c.args.place < length c.args.self.now.0.now = omega (arith, c.requires, length-taken c.args.self.now.0.now) in
    sym (taken-at c.args.place _ c.args.self.now.0.now h)
