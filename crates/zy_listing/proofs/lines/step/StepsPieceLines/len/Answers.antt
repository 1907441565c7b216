use Rattle.std.proofs.Common.{sym}
use Rattle.zy_listing.proofs.ListingLemmas.{length-steps}
use Rattle.zy_listing.proofs.lines.step.StepsPieceLines.len.Goals as goal

pub returns : goal.returns
returns c = sym (length-steps 1 c.args.self.now.0.now)
