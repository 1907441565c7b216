use Rattle.std.proofs.Common.{length}
use Rattle.zy_txns.proofs.book.+all_fit_in_place.Given as goal

abbrev pub decreases-all_fit_in_place : goal.decreases-all_fit_in_place
decreases-all_fit_in_place l = length l.xs.now
