use Rattle.zy_check.proofs.LawLemmas.{table-listing}
use Rattle.zy_check.proofs.laws.table_is_a_listing.Goals as goal

pub returns : goal.returns
returns c = table-listing
