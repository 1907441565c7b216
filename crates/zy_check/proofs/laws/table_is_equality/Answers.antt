use Rattle.zy_check.proofs.LawLemmas.{verdict-table, verdict-same}
use Rattle.zy_check.proofs.laws.table_is_equality.Goals as goal

pub returns : goal.returns
returns c input listing = (verdict-table input listing, verdict-same input listing)
