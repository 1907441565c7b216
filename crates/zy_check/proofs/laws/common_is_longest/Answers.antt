use Rattle.zy_check.proofs.LawLemmas.{common-longest}
use Rattle.zy_check.proofs.laws.common_is_longest.Goals as goal

pub returns : goal.returns
returns c = common-longest
