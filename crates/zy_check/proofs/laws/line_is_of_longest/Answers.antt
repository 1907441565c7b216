use Rattle.zy_check.proofs.LawLemmas.{verdict-line}
use Rattle.zy_check.proofs.laws.line_is_of_longest.Goals as goal

pub returns : goal.returns
returns c = verdict-line
