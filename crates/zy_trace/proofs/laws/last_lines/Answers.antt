use Rattle.zy_trace.proofs.LawLemmas.{last_is}
use Rattle.zy_trace.proofs.laws.last_lines.Goals as goal

pub returns : goal.returns
returns c = last_is
