use Rattle.zy_outcomes.proofs.Orderly.{done_counts}
use Rattle.zy_outcomes.proofs.laws.done_counts.Goals as goal

pub returns : goal.returns
returns c sc choices choice t = done_counts sc choices choice t
