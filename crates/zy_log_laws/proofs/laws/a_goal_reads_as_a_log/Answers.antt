-- The law is a lemma.
use Rattle.zy_log_laws.proofs.GoalLemmas.{read_alike}
use Rattle.zy_log_laws.proofs.laws.a_goal_reads_as_a_log.Goals as goal

pub returns : goal.returns
returns c txns most words rest told one read = read_alike txns words (told, rest) most one read
