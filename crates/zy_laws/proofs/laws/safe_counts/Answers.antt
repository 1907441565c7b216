use Rattle.zy_laws.proofs.counts.SafeCounts.{safe}
use Rattle.zy_laws.proofs.laws.safe_counts.Goals as goal

pub returns : goal.returns
returns c sc ok choices = safe sc ok choices
