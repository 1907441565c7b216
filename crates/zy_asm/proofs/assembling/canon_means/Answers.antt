-- The law is a lemma.
use Rattle.zy_asm.proofs.CanonLemmas.{Means-canon}
use Rattle.zy_asm.proofs.assembling.canon_means.Goals as goal

pub returns : goal.returns
returns c = Means-canon
