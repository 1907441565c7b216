-- The law is a lemma.
use Rattle.zy_debug_text.proofs.OneLemmas.{says_one}
use Rattle.zy_debug_text.proofs.laws.replies_are_one.Goals as goal

pub returns : goal.returns
returns c = says_one
