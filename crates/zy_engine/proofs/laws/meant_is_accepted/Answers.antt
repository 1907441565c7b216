-- What is meant is read.
use Rattle.std.proofs.Common.{refl}
use Rattle.zy_asm.proofs.OnlyLemmas.{only}
use Rattle.zy_engine.proofs.laws.meant_is_accepted.Goals as goal

pub returns : goal.returns
returns c = λ text sc right means. rw (right, only text sc means) refl
