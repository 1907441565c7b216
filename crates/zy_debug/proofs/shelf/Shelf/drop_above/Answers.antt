use Rattle.std.proofs.Common.{subst, sym}
use Rattle.zy_debug.specs.Checkpoints.{Kept, AreReplaysOf}
use Rattle.zy_debug.proofs.KeptLemmas.{AreReplaysOf-take}
use Rattle.zy_debug.proofs.shelf.Shelf.drop_above.Goals as goal

pub returns-in-Some-clause-kept : goal.returns-in-Some-clause-kept
returns-in-Some-clause-kept c =
    λ sc a.
    let kept = subst (λ (k : Kept). AreReplaysOf sc k.machines) (sym c.self.view_is) a in
    rw c.truncate_back.ensures (AreReplaysOf-take sc c.in-Some.first c.self.inside.ring.items kept)
