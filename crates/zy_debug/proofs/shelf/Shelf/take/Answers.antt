use Rattle.std.proofs.Common.{◌-◌, length, subst, sym}
use Rattle.zy_debug.specs.Checkpoints.{Kept, AreReplaysOf}
use Rattle.zy_debug.proofs.KeptLemmas.{AreReplaysOf-found, AreReplaysOf-take}
use Rattle.zy_debug.proofs.shelf.Shelf.take.Goals as goal

pub returns-then-ends_at-clause-taken : goal.returns-then-ends_at-clause-taken
returns-then-ends_at-clause-taken c =
    λ sc a.
    let items = c.self.inside.ring.items in
    let kept = subst (λ (k : Kept). AreReplaysOf sc k.machines) (sym c.self.view_is) (c.drop_above.ensures.kept sc a) in
    AreReplaysOf-found sc items (length items - 1) c.pop_back.result kept c.pop_back.ensures.value

pub returns-then-ends_at-clause-kept : goal.returns-then-ends_at-clause-kept
returns-then-ends_at-clause-kept c =
    λ sc a.
    let items = c.self.inside.ring.items in
    let kept = subst (λ (k : Kept). AreReplaysOf sc k.machines) (sym c.self.view_is) (c.drop_above.ensures.kept sc a) in
    rw c.pop_back.ensures.items (AreReplaysOf-take sc (length items - 1) items kept)
