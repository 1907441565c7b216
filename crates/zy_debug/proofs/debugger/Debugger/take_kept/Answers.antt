use Rattle.std.proofs.Common.{refl, subst, sym}
use Rattle.zy_debug.specs.Checkpoints.{HoldReplaysOf}
use Rattle.zy_debug.proofs.debugger.Debugger.take_kept.Goals as goal

pub invariant_of-self : goal.invariant_of-self
invariant_of-self c =
    let sc = c.self.inside.machine.scenario in
    let r = c.in-Some.ensures.taken sc c.self.invariant.1 in
    rw c.swap.ensures.x_after
    (r.follows, subst (λ s. HoldReplaysOf s c.take.new.self) (sym r.scenario) (c.take.ensures.kept sc c.self.invariant.1))

pub invariant_of-self-in-None : goal.invariant_of-self-in-None
invariant_of-self-in-None c = (c.self.invariant.0, c.take.ensures.kept c.self.inside.machine.scenario c.self.invariant.1)

pub returns-in-Some-clause-taken : goal.returns-in-Some-clause-taken
returns-in-Some-clause-taken c = λ u.
    let r = c.in-Some.ensures.taken c.self.inside.machine.scenario c.self.invariant.1 in
    rw (← c.self.view_is, c.swap.ensures.x_after, r.scenario, c.in-Some.ensures.position) refl
