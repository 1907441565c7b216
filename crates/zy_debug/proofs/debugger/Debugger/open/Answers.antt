use Rattle.zy_debug.proofs.debugger.Debugger.open.Goals as goal

pub invariant_of-result : goal.invariant_of-result
invariant_of-result c = (c.in_ok-machine.ensures.follows, c.in-Ok.ensures.none c.in_ok-machine.machine.scenario)
