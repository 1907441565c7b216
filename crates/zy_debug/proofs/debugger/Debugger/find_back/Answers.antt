use Rattle.zy_debug.proofs.debugger.Debugger.find_back.Goals as goal

pub returns-clause-found : goal.returns-clause-found
returns-clause-found c =
    rw (← c.self.view_is)
    (rw (c.in_ok-machine.ensures.scenario, c.in_ok-machine.ensures.position, c.slots.ensures.slots, c.len-2.ensures.value) at c.last_firing-found.ensures.found)

pub returns-clause-slot : goal.returns-clause-slot
returns-clause-slot c = simp c.slots.ensures.count at c.last_firing-found.ensures.slot
