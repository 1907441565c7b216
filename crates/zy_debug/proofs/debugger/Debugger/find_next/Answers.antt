use Rattle.zy_debug.proofs.debugger.Debugger.find_next.Goals as goal

pub returns-clause-found : goal.returns-clause-found
returns-clause-found c =
    rw (c.len-position.ensures.value, ← c.self.view_is)
    (rw (c.in_ok-machine.ensures, c.slots.ensures.slots) at c.in_ok-slot.ensures.stops)

pub returns-clause-slot : goal.returns-clause-slot
returns-clause-slot c = simp c.slots.ensures.count at c.in_ok-slot.ensures.slot
