-- The machine of the session has made the first choices of its scenario.
use Rattle.std.proofs.Common.{refl}
use Rattle.zy_debug.proofs.debugger.Debugger.here.Goals as goal

pub returns-then-len-target-clause-below : goal.returns-then-len-target-clause-below
returns-then-len-target-clause-below c = rw (c.len.ensures.value) at c.if-len-target.true

pub returns-then-len-target-clause-replay : goal.returns-then-len-target-clause-replay
returns-then-len-target-clause-replay c = rw (← c.self.view_is) (record { scenario = refl; follows = c.self.invariant.0 })
