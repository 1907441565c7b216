-- The text so far is that of the locks before this one.
use Rattle.std.proofs.Common.{◌≡◌, ◌++◌, take}
use Rattle.zy_listing.specs.Locked.{locks_on}
use Rattle.zy_listing.proofs.lines.locked.LocksOnLine.append.Given as goal

abbrev pub invariant-loop-lock : goal.invariant-loop-lock
invariant-loop-lock l = l.line ≡ l.initial.line ++ locks_on l.self.node l.self.page (take l.lock-index l.self.locks.now)
