use Rattle.std.proofs.Common.{◌≡◌, ◌++◌, map, drop}
use Rattle.zy_debug.specs.Scans.{watch_of}
use Rattle.zy_debug.proofs.scan.watch.Given as goal

abbrev pub invariant-loop-slot : goal.invariant-loop-slot
invariant-loop-slot l = l.all.items ++ map (watch_of l.machine.state) (drop l.slot-index l.slots) ≡ map (watch_of l.machine.state) l.slots
