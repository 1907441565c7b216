use Rattle.std.proofs.Common.{◌≡◌, ◌++◌, map, drop, take}
use Rattle.zy_debug.specs.Scans.{watch_of}
use Rattle.zy_debug.proofs.scan.renew.Given as goal

abbrev pub invariant-loop-w : goal.invariant-loop-w
invariant-loop-w l = l.w-items ≡ map (λ w. watch_of l.machine.state w.slot) (take l.w-index l.initial.w-items) ++ drop l.w-index l.initial.w-items
