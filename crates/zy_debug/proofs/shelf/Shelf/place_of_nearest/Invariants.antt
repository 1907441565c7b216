use Rattle.std.proofs.Common.{◌≤◌, ◌≡◌, Some, slice_get, IfSome, length}
use Rattle.zy_machine.specs.Histories.{History}
use Rattle.zy_debug.proofs.shelf.Shelf.place_of_nearest.Given as goal

abbrev pub invariant-loop-i : goal.invariant-loop-i
invariant-loop-i l = IfSome l.nearest (λ i. (h : History) × (slice_get l.self-inside.ring.items i ≡ Some h) × (length h.entries ≤ l.target))
