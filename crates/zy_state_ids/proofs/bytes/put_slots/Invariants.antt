-- The bytes of the pages in the slots so far were put.
use Rattle.std.proofs.Common.{◌≡◌, ◌++◌, take}
use Rattle.std.specs.List.{flat_map}
use Rattle.zy_node.specs.Slots.{laid_out}
use Rattle.zy_state_ids.specs.Packed.{leaf}
use Rattle.zy_state_ids.proofs.bytes.put_slots.Given as goal

abbrev pub invariant-loop-slot : goal.invariant-loop-slot
invariant-loop-slot l = record { so_far : l.out.items ≡ l.initial.out.items ++ flat_map leaf (laid_out (take l.slot-index l.slots)) }
