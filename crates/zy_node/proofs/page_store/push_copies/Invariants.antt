use Rattle.std.proofs.Common.{◌≡◌, ◌++◌, take}
use Rattle.std.specs.Vec.{vec_capacity}
use Rattle.zy_node.proofs.page_store.push_copies.Given as goal

abbrev pub invariant-loop-slot : goal.invariant-loop-slot
invariant-loop-slot l =
    record {
      items : l.copies.items ≡ l.initial.copies.items ++ take l.slot-index l.slots;
      room : vec_capacity l.copies ≡ vec_capacity l.initial.copies;
    }
