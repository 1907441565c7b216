-- The bytes of the items so far were put.
use Rattle.std.proofs.Common.{◌≡◌, ◌++◌, take}
use Rattle.std.specs.List.{flat_map}
use Rattle.zy_state_ids.proofs.packing.put_items.Given as goal

abbrev pub invariant-loop-item : goal.invariant-loop-item
invariant-loop-item g l = record {
  so_far : l.out.items ≡ l.initial.out.items ++ flat_map g.P.Packed.bytes (take l.item-index l.items);
}
