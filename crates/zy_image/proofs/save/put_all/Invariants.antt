-- The images of the items so far were put.
use Rattle.std.proofs.Common.{◌≡◌, ◌++◌, take}
use Rattle.std.specs.List.{flat_map}
use Rattle.zy_image.proofs.save.put_all.Given as goal

abbrev pub invariant-loop-item : goal.invariant-loop-item
invariant-loop-item g l = record {
  so_far : l.out.items ≡ l.initial.out.items ++ flat_map g.I.Imaged.image (take l.item-index l.items);
}
