-- What is left gives, behind the items that were read, what all of it gives.
use Rattle.std.proofs.Common.{◌≡◌, ◌-◌, ◌≤◌, [], length}
use Rattle.std.specs.Vec.{vec_capacity}
use Rattle.zy_image.specs.Reading.{read_items}
use Rattle.zy_image.proofs.lists.read_items.Given as goal

abbrev pub invariant-loop : goal.invariant-loop
invariant-loop g l = record {
  made : length l.items.items ≡ l.counter;
  room : l.count ≤ vec_capacity l.items;
  same : read_items (g.I.Items.next l.kind) l.items.items (l.count - l.counter) l.left ≡ read_items (g.I.Items.next l.kind) [] l.count l.bytes;
}
