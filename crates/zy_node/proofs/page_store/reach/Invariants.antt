use Rattle.std.proofs.Common.{◌≡◌, ◌≤◌, length}
use Rattle.std.specs.Vec.{vec_capacity}
use Rattle.zy_isa.specs.Limits.{max_pages}
use Rattle.zy_node.specs.Slots.{laid_out, InPlace}
use Rattle.zy_node.proofs.page_store.reach.Given as goal

abbrev pub invariant-loop : goal.invariant-loop
invariant-loop l = record {
  count : length l.slots.items ≡ l.counter;
  few : length l.slots.items ≤ max_pages;
  room : max_pages ≤ vec_capacity l.slots;
  pages : laid_out l.slots.items ≡ laid_out l.fn.slots.items;
  places : InPlace 0 l.fn.slots.items → InPlace 0 l.slots.items;
}
