use Rattle.std.proofs.Common.{arith}
use Rattle.zy_table.proofs.RisingNumbers.{rises_put, rises_in_order}
use Rattle.zy_node.proofs.NumberLists.{below_put, room_for}
use Rattle.zy_node.proofs.page_set.PageSet.put.Goals as goal

pub put_key-requires : goal.put_key-requires
put_key-requires c = rises_in_order 0 _ c.self.invariant.0

pub unwrap-requires : goal.unwrap-requires
unwrap-requires c =
    let kept = c.self.invariant in
    let new = rw (← c.self.view_is) at c.requires.absent in
    let room = room_for c.args.p _ kept.0 c.requires.few kept.1 new in
    c.put_key.ensures.succeeds (omega (arith, room, kept.2))

pub invariant_of-self : goal.invariant_of-self
invariant_of-self c =
    let kept = c.self.invariant in
    let new = rw (← c.self.view_is) at c.requires.absent in
    let items = rw c.unwrap.ensures at c.put_key.ensures.keys in
    rw items (rises_put 0 c.args.p _ (omega arith) new kept.0, below_put c.args.p _ c.requires.few kept.1, omega (arith, kept.2, c.put_key.ensures.room))
