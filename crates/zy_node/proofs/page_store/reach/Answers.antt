use Rattle.std.proofs.Common.{arith, refl, length-append}
use Rattle.zy_node.proofs.SlotLemmas.{laid_out-push_none, InPlace-push_none}
use Rattle.zy_node.proofs.page_store.reach.Goals as goal

pub loop-preserved : goal.loop-preserved
loop-preserved c =
    rw c.push_reserved.ensures.items (record {
      count = rw (length-append, c.loop.invariant.count) refl;
      few = rw length-append (omega (arith, c.loop.invariant.count, c.requires.within, c.loop-test.true));
      room = omega (arith, c.loop.invariant.room, c.push_reserved.ensures.capacity);
      pages = rw laid_out-push_none c.loop.invariant.pages;
      places = λ h. InPlace-push_none 0 c.loop.slots.items (c.loop.invariant.places h);
    })
