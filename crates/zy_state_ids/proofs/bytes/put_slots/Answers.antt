use Rattle.std.proofs.Common.{arith}
use Rattle.zy_state_ids.proofs.SlotLemmas.{put_more}
use Rattle.zy_state_ids.proofs.bytes.put_slots.Goals as goal

pub loop-slot-preserved : goal.loop-slot-preserved
loop-slot-preserved c = record {
  so_far = put_more c.args.slots.now c.loop-slot.slot-index c.slot-item.result _ _ _ (omega (arith, c.loop-slot-test.true)) c.slot-item.is
      c.loop-slot.invariant.so_far c.in_ok-put_slot.ensures;
}
