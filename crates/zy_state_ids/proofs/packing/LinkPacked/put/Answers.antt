use Rattle.std.proofs.Common.{arith}
use Rattle.zy_state_ids.proofs.LinkLemmas.{put_more}
use Rattle.zy_state_ids.proofs.packing.LinkPacked.put.Goals as goal

-- src/packing.rt:190:9
pub loop-i-preserved : goal.loop-i-preserved
loop-i-preserved c = record {
  so_far = put_more c.args.self.now.messages c.loop-i.i c.message_at.result.now _ _ _ (omega (arith, c.loop-i-test.true, c.len-i-end.ensures)) c.message_at.ensures c.loop-i.invariant.so_far c.in_ok-put.ensures;
}
