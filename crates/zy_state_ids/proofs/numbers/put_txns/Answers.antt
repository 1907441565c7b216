use Rattle.std.proofs.Common.{arith}
use Rattle.zy_state_ids.proofs.PartLemmas.{put_txn}
use Rattle.zy_state_ids.proofs.numbers.put_txns.Goals as goal

pub loop-t-preserved : goal.loop-t-preserved
loop-t-preserved c = record {
  so_far = λ xs e. put_txn c.put.new.table c.put.new.numbers.items c.args.part c.args.machine.now.state c.loop-t.t xs c.in_ok-txn_bytes.field-0.items
      c.txn.result.now (omega (arith, c.loop-t-test.true, c.txn_count-t-end.ensures.value)) c.in_ok-txn_bytes.ensures c.txn.ensures.value
      (c.in_ok-put.ensures.numbers _ (c.loop-t.invariant.so_far xs e));
  keeps = λ i x e. c.in_ok-put.ensures.keeps i x (c.loop-t.invariant.keeps i x e);
}
