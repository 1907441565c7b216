use Rattle.std.proofs.Common.{length, arith}
use Rattle.std.proofs.lemmas.Bool.{ltb-true}
use Rattle.zy_machine.proofs.ObservedLemmas.{replay_txns}
use Rattle.zy_machine.proofs.machine.Machine.side_of.Goals as goal

pub txn-requires : goal.txn-requires
txn-requires c =
    let h = c.args.self.now in
    let there = ltb-true c.in-Kill.t (length h.scenario.programs) (rw c.in-Kill.is at c.requires) in
    omega (arith, there, replay_txns h c.scenario.ensures.replay)
