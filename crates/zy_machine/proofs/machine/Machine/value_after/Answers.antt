use Rattle.zy_machine.proofs.ObservedLemmas.{named_txn}
use Rattle.zy_machine.proofs.machine.Machine.value_after.Goals as goal

pub txn-requires : goal.txn-requires
txn-requires c = named_txn c.args.self.now c.args.choice _ c.in-Run-Did-Some.t c.scenario.ensures.replay c.in-Run-Did-Some.is-0 c.requires
