use Rattle.std.specs.Arc.{arc_value}
use Rattle.zy_machine.specs.Histories.{History}
use Rattle.zy_machine.specs.EntryLogs.{entries_of, ahead}
use Rattle.zy_machine.specs.NodePairs.{state_of}
use Rattle.zy_machine.proofs.KnownLemmas.{known-whole, opened, still-known}
use Rattle.zy_table.specs.Play.{opening}
use Rattle.std.proofs.Common.{◌++◌}
use Rattle.zy_machine.proofs.machine.Machine.reopen.Goals as goal

pub invariant_of-result : goal.invariant_of-result
invariant_of-result c =
    let m = c.self.inside in
    let h : History = record { scenario = arc_value m.scenario; state = state_of m.nodes; entries = entries_of m.log } in
    let r = c.self.invariant.0 in
    rw (c.in_ok-scenario.ensures, c.in_ok-nodes.ensures.state, c.in_ok-log.ensures.made, c.deref.ensures) (
      opened h.scenario r.tested,
      still-known h.scenario (opening h.scenario) (h.entries ++ ahead m.log) (ahead c.in_ok-log.log) c.in_ok-log.ensures.ahead
          (known-whole h (ahead m.log) r c.self.invariant.1),
      rw c.deref.ensures at c.in_ok-nodes.ensures.limited,
    )
