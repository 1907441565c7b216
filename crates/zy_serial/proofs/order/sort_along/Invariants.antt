use Rattle.std.proofs.Common.{◌≡◌, drop, [], length}
use Rattle.zy_laws.specs.SourceFirst.{sorted}
use Rattle.zy_machine.specs.Histories.{choices_of}
use Rattle.zy_table.specs.Play.{opening}
use Rattle.zy_serial.proofs.order.sort_along.Given as goal

abbrev pub invariant-loop-entry : goal.invariant-loop-entry
invariant-loop-entry l =
    let sc = l.machine.scenario in
    let choices = choices_of l.machine.entries in
    record {
      scenario : l.replay.scenario ≡ sc;
      count : length l.replay.entries ≡ l.entry-index;
      sorts : sorted sc l.replay.state (drop l.entry-index choices) l.sorted ≡ sorted sc (opening sc) choices (record { first = []; later = [] });
    }
