use Rattle.std.proofs.Common.{◌≡◌, ◌+◌, drop, length}
use Rattle.zy_table.specs.Play.{play}
use Rattle.zy_ending.proofs.ending.make_all.Given as goal

abbrev pub invariant-loop-choice : goal.invariant-loop-choice
invariant-loop-choice l =
    let start = l.initial.machine in
    record {
      scenario : l.machine.scenario ≡ start.scenario;
      count : length l.machine.entries ≡ length start.entries + l.choice-index;
      state : play start.scenario l.machine.state (drop l.choice-index l.choices) ≡ play start.scenario start.state l.choices;
    }
