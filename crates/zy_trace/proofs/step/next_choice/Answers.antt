use Rattle.std.proofs.Common.{◌∙◌, ap, length}
use Rattle.zy_isa.specs.Scenario.{Scenario}
use Rattle.zy_isa.specs.declared.choice.Choice.TheVariants.{Start}
use Rattle.zy_machine.proofs.HistoryLemmas.{named_at}
use Rattle.zy_trace.proofs.step.next_choice.Goals as goal

pub returns-clause-named : goal.returns-clause-named
returns-clause-named c =
    let sc = c.args.machine.now.scenario in
    let here = c.choices.ensures.value ∙ ap (λ (s : Scenario). s.choices) c.scenario.ensures.value in
    rw (here, c.len.ensures.value) (named_at (length sc.programs) (length c.args.machine.now.entries) Start sc.choices
    (c.scenario.ensures.replay.tested.choices_named) c.requires)
