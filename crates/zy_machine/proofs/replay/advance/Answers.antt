use Rattle.std.proofs.Common.{◌∙◌, ap, refl, length}
use Rattle.zy_isa.specs.Scenario.{Scenario}
use Rattle.zy_isa.specs.declared.choice.Choice.TheVariants.{Start}
use Rattle.zy_machine.proofs.HistoryLemmas.{named_at}
use Rattle.zy_machine.proofs.ReplayLemmas.{follow, outcome_is}
use Rattle.zy_machine.proofs.replay.advance.Goals as goal

pub step-requires-clause-named : goal.step-requires-clause-named
step-requires-clause-named c =
    let sc = c.args.machine.now.scenario in
    let here = c.choices.ensures.value ∙ ap (λ (s : Scenario). s.choices) c.scenario.ensures.value in
    rw (here, c.len.ensures.value) (named_at (length sc.programs) (length c.args.machine.now.entries) Start sc.choices
    (c.scenario.ensures.replay.tested.choices_named) c.requires.more)

pub returns-clause-follows : goal.returns-clause-follows
returns-clause-follows c =
    let here = c.choices.ensures.value ∙ ap (λ (s : Scenario). s.choices) c.scenario.ensures.value in
    follow c.args.machine.now c.step.new.self _ _ c.requires.follows c.requires.more c.step.ensures.scenario
    (rw (here, c.len.ensures.value) refl) c.in_ok-entry.ensures.entry c.in_ok-entry.ensures.history c.in_ok-entry.ensures.state

pub returns-clause-outcome : goal.returns-clause-outcome
returns-clause-outcome c =
    let here = c.choices.ensures.value ∙ ap (λ (s : Scenario). s.choices) c.scenario.ensures.value in
    outcome_is c.args.machine.now _ _ c.requires.follows (rw (here, c.len.ensures.value) refl) (ap (λ e. e.outcome) c.in_ok-entry.ensures.entry)
