-- The machine has made as many choices as it was to, or all.
use Rattle.std.proofs.Common.{◌∙◌}
use Rattle.zy_engine.proofs.SearchLemmas.{follows_first}
use Rattle.zy_engine.proofs.searching.run_first.Goals as goal

pub returns-in-Ok : goal.returns-in-Ok
returns-in-Ok c = follows_first _ c.args.scenario c.args.count c.advance_to.ensures.follows (c.advance_to.ensures.scenario ∙ c.in_ok-machine.ensures.scenario) (c.in-Ok.ensures.position
    ∙ rw (c.choices.ensures.value, c.scenario.ensures.value, c.in_ok-machine.ensures.scenario) at c.min-target.ensures)
