use Rattle.std.proofs.Common.{◌≡◌, ◌∙◌, IfOk, ap, subst}
use Rattle.zy_machine.specs.Histories.{History}
use Rattle.zy_machine.proofs.replay.start.Goals as goal

pub returns-clause-scenario : goal.returns-clause-scenario
returns-clause-scenario c =
    subst (λ sc. IfOk c.restart-machine.result (λ m. m.scenario ≡ sc)) (ap (λ (h : History). h.scenario) (c.in_ok-whole.ensures ∙ c.in_ok-ran.ensures.run))
    c.restart-machine.ensures.scenario
