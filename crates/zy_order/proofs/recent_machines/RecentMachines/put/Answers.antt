use Rattle.std.proofs.Common.{sym, subst}
use Rattle.zy_machine.specs.Histories.{History}
use Rattle.zy_order.specs.Machines.{IsThere}
use Rattle.zy_order.proofs.recent_machines.RecentMachines.put.Goals as goal

pub returns-clause-recent : goal.returns-clause-recent
returns-clause-recent c = λ h ps s there. c.in_ok-add.ensures h ps s
    (subst (λ (m : History). IsThere h ps c.args.at m) (sym c.replace-there.ensures.value) there)
