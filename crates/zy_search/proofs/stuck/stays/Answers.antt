use Rattle.std.proofs.Common.{◌∙◌, sym, ap}
use Rattle.zy_table.specs.declared.entry.Entry.{Entry}
use Rattle.zy_search.specs.Stuck.{is_still}
use Rattle.zy_search.proofs.StillSteps.{twin_still, longer_by}
use Rattle.zy_search.proofs.stuck.stays.Goals as goal

pub returns-clause-twin : goal.returns-clause-twin
returns-clause-twin c = λ e.
    let o = ap (λ (x : Entry). is_still x.outcome) c.in_ok-entry.ensures.entry in
    twin_still c.args.machine.now c.make_room.new.twin c.step.new.self c.args.choice c.in_ok-make_room.ensures.twin c.step.ensures.scenario
    c.in_ok-entry.ensures.state (longer_by _ _ _ c.in_ok-entry.ensures.history) (sym o ∙ (sym c.is_still.ensures ∙ e))
