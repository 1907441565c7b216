-- What is shown is there, since the command was not rejected.
use Rattle.std.proofs.Common.{refl, subst, sym}
use Rattle.zy_isa.specs.Scenario.{Scenario}
use Rattle.zy_debug.specs.Commands.{refusal}
use Rattle.zy_debug_text.specs.Replies.{IsThere}
use Rattle.zy_debug_text.proofs.ThereLemmas.{obeyed_there}
use Rattle.zy_debug_text.proofs.answer.obey.Goals as goal

pub append_shown-requires : goal.append_shown-requires
append_shown-requires c =
    let s = c.args.debugger.now in
    let x = c.in-Ok-Shown.shown in
    let obeyed = rw (c.in-Ok-Shown.is, c.in-Ok-Shown.field-0-is) at c.command.ensures in
    let there = obeyed_there (refusal s c.args.command) s c.command.new.self c.args.command x refl obeyed in
    subst (λ (sc : Scenario). IsThere sc x) (sym c.machine.ensures.scenario) there
