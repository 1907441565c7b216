-- An object tells the line that says its step.
use Rattle.std.proofs.Common.{◌∙◌, ◌++◌, ap, inr}
use Rattle.zy_json.specs.Steps.{log_text, step_of}
use Rattle.zy_json.proofs.logs.say.Goals as goal

pub returns-in-Ok : goal.returns-in-Ok
returns-in-Ok c =
    let step = step_of c.in_ok-step.step in
    inr (step, c.in_ok-step.ensures, c.in-Ok.ensures ∙ ap (λ t. t ++ log_text step) c.clear.ensures)
