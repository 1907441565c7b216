use Rattle.std.proofs.Common.{sym, ap, ◌∙◌}
use Rattle.json.proofs.Trees.{view-Object}
use Rattle.json.specs.Value.{members_view, value_view}
use Rattle.zy_json.specs.Meaning as meaning
use Rattle.zy_json.specs.Objects.{step_in}
use Rattle.zy_json.proofs.reading.step_told.Goals as goal

-- the members are those of the object
pub returns-in-Object : goal.returns-in-Object
returns-in-Object c = c.step_in.ensures ∙ ap (λ ms. step_in (members_view ms)) c.deref.ensures.value
    ∙ sym (ap meaning.step_told (ap value_view c.in-Object.is ∙ view-Object c.in-Object.members))
