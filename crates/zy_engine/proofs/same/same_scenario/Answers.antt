-- What was loaded is the first scenario, and since it has the same image the other one too.
use Rattle.std.proofs.Common.{◌∙◌, sym}
use Rattle.zy_engine.proofs.same.same_scenario.Goals as goal

pub returns-in-Ok : goal.returns-in-Ok
returns-in-Ok c =
    let image = c.deref-3.ensures.value in
    let same = c.same_bytes.ensures c.if-not-same_bytes.false in
    λ is. sym (c.in-Ok.ensures.only c.args.one.now (c.programs-one.ensures.tested, image ∙ c.in_ok-image.ensures))
    ∙ c.in-Ok.ensures.only c.args.other.now (
      c.programs-other.ensures.tested,
      image ∙ sym c.deref.ensures.value ∙ same ∙ c.deref-2.ensures.value ∙ c.in_ok-image_of_other.ensures,
    )
