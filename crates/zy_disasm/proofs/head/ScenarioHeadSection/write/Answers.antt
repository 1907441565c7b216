use Rattle.zy_disasm.proofs.head.ScenarioHeadSection.write.Goals as goal

pub returns : goal.returns
returns g c =
    rw (
      ← c.version.ensures.value,
      ← c.cap.ensures.value,
      ← c.pages.ensures.value,
      ← c.rule.ensures.value,
      ← c.rows.ensures.value,
      ← c.programs.ensures.value,
    ) c.write.ensures
