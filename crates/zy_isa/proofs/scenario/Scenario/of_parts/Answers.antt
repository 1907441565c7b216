use Rattle.std.proofs.Common.{subst}
use Rattle.zy_isa.specs.Rows.{RowsFit}
use Rattle.zy_isa.specs.Scenario.{ArePrograms}
use Rattle.zy_isa.proofs.ScenarioLemmas.{scenario_of}
use Rattle.zy_isa.proofs.scenario.Scenario.of_parts.Goals as goal

pub invariant_of-result : goal.invariant_of-result
invariant_of-result c =
    scenario_of _ c.requires (subst RowsFit c.as_slice.ensures.value c.have_rows.ensures) (subst ArePrograms c.as_slice-2.ensures.value c.are_programs.ensures)

pub returns-clause-tested : goal.returns-clause-tested
returns-clause-tested c =
    scenario_of _ c.requires (subst RowsFit c.as_slice.ensures.value c.have_rows.ensures) (subst ArePrograms c.as_slice-2.ensures.value c.are_programs.ensures)
