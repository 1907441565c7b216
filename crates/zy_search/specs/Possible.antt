-- The outcomes that a step from a state may have.
use Rattle.std.specs.Prelude.{Bool, length}
use Rattle.std.specs.List.{list_any}
use Rattle.zy_isa.specs.declared.choice.Choice.{Choice}
use Rattle.zy_isa.specs.Scenario.{Scenario}
use Rattle.zy_table.specs.State.{State}
use Rattle.zy_table.specs.Play.{step}
use Rattle.zy_patterns.specs.declared.patterns.OutcomePattern.{OutcomePattern}
use Rattle.zy_patterns.specs.Patterns.{matches}
use Rattle.zy_search.specs.Choices.{considered}
use Rattle.zy_search.specs.declared.kinds.ChoiceKinds.{ChoiceKinds}

-- a choice has an outcome like x
abbrev pub gives : Scenario → OutcomePattern → State → Choice → Bool
gives sc x s c = matches x (step sc c s).outcome

-- a considered choice has one
abbrev pub is_possible : Scenario → ChoiceKinds → OutcomePattern → State → Bool
is_possible sc kinds x s = list_any (gives sc x s) (considered kinds (length sc.programs))
