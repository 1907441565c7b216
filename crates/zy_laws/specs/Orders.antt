-- A scenario with its choices in another order.
use Rattle.std.specs.Prelude.{List}
use Rattle.zy_isa.specs.declared.choice.Choice.{Choice}
use Rattle.zy_isa.specs.Scenario.{Scenario}

-- the same but for its choices, which are these
abbrev pub reordered : Scenario → List Choice → Scenario
reordered sc order = record sc { choices = order }
