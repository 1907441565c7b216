-- What the engine writes that finds the positions of a run.
use Rattle.std.specs.Prelude.{ℕ, List, map}
use Rattle.std.specs.Fmt.{decimal}
use Rattle.std.specs.List.{flat_map}
use Rattle.zy_io.specs.Writing.{line_of}
use Rattle.zy_isa.specs.Scenario.{Scenario}
use Rattle.zy_search.specs.declared.sought.Sought.{Sought}
use Rattle.zy_search.specs.Along.{shown_along}

-- each position at which a scenario's run shows what is looked for, as a line
abbrev pub positions_text : Sought → Scenario → List ℕ
positions_text q sc = flat_map line_of (map decimal (shown_along sc q))
