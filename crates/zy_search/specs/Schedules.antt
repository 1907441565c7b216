-- The scenario that a search hands out.
use Rattle.std.specs.Prelude.{List, [], ◌∷◌, ◌++◌}
use Rattle.zy_isa.specs.declared.choice.Choice.{Choice}
use Rattle.zy_isa.specs.Scenario.{Scenario}
use Rattle.zy_table.specs.State.{State}
use Rattle.zy_table.specs.Play.{play, opening}
use Rattle.zy_laws.specs.Orders.{reordered}
use Rattle.zy_machine.specs.Histories.{History, choices_of}

-- the scenario of a machine with the choices that it has made, and these behind them
abbrev pub scheduled : History → List Choice → Scenario
scheduled h cs = reordered h.scenario (choices_of h.entries ++ cs)

-- the state after a whole run
abbrev pub ending : Scenario → State
ending sc = play sc (opening sc) sc.choices

-- the state one choice before the end of the run, where the last choice is c
abbrev pub before_last : History → List Choice → Choice → State
before_last h cs c =
    let sc = scheduled h (cs ++ c ∷ []) in play sc (opening sc) (choices_of h.entries ++ cs)
