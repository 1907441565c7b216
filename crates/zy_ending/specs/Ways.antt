-- Choices on the way out of a state.
use Rattle.std.specs.Prelude.{◌≡◌, ◌+◌, ◌++◌, ℕ, List, length}
use Rattle.zy_isa.specs.declared.choice.Choice.{Choice}
use Rattle.zy_laws.specs.WayOut.{onward, way_out}
use Rattle.zy_machine.specs.Histories.{History}
use Rattle.zy_table.specs.Play.{play}

-- these choices lead from one history to another, and with what comes next from there they are the way out
pub record IsOnWay (start h : History) (made : List Choice) : Type 0 where
  pub scenario : h.scenario ≡ start.scenario
  pub state : h.state ≡ play start.scenario start.state made
  pub count : length h.entries ≡ length start.entries + length made
  pub fuel : ℕ
  pub rest : made ++ onward start.scenario fuel h.state ≡ way_out start.scenario start.state
