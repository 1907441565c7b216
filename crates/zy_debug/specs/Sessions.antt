-- A session: a scenario, how many of its choices are done, and the stops.
use Rattle.std.specs.Prelude.{ℕ, ◌≡◌, length}
use Rattle.zy_isa.specs.Scenario.{Scenario}
use Rattle.zy_machine.specs.Histories.{History}
use Rattle.zy_debug.specs.Stops.{Slots}
use Rattle.zy_machine.specs.Replays.{Follows}

pub record Session : Type 0 where
  pub scenario : Scenario
  pub position : ℕ
  pub stops : Slots

-- the same session at a position
abbrev pub goes : Session → ℕ → Session
goes s m = record s { position = m }

-- the machine is the replay of the choices that are done
pub record Shows (s : Session) (h : History) : Type 0 where
  pub scenario : h.scenario ≡ s.scenario
  pub position : length h.entries ≡ s.position
  pub replay : Follows h
