-- Lines of two logs that tell one step, since what both tell comes only once in a run.
use Rattle.std.specs.Prelude.{◌≡◌, Any, Bool, true, false, List, Some}
use Rattle.zy_isa.specs.declared.node.Actor.{Actor}
use Rattle.zy_isa.specs.declared.version.Version.{Version}
use Rattle.zy_isa.specs.declared.version.Version.TheVariants.{One}
use Rattle.zy_patterns.specs.declared.patterns.OutcomePattern.{OutcomePattern}
use Rattle.zy_patterns.specs.declared.patterns.OutcomePattern.TheVariants as pattern
use Rattle.zy_logs.specs.declared.log_line.LogLine.{LogLine}

-- of a choice of the client this comes only once: a transaction begins once, it is killed once, and version 1 has one migration
abbrev pub comes_once : Version → OutcomePattern → Bool
comes_once v (pattern.Began at) = true
comes_once v (pattern.Aborted why) = true
comes_once One pattern.Started = true
comes_once v told = false

-- a line tells what comes only once
pub record TellsOnce (v : Version) (line : LogLine) : Type 0 where
  pub what : OutcomePattern
  pub told : line.told ≡ Some what
  pub once : comes_once v what ≡ true

-- lines of two logs are of one choice, and both tell what comes only once
pub record AreTwins (v : Version) (line other : LogLine) : Type 0 where
  pub logs : line.log ≡ other.log → ⊥
  pub choice : line.choice ≡ other.choice
  pub first : TellsOnce v line
  pub second : TellsOnce v other

-- a log has a line that tells the step of this one
abbrev pub HasTwin : Version → (Actor → List LogLine) → LogLine → Type 0
HasTwin v log line = (x : Actor) × Any (AreTwins v line) (log x)
