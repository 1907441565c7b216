-- What holds at every point of a schedule: after each prefix of its choices.
use Rattle.std.specs.Prelude.{ℕ, ◌≡◌, List, take}
use Rattle.zy_isa.specs.declared.choice.Choice.{Choice}
use Rattle.zy_isa.specs.declared.rule.Rule.TheVariants.{Held}
use Rattle.zy_isa.specs.Scenario.{Scenario}
use Rattle.zy_table.specs.Play.{play, opening}
use Rattle.zy_table.specs.Serial.{Serializable}
use Rattle.zy_laws.specs.OneOwner.{OneOwner}
use Rattle.zy_laws.specs.Strict.{StrictlySerializable}
use Rattle.zy_laws.specs.WayOut.{CanEnd}

-- each page is in one place: at a node or in one message
abbrev pub OwnedThroughout : Scenario → List Choice → Type 0
OwnedThroughout sc choices = (n : ℕ) → OneOwner (play sc (opening sc) (take n choices))

-- under both rules: strictly serializable, in the migration order
abbrev pub StrictThroughout : Scenario → List Choice → Type 0
StrictThroughout sc choices = (n : ℕ) → StrictlySerializable sc (take n choices)

-- under held the database is that of the committed transactions, run one by one in commit order
abbrev pub SerialThroughout : Scenario → List Choice → Type 0
SerialThroughout sc choices = sc.rule ≡ Held → (n : ℕ) → Serializable sc (play sc (opening sc) (take n choices))

-- the migration can be ended
abbrev pub CanEndThroughout : Scenario → List Choice → Type 0
CanEndThroughout sc choices = (n : ℕ) → CanEnd sc (take n choices)
