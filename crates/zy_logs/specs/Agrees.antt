-- Whether what a line of a log tells is what a step shows.
use Rattle.std.specs.Prelude.{◌≡◌, ◌⊎◌, true, IfSome, Some}
use Rattle.zy_isa.specs.Choices.{actor_at, actor_of}
use Rattle.zy_patterns.specs.Patterns.{matches}
use Rattle.zy_logs.specs.declared.log_line.LogLine.{LogLine}
use Rattle.zy_table.specs.declared.observation.Observation.{Observation}

-- a line stands in the log of its choice's actor, or in that of the node where the step took place, if it took place at one
abbrev pub StandsIn : LogLine → Observation → Type 0
StandsIn line o = (line.log ≡ actor_of line.choice) ⊎ IfSome o.node (λ n. line.log ≡ actor_at n)

-- a line agrees with what a step shows: each of outcome, value, message and rows that it tells is the step's, and it stands in a log where
-- the step may be told
abbrev pub Agrees : LogLine → Observation → Type 0
Agrees line o = IfSome line.told (λ t. matches t o.entry.outcome ≡ true) × IfSome line.value (λ v. o.value ≡ Some v)
    × IfSome line.sent (λ kind. o.entry.sent ≡ Some kind) × IfSome line.rows (λ rows. o.rows ≡ Some rows)
    × StandsIn line o
