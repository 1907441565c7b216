-- Whether an outcome is one that is asked for.
use Rattle.std.specs.Prelude.{ℕ, ◌==◌, ◌&&◌, Bool, true, false, Option, Some, None}
use Rattle.zy_isa.specs.declared.node.Node.{Node}
use Rattle.zy_table.specs.declared.outcome.Why.{Why}
use Rattle.zy_table.specs.declared.outcome.Why.TheVariants as why
use Rattle.zy_table.specs.declared.outcome.Outcome.{Outcome}
use Rattle.zy_table.specs.declared.outcome.Outcome.TheVariants as outcome
use Rattle.zy_table.specs.Run.{same_node}
use Rattle.zy_patterns.specs.declared.patterns.ReasonPattern.{ReasonPattern}
use Rattle.zy_patterns.specs.declared.patterns.ReasonPattern.TheVariants as reason
use Rattle.zy_patterns.specs.declared.patterns.OutcomePattern.{OutcomePattern}
use Rattle.zy_patterns.specs.declared.patterns.OutcomePattern.TheVariants as pattern

-- what is asked for is what came; what is left out may be any
abbrev pub allows : Option ℕ → ℕ → Bool
allows None came = true
allows (Some x) came = came == x

abbrev pub allows_node : Option Node → Node → Bool
allows_node None came = true
allows_node (Some n) came = same_node came n

-- a reason is one that is asked for
abbrev pub matches_reason : ReasonPattern → Why → Bool
matches_reason reason.Own why.Own = true
matches_reason reason.Killed why.Killed = true
matches_reason reason.BadKey why.BadKey = true
matches_reason reason.Missing why.Missing = true
matches_reason reason.Duplicate why.Duplicate = true
matches_reason (reason.Frozen page) (why.Frozen p) = allows page p
matches_reason reason.NoPage why.NoPage = true
matches_reason (reason.Gone page) (why.Gone p) = allows page p
matches_reason r w = false

abbrev pub allows_reason : Option ReasonPattern → Why → Bool
allows_reason None w = true
allows_reason (Some r) w = matches_reason r w

-- an outcome is one that is asked for
abbrev pub matches : OutcomePattern → Outcome → Bool
matches pattern.Started outcome.Started = true
matches pattern.BadMode outcome.BadMode = true
matches (pattern.Began asked) (outcome.Began n) = allows_node asked n
matches pattern.Idle outcome.Idle = true
matches pattern.Elsewhere outcome.Elsewhere = true
matches pattern.NotYet outcome.NotYet = true
matches pattern.Did outcome.Did = true
matches (pattern.Split page new_page boundary) (outcome.Split p q k) = allows page p && allows new_page q && allows boundary k
matches (pattern.Aborted reason) (outcome.Aborted w) = allows_reason reason w
matches (pattern.Committed place) (outcome.Committed i) = allows place i
matches (pattern.Waits page) (outcome.Waits p) = allows page p
matches (pattern.Pulls page) (outcome.Pulls p) = allows page p
matches (pattern.Awaits page) (outcome.Awaits p) = allows page p
matches pattern.NoMessage outcome.NoMessage = true
matches pattern.GotWire outcome.GotWire = true
matches pattern.GotReady outcome.GotReady = true
matches pattern.GotDual outcome.GotDual = true
matches (pattern.Stale page) (outcome.Stale p) = allows page p
matches (pattern.Held page) (outcome.Held p) = allows page p
matches (pattern.GotPull page) (outcome.GotPull p) = allows page p
matches (pattern.GotPage page) (outcome.GotPage p) = allows page p
matches pattern.GotFinish outcome.GotFinish = true
matches pattern.GotDone outcome.GotDone = true
matches pattern.Stray outcome.Stray = true
matches pattern.Finishing outcome.Finishing = true
matches (pattern.Active txn) (outcome.Active t) = allows txn t
matches (pattern.Pushed page) (outcome.Pushed p) = allows page p
matches pattern.NoPush outcome.NoPush = true
matches x o = false

-- the pattern of a reason with its page
abbrev pub exactly_reason : Why → ReasonPattern
exactly_reason why.Own = reason.Own
exactly_reason why.Killed = reason.Killed
exactly_reason why.BadKey = reason.BadKey
exactly_reason why.Missing = reason.Missing
exactly_reason why.Duplicate = reason.Duplicate
exactly_reason (why.Frozen p) = reason.Frozen (Some p)
exactly_reason why.NoPage = reason.NoPage
exactly_reason (why.Gone p) = reason.Gone (Some p)

-- the pattern of an outcome with its node, its reason and its numbers: it leaves nothing out
abbrev pub exactly : Outcome → OutcomePattern
exactly outcome.Started = pattern.Started
exactly outcome.BadMode = pattern.BadMode
exactly (outcome.Began n) = pattern.Began (Some n)
exactly outcome.Idle = pattern.Idle
exactly outcome.Elsewhere = pattern.Elsewhere
exactly outcome.NotYet = pattern.NotYet
exactly outcome.Did = pattern.Did
exactly (outcome.Split p q k) = pattern.Split (Some p) (Some q) (Some k)
exactly (outcome.Aborted w) = pattern.Aborted (Some (exactly_reason w))
exactly (outcome.Committed i) = pattern.Committed (Some i)
exactly (outcome.Waits p) = pattern.Waits (Some p)
exactly (outcome.Pulls p) = pattern.Pulls (Some p)
exactly (outcome.Awaits p) = pattern.Awaits (Some p)
exactly outcome.NoMessage = pattern.NoMessage
exactly outcome.GotWire = pattern.GotWire
exactly outcome.GotReady = pattern.GotReady
exactly outcome.GotDual = pattern.GotDual
exactly (outcome.Stale p) = pattern.Stale (Some p)
exactly (outcome.Held p) = pattern.Held (Some p)
exactly (outcome.GotPull p) = pattern.GotPull (Some p)
exactly (outcome.GotPage p) = pattern.GotPage (Some p)
exactly outcome.GotFinish = pattern.GotFinish
exactly outcome.GotDone = pattern.GotDone
exactly outcome.Stray = pattern.Stray
exactly outcome.Finishing = pattern.Finishing
exactly (outcome.Active t) = pattern.Active (Some t)
exactly (outcome.Pushed p) = pattern.Pushed (Some p)
exactly outcome.NoPush = pattern.NoPush
