-- Of which choices an outcome can come, whatever the state: those for which the step table has a line with it.
use Rattle.std.specs.Prelude.{◌||◌, Bool, true, false, Some, None}
use Rattle.zy_isa.specs.declared.node.Actor.{Actor}
use Rattle.zy_isa.specs.declared.node.Actor.TheVariants as actor
use Rattle.zy_isa.specs.declared.node.Node.TheVariants.{A, B}
use Rattle.zy_isa.specs.declared.choice.Choice.{Choice}
use Rattle.zy_isa.specs.declared.choice.Choice.TheVariants.{Start, Begin, Kill, Run, Take, Finish, Push}
use Rattle.zy_patterns.specs.declared.patterns.ReasonPattern.{ReasonPattern}
use Rattle.zy_patterns.specs.declared.patterns.ReasonPattern.TheVariants as reason
use Rattle.zy_patterns.specs.declared.patterns.OutcomePattern.{OutcomePattern}
use Rattle.zy_patterns.specs.declared.patterns.OutcomePattern.TheVariants as pattern

abbrev pub is_start : Choice → Bool
is_start Start = true
is_start c = false

abbrev pub is_begin : Choice → Bool
is_begin (Begin t) = true
is_begin c = false

abbrev pub is_kill : Choice → Bool
is_kill (Kill t) = true
is_kill c = false

abbrev pub is_run : Choice → Bool
is_run (Run n t) = true
is_run c = false

abbrev pub is_take : Choice → Bool
is_take (Take n) = true
is_take c = false

abbrev pub is_finish : Choice → Bool
is_finish (Finish n) = true
is_finish c = false

abbrev pub is_push : Choice → Bool
is_push (Push n) = true
is_push c = false

-- rows may stand behind a choice: it takes or pushes
abbrev pub can_have_rows : Choice → Bool
can_have_rows c = is_take c || is_push c

-- an outcome may stand in the log of an actor: in the log of a node, `began` names that node, or none
abbrev pub can_stand : Actor → OutcomePattern → Bool
can_stand actor.A (pattern.Began (Some B)) = false
can_stand actor.B (pattern.Began (Some A)) = false
can_stand x told = true

-- a choice can abort a transaction for this reason
abbrev pub can_abort : Choice → ReasonPattern → Bool
can_abort c reason.Killed = is_kill c
can_abort c r = is_run c

-- a choice can give the outcome of a line
abbrev pub can_give : Choice → OutcomePattern → Bool
can_give c pattern.Started = is_start c
can_give c pattern.BadMode = is_start c || is_finish c || is_push c
can_give c (pattern.Began n) = is_begin c
can_give c pattern.Idle = is_begin c || is_kill c || is_run c
can_give c pattern.Elsewhere = is_run c
can_give c pattern.NotYet = is_run c
can_give c pattern.Did = is_run c
can_give c (pattern.Split page new_page boundary) = is_run c
can_give c (pattern.Aborted None) = is_kill c || is_run c
can_give c (pattern.Aborted (Some r)) = can_abort c r
can_give c (pattern.Committed place) = is_run c
can_give c (pattern.Waits page) = is_run c
can_give c (pattern.Pulls page) = is_run c
can_give c (pattern.Awaits page) = is_run c
can_give c pattern.NoMessage = is_take c
can_give c pattern.GotWire = is_take c
can_give c pattern.GotReady = is_take c
can_give c pattern.GotDual = is_take c
can_give c (pattern.Stale page) = is_take c
can_give c (pattern.Held page) = is_take c
can_give c (pattern.GotPull page) = is_take c
can_give c (pattern.GotPage page) = is_take c
can_give c pattern.GotFinish = is_take c
can_give c pattern.GotDone = is_take c
can_give c pattern.Stray = is_take c
can_give c pattern.Finishing = is_finish c
can_give c (pattern.Active txn) = is_finish c
can_give c (pattern.Pushed page) = is_push c
can_give c pattern.NoPush = is_push c
