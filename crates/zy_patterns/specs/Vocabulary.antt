-- The words of outcomes and what they stand for, a line for each.
use Rattle.std.specs.Prelude.{ℕ, List, codes, Option, Some, None, if◌then◌else◌}
use Rattle.std.specs.Str.{bytes_eq}
use Rattle.zy_isa.specs.declared.node.Node.{Node}
use Rattle.zy_isa.specs.declared.node.Node.TheVariants.{A, B}
use Rattle.zy_model.specs.declared.kind.Kind.{Kind}
use Rattle.zy_model.specs.declared.kind.Kind.TheVariants as message
use Rattle.zy_patterns.specs.declared.patterns.ReasonPattern.{ReasonPattern}
use Rattle.zy_patterns.specs.declared.patterns.ReasonPattern.TheVariants as reason
use Rattle.zy_patterns.specs.declared.patterns.OutcomePattern.{OutcomePattern}
use Rattle.zy_patterns.specs.declared.patterns.OutcomePattern.TheVariants as pattern
use Rattle.zy_patterns.specs.declared.paged.PagedOutcome.{PagedOutcome}
use Rattle.zy_patterns.specs.declared.paged.PagedOutcome.TheVariants as paged

-- a word, as bytes
abbrev pub Word : Type 0
Word = List ℕ

-- N
unfoldable pub node : Word → Option Node
node w =
    if bytes_eq w (codes "A") then Some A else
    if bytes_eq w (codes "B") then Some B else
    None

-- KIND
unfoldable pub kind : Word → Option Kind
kind w =
    if bytes_eq w (codes "wire") then Some message.Wire else
    if bytes_eq w (codes "ready") then Some message.Ready else
    if bytes_eq w (codes "dual") then Some message.Dual else
    if bytes_eq w (codes "pull") then Some message.Pull else
    if bytes_eq w (codes "page") then Some message.Page else
    if bytes_eq w (codes "finish") then Some message.Finish else
    if bytes_eq w (codes "done") then Some message.Done else
    None

-- WHY, where it is one word
unfoldable pub lone_reason : Word → Option ReasonPattern
lone_reason w =
    if bytes_eq w (codes "own") then Some reason.Own else
    if bytes_eq w (codes "killed") then Some reason.Killed else
    if bytes_eq w (codes "badkey") then Some reason.BadKey else
    if bytes_eq w (codes "missing") then Some reason.Missing else
    if bytes_eq w (codes "duplicate") then Some reason.Duplicate else
    if bytes_eq w (codes "nopage") then Some reason.NoPage else
    None

-- an outcome of one word
unfoldable pub lone_outcome : Word → Option OutcomePattern
lone_outcome w =
    if bytes_eq w (codes "started") then Some pattern.Started else
    if bytes_eq w (codes "badmode") then Some pattern.BadMode else
    if bytes_eq w (codes "idle") then Some pattern.Idle else
    if bytes_eq w (codes "elsewhere") then Some pattern.Elsewhere else
    if bytes_eq w (codes "notyet") then Some pattern.NotYet else
    if bytes_eq w (codes "did") then Some pattern.Did else
    if bytes_eq w (codes "nomessage") then Some pattern.NoMessage else
    if bytes_eq w (codes "stray") then Some pattern.Stray else
    if bytes_eq w (codes "finishing") then Some pattern.Finishing else
    if bytes_eq w (codes "nopush") then Some pattern.NoPush else
    None

-- an outcome that is `got` and one word
unfoldable pub lone_got : Word → Option OutcomePattern
lone_got w =
    if bytes_eq w (codes "wire") then Some pattern.GotWire else
    if bytes_eq w (codes "ready") then Some pattern.GotReady else
    if bytes_eq w (codes "dual") then Some pattern.GotDual else
    if bytes_eq w (codes "finish") then Some pattern.GotFinish else
    if bytes_eq w (codes "done") then Some pattern.GotDone else
    None

-- an outcome of one page, but for those after `got`
unfoldable pub paged_outcome : Word → Option PagedOutcome
paged_outcome w =
    if bytes_eq w (codes "waits") then Some paged.Waits else
    if bytes_eq w (codes "pulls") then Some paged.Pulls else
    if bytes_eq w (codes "awaits") then Some paged.Awaits else
    if bytes_eq w (codes "stale") then Some paged.Stale else
    if bytes_eq w (codes "held") then Some paged.Held else
    if bytes_eq w (codes "pushed") then Some paged.Pushed else
    None

-- an outcome of one page that comes after `got`
unfoldable pub paged_got : Word → Option PagedOutcome
paged_got w =
    if bytes_eq w (codes "pull") then Some paged.GotPull else
    if bytes_eq w (codes "page") then Some paged.GotPage else
    None
