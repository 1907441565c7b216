-- Ways: choices that go along the logs, and in their gaps.
use Rattle.std.specs.Prelude.{◌≡◌, ◌≤◌, ◌<◌, ◌⊎◌, ◌+◌, ℕ, List, [], ◌∷◌, Option, None, Some, true, length, slice_get, slice_index_or}
use Rattle.zy_isa.specs.declared.node.Actor.{Actor}
use Rattle.zy_isa.specs.declared.node.Actor.TheVariants.{C, A, B}
use Rattle.zy_isa.specs.declared.choice.Choice.{Choice}
use Rattle.zy_isa.specs.declared.node.Node.{Node}
use Rattle.zy_isa.specs.declared.version.Version.{Version}
use Rattle.zy_isa.specs.Choices.{actor_of, actor_at, names_below}
use Rattle.zy_isa.specs.Scenario.{Scenario}
use Rattle.zy_table.specs.declared.observation.Observation.{Observation}
use Rattle.zy_table.specs.State.{State}
use Rattle.zy_table.specs.Play.{step}
use Rattle.zy_table.specs.Observations.{observation_at}
use Rattle.zy_logs.specs.declared.log_line.LogLine.{LogLine}
use Rattle.zy_order.specs.declared.logs.Logs.{Logs}
use Rattle.zy_order.specs.declared.cursors.Cursor.{Cursor}
use Rattle.zy_order.specs.declared.cursors.Cursors.{Cursors}
use Rattle.zy_order.specs.declared.gaps.Gaps.{Gaps}
use Rattle.zy_order.specs.Gaps.{gaps_of, gap_count}
use Rattle.zy_order.specs.declared.tellers.StepLines.{StepLines}
use Rattle.zy_order.specs.declared.tellers.Tellers.{Tellers}
use Rattle.zy_order.specs.declared.tellers.Tellers.TheVariants.{One, Both}
use Rattle.zy_order.specs.Twins.{HasTwin}
use Rattle.zy_order.specs.Orders.{lines_of, Agree, MayBeOne}

-- the log of an actor
abbrev pub log_of : Actor → Logs → List LogLine
log_of C logs = logs.c.items
log_of A logs = logs.a.items
log_of B logs = logs.b.items

-- how far an actor is in its log
abbrev pub cursor_of : Actor → Cursors → Cursor
cursor_of C cursors = cursors.c
cursor_of A cursors = cursors.a
cursor_of B cursors = cursors.b

-- how many lines of an actor are matched, which is the index of its next line
abbrev pub cursor : Actor → Cursors → ℕ
cursor x cursors = (cursor_of x cursors).lines

-- no line is matched, and no gap is filled
abbrev pub log_start : Cursor
log_start = record { lines = 0; missing = 0 }

-- the same of each actor
abbrev pub at_start : Cursors
at_start = record { c = log_start; a = log_start; b = log_start }

-- how many steps may be missing where a cursor is
abbrev pub gap_at : List ℕ → Cursor → ℕ
gap_at gaps cursor = slice_index_or gaps cursor.lines 0

-- one line more is matched
abbrev pub passed : Cursor → Cursor
passed cursor = record { lines = cursor.lines + 1; missing = 0 }

-- one missing step more is made
abbrev pub filled : Cursor → Cursor
filled cursor = record { lines = cursor.lines; missing = cursor.missing + 1 }

-- the cursors at a place of a list
abbrev pub cursors_in : List Cursors → ℕ → Cursors
cursors_in list at = slice_index_or list at at_start

-- the cursors where an actor has this one
abbrev pub with_cursor : Actor → Cursor → Cursors → Cursors
with_cursor C cursor cursors = record { c = cursor; a = cursors.a; b = cursors.b }
with_cursor A cursor cursors = record { c = cursors.c; a = cursor; b = cursors.b }
with_cursor B cursor cursors = record { c = cursors.c; a = cursors.a; b = cursor }

-- the cursors where a step has moved that of an actor
abbrev pub moved : (Cursor → Cursor) → Actor → Cursors → Cursors
moved f x cursors = with_cursor x (f (cursor_of x cursors)) cursors

-- the cursors where one line more of an actor is matched
abbrev pub advanced : Actor → Cursors → Cursors
advanced x cursors = moved passed x cursors

-- the cursors where an actor has made one missing step more
abbrev pub with_missing : Actor → Cursors → Cursors
with_missing x cursors = moved filled x cursors

-- how many lines of A and B together are matched
abbrev pub of_nodes : Cursors → ℕ
of_nodes cursors = cursors.a.lines + cursors.b.lines

-- cursors are no further than others: no more lines of A and B are matched and, where as many are, no fewer of the client
pub record IsNoFurther (cursors others : Cursors) : Type 0 where
  pub nodes : of_nodes cursors ≤ of_nodes others
  pub client : of_nodes cursors ≡ of_nodes others → others.c.lines ≤ cursors.c.lines

-- a cursor has the same lines matched as another, and needs no more missing steps behind them
pub record NeedsNoMore (cursor other : Cursor) : Type 0 where
  pub lines : cursor.lines ≡ other.lines
  pub missing : cursor.missing ≤ other.missing

-- the same of each actor
pub record NeedNoMore (cursors others : Cursors) : Type 0 where
  pub of_c : NeedsNoMore cursors.c others.c
  pub of_a : NeedsNoMore cursors.a others.a
  pub of_b : NeedsNoMore cursors.b others.b

-- how many lines the logs have
abbrev pub line_count : Logs → ℕ
line_count logs = length logs.c.items + (length logs.a.items + length logs.b.items)

-- how many steps the logs have room for: one for each line, and those of the gaps
abbrev pub step_count : Logs → ℕ
step_count logs = line_count logs + gap_count logs.gaps

-- all lines are matched
pub record AreMatched (logs : Logs) (cursors : Cursors) : Type 0 where
  pub of_c : cursors.c.lines ≡ length logs.c.items
  pub of_a : cursors.a.lines ≡ length logs.a.items
  pub of_b : cursors.b.lines ≡ length logs.b.items

-- no more lines are matched than a log has, and no more steps are made in a gap than may be missing there
pub record IsIn (log : List LogLine) (gaps : List ℕ) (cursor : Cursor) : Type 0 where
  pub lines : cursor.lines ≤ length log
  pub missing : cursor.missing ≤ gap_at gaps cursor

-- the same of each actor
pub record IsWithin (logs : Logs) (cursors : Cursors) : Type 0 where
  pub of_c : IsIn logs.c.items logs.gaps.c.items cursors.c
  pub of_a : IsIn logs.a.items logs.gaps.a.items cursors.a
  pub of_b : IsIn logs.b.items logs.gaps.b.items cursors.b

-- the line of an actor's log that comes next
abbrev pub IsNextLine : Actor → Logs → Cursors → LogLine → Type 0
IsNextLine x logs cursors line = slice_get (log_of x logs) (cursor x cursors) ≡ Some line

-- a line comes next, and alone
pub record ComesAlone (v : Version) (x : Actor) (logs : Logs) (cursors : Cursors) (line : LogLine) : Type 0 where
  pub next : IsNextLine x logs cursors line
  pub alone : HasTwin v (λ y. log_of y logs) line → ⊥

-- the client's line and a node's come next, and may tell one step
pub record ComeTogether (v : Version) (n : Node) (logs : Logs) (cursors : Cursors) (line other : LogLine) : Type 0 where
  pub client : IsNextLine C logs cursors line
  pub node : IsNextLine (actor_at n) logs cursors other
  pub may : MayBeOne v (λ x. log_of x logs) line other

-- these lines of some logs come next
abbrev pub ComeBy : Tellers → Version → Logs → Cursors → LogLine → Option LogLine → Type 0
ComeBy (One x) v logs cursors line None = ComesAlone v x logs cursors line
ComeBy (One x) v logs cursors line (Some other) = ⊥
ComeBy (Both n) v logs cursors line None = ⊥
ComeBy (Both n) v logs cursors line (Some other) = ComeTogether v n logs cursors line other

-- the lines of a step do
abbrev pub ComeNext : Version → Logs → Cursors → StepLines → Type 0
ComeNext v logs cursors lines = ComeBy lines.by v logs cursors lines.line lines.other

-- the lines that come next are of a step's choice, and agree with what the step shows
pub record TellNext (v : Version) (logs : Logs) (cursors : Cursors) (o : Observation) : Type 0 where
  pub lines : StepLines
  pub next : ComeNext v logs cursors lines
  pub choice : lines.line.choice ≡ o.entry.choice
  pub agree : Agree lines.line lines.other o

-- the log of an actor is among them
abbrev pub Tells : Tellers → Actor → Type 0
Tells (One x) y = y ≡ x
Tells (Both n) y = (y ≡ C) ⊎ (y ≡ actor_at n)

-- the cursors where one line more of those logs is matched
abbrev pub advanced_by : Tellers → Cursors → Cursors
advanced_by (One x) cursors = advanced x cursors
advanced_by (Both n) cursors = advanced (actor_at n) (advanced C cursors)

-- one step more may be missing where an actor is
abbrev pub HasGap : Actor → Logs → Cursors → Type 0
HasGap x logs cursors = (cursor_of x cursors).missing < gap_at (gaps_of x logs.gaps) (cursor_of x cursors)

-- a choice may be that of a missing step
pub record MayBeMissing (count : ℕ) (logs : Logs) (cursors : Cursors) (c : Choice) : Type 0 where
  pub named : names_below count c ≡ true
  pub gap : HasGap (actor_of c) logs cursors

-- a step leads from cursors to others: lines that come next tell it, or it is missing
abbrev pub Leads : Scenario → Logs → Cursors → Observation → Cursors → Type 0
Leads sc logs cursors o to = ((tell : TellNext sc.version logs cursors o) × (to ≡ advanced_by tell.lines.by cursors))
    ⊎ (MayBeMissing (length sc.programs) logs cursors o.entry.choice × (to ≡ with_missing (actor_of o.entry.choice) cursors))

-- choices go along the logs to cursors, one step after another
abbrev pub IsWay : Scenario → Logs → Cursors → State → List Choice → Cursors → Type 0
IsWay sc logs cursors s [] to = cursors ≡ to
IsWay sc logs cursors s (c ∷ cs) to = (next : Cursors) × Leads sc logs cursors (observation_at sc s c) next
    × IsWay sc logs next (step sc c s).after cs to

-- a line is of an actor's log: it is of a choice of the actor, or of the client, and the transaction that it names is there
pub record IsLineOf (count : ℕ) (x : Actor) (line : LogLine) : Type 0 where
  pub log : line.log ≡ x
  pub actor : (actor_of line.choice ≡ x) ⊎ (actor_of line.choice ≡ C)
  pub named : names_below count line.choice ≡ true

-- each line of a list is
abbrev pub AreLinesOf : ℕ → Actor → List LogLine → Type 0
AreLinesOf count x lines = (i : ℕ) → (line : LogLine) → slice_get lines i ≡ Some line → IsLineOf count x line

-- the logs have the lines of their actors, and the gaps
pub record AreLogs (lines : List LogLine) (gaps : Gaps) (logs : Logs) : Type 0 where
  pub of_c : logs.c.items ≡ lines_of C lines
  pub of_a : logs.a.items ≡ lines_of A lines
  pub of_b : logs.b.items ≡ lines_of B lines
  pub of_gaps : logs.gaps ≡ gaps
