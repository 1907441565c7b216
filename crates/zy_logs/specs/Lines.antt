-- The line of a log that words spell: LOG and CHOICE, then [ -> OUTCOME ], then [ V ] where that is `did`, then
-- [ ! KIND ], then [ ROWS ]; or LOG `...`.
use Rattle.std.specs.Prelude.{ℕ, ◌-◌, ◌&&◌, ◌||◌, Bool, true, false, List, codes, length, Option, Some, None, Result, Ok, Err, if◌then◌else◌}
use Rattle.zy_isa.specs.declared.node.Node.{Node}
use Rattle.zy_isa.specs.declared.node.Node.TheVariants.{A, B}
use Rattle.zy_isa.specs.declared.node.Actor.{Actor}
use Rattle.zy_isa.specs.declared.node.Actor.TheVariants as actor
use Rattle.zy_isa.specs.declared.choice.Choice.{Choice}
use Rattle.zy_isa.specs.declared.choice.Choice.TheVariants as choice
use Rattle.zy_isa.specs.Results.{◌>>=◌}
use Rattle.zy_model.specs.declared.kind.Kind.{Kind}
use Rattle.zy_page.specs.declared.page_rows.PageRows.{PageRows}
use Rattle.zy_logs.specs.declared.expected.ExpectedInLog.{ExpectedInLog}
use Rattle.zy_logs.specs.declared.expected.ExpectedInLog.TheVariants as expected
use Rattle.zy_logs.specs.declared.expected.Misread.{Misread}
use Rattle.zy_logs.specs.declared.log_line.LogLine.{LogLine}
use Rattle.zy_logs.specs.declared.log_line.Logged.{Logged}
use Rattle.zy_logs.specs.declared.log_line.Logged.TheVariants.{Step, Gap}
use Rattle.zy_patterns.specs.declared.paged.PagedOutcome.{PagedOutcome}
use Rattle.zy_patterns.specs.declared.patterns.OutcomePattern.{OutcomePattern}
use Rattle.zy_patterns.specs.declared.patterns.OutcomePattern.TheVariants as pattern
use Rattle.zy_logs.specs.declared.txns.Txns.{Txns}
use Rattle.zy_logs.specs.declared.reading.cursor.Misfit.{Misfit}
use Rattle.zy_logs.specs.Words.{Word, Read, first, after, are_none, begin_with, message_or_end, stop, refused, gives, made}
use Rattle.zy_logs.specs.Parts.{or_none, page, place, value, txn, txn_or_none, node_at, reason}
use Rattle.zy_logs.specs.Possible.{can_give, can_have_rows, can_stand}
use Rattle.zy_logs.specs.Rows.{page_rows}
use Rattle.zy_patterns.specs.Vocabulary as word
use Rattle.zy_patterns.specs.Paged.{with_page}

-- ---- LOG and CHOICE

-- LOG: C, A or B
abbrev pub whose : List Word → Read Actor
whose ws =
    if begin_with (codes "C") ws then Ok (actor.C, after ws) else
    if begin_with (codes "A") ws then Ok (actor.A, after ws) else
    if begin_with (codes "B") ws then Ok (actor.B, after ws) else
    refused expected.Actor ws

-- a choice of the client, after the name of the actor whose log it is in; after this name other words are `e`
abbrev pub client_choice : Txns → ExpectedInLog → List Word → Read Choice
client_choice txns e ws =
    if begin_with (codes "start") ws then Ok (choice.Start, after ws) else
    if begin_with (codes "begin") ws then made choice.Begin (txn txns (after ws)) else
    if begin_with (codes "kill") ws then made choice.Kill (txn txns (after ws)) else
    refused e ws

-- a choice in the log of a node, after its name: one of its own, or of the client
abbrev pub node_choice : Txns → Node → List Word → Read Choice
node_choice txns n ws =
    if begin_with (codes "run") ws then made (choice.Run n) (txn txns (after ws)) else
    if begin_with (codes "take") ws then Ok (choice.Take n, after ws) else
    if begin_with (codes "finish") ws then Ok (choice.Finish n, after ws) else
    if begin_with (codes "push") ws then Ok (choice.Push n, after ws) else
    client_choice txns expected.NodeAction ws

-- a choice in the log of an actor, after its name
abbrev pub choice_of : Txns → Actor → List Word → Read Choice
choice_of txns actor.C ws = client_choice txns expected.ClientAction ws
choice_of txns actor.A ws = node_choice txns A ws
choice_of txns actor.B ws = node_choice txns B ws

-- ---- OUTCOME: its node, its reason and its numbers may be left out, of a split the last ones

-- P Q B, after `split`
abbrev pub split : List Word → Read OutcomePattern
split ws = do
  p ← or_none page ws
  q ← or_none page p.1
  b ← or_none page q.1
  Ok (pattern.Split p.0 q.0 b.0, b.1)

-- an outcome of one page, which may be left out, if the first word is one; else it is one word
abbrev pub paged_or : Option PagedOutcome → Option OutcomePattern → ExpectedInLog → List Word → Read OutcomePattern
paged_or (Some x) other e ws = made (with_page x) (or_none page (after ws))
paged_or None other e ws = gives other e ws

-- KIND, after `got`
abbrev pub got : List Word → Read OutcomePattern
got ws = paged_or (word.paged_got (first ws)) (word.lone_got (first ws)) expected.Got ws

-- an outcome with a page, or of one word
abbrev pub paged : List Word → Read OutcomePattern
paged ws = paged_or (word.paged_outcome (first ws)) (word.lone_outcome (first ws)) expected.Outcome ws

unfoldable pub outcome_of : Txns → List Word → Read OutcomePattern
outcome_of txns ws =
    if begin_with (codes "began") ws then made pattern.Began (or_none node_at (after ws)) else
    if begin_with (codes "committed") ws then made pattern.Committed (or_none place (after ws)) else
    if begin_with (codes "aborted") ws then made pattern.Aborted (or_none reason (after ws)) else
    if begin_with (codes "active") ws then made pattern.Active (txn_or_none txns (after ws)) else
    if begin_with (codes "split") ws then split (after ws) else
    if begin_with (codes "got") ws then got (after ws) else
    paged ws

-- ---- the line

-- OUTCOME, where a step of the choice can give it, and a line of the log may tell it
abbrev pub possible : Txns → Actor → Choice → List Word → Read OutcomePattern
possible txns x c ws = do
  t ← outcome_of txns ws
  if can_give c t.0 && can_stand x t.0 then Ok t else refused (expected.OutcomeOf c) ws

-- `?` or OUTCOME, after the choice and `->`
abbrev pub logged : Txns → Actor → Choice → List Word → Read (Option OutcomePattern)
logged txns x c ws = if begin_with (codes "?") ws then Ok (None, after ws) else made Some (possible txns x c ws)

-- rows come, which the choice may have
abbrev pub rows_come : Choice → List Word → Bool
rows_come c ws = begin_with (codes "rows") ws && can_have_rows c

-- what may stand behind the outcome of a choice comes: the message, rows, or the end
abbrev pub end_told : Choice → List Word → Bool
end_told c ws = message_or_end ws || rows_come c ws

-- [ -> OUTCOME ], after the choice
abbrev pub told_of : Txns → Actor → Choice → List Word → Read (Option OutcomePattern)
told_of txns x c ws =
    if begin_with (codes "->") ws then logged txns x c (after ws) else
    if end_told c ws then Ok (None, ws) else
    refused (expected.AfterChoice c) ws

-- a line tells `did`
abbrev pub is_did : Option OutcomePattern → Bool
is_did (Some pattern.Did) = true
is_did t = false

-- [ V ], after `did` alone
abbrev pub value_behind : Option OutcomePattern → List Word → Read (Option ℕ)
value_behind t ws = if is_did t then or_none value ws else Ok (None, ws)

-- KIND, after `!`
abbrev pub message : List Word → Read (Option Kind)
message ws = made Some (gives (word.kind (first ws)) expected.Message ws)

-- [ ! KIND ]
abbrev pub sent_of : Choice → List Word → Read (Option Kind)
sent_of c ws =
    if begin_with (codes "!") ws then message (after ws) else
    if end_told c ws then Ok (None, ws) else
    refused (expected.AfterOutcome c) ws

-- ROWS, to the last word
abbrev pub some_rows : Result PageRows Misfit → Result (Option PageRows) Misfit
some_rows r = r >>= λ rows. Ok (Some rows)

-- [ ROWS ], and nothing after them
abbrev pub rows_of : Choice → List Word → Result (Option PageRows) Misfit
rows_of c ws =
    if rows_come c ws then some_rows (page_rows (after ws)) else
    if are_none ws then Ok None else
    Err (stop (expected.AfterMessage c) ws)

-- the parts, and nothing after them
abbrev pub whole : Txns → List Word → Result LogLine Misfit
whole txns ws = do
  x ← whose ws
  c ← choice_of txns x.0 x.1
  t ← told_of txns x.0 c.0 c.1
  v ← value_behind t.0 t.1
  k ← sent_of c.0 v.1
  rows ← rows_of c.0 k.1
  Ok (record { log = x.0; choice = c.0; told = t.0; value = v.0; sent = k.0; rows = rows })

-- nothing after `...`
abbrev pub gap_end : Actor → List Word → Result Logged Misfit
gap_end x ws = if are_none ws then Ok (Gap x) else Err (stop expected.EndOfGap ws)

-- LOG `...`
abbrev pub gap : List Word → Result Logged Misfit
gap ws = do
  x ← whose ws
  gap_end x.0 (after x.1)

-- the line of a step
abbrev pub step : Result LogLine Misfit → Result Logged Misfit
step r = r >>= λ line. Ok (Step line)

-- a gap, where the second word is `...`; else the line of a step
abbrev pub gap_or_step : Txns → List Word → Result Logged Misfit
gap_or_step txns ws = if begin_with (codes "...") (after ws) then gap ws else step (whole txns ws)

-- what was read of `count` words, or the first word that does not fit, by how many come before it
abbrev pub placed : {T : Type 0} → ℕ → Result T Misfit → Result T Misread
placed count (Ok x) = Ok x
placed count (Err s) = Err (record { word = count - s.left; expected = s.expected })

abbrev pub line_of : Txns → List Word → Result Logged Misread
line_of txns ws = placed (length ws) (gap_or_step txns ws)
