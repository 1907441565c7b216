-- The line of a log that tells all that a step shows, and what such a line can tell.
use Rattle.std.specs.Prelude.{◌≡◌, ℕ, ◌≤◌, ◌<◌, ◌++◌, List, [], ◌∷◌, codes, length, map, Option, Some, None, IfSome, true}
use Rattle.std.specs.Fmt.{decimal}
use Rattle.zy_isa.specs.Limits.{max_cap, max_key, max_txns, max_value}
use Rattle.zy_isa.specs.Choices.{actor_of}
use Rattle.zy_isa.specs.declared.node.Actor.{Actor}
use Rattle.zy_isa.specs.declared.node.Actor.TheVariants as actor
use Rattle.zy_isa.specs.declared.row.Row.{Row}
use Rattle.zy_isa.specs.declared.instr.Reg.{Reg}
use Rattle.zy_model.specs.declared.kind.Kind.{Kind}
use Rattle.zy_model.specs.declared.kind.Kind.TheVariants as kind
use Rattle.zy_table.specs.declared.observation.Observation.{Observation}
use Rattle.zy_table.specs.declared.outcome.Why.{Why}
use Rattle.zy_table.specs.declared.outcome.Why.TheVariants as why
use Rattle.zy_table.specs.declared.outcome.Outcome.{Outcome}
use Rattle.zy_table.specs.declared.outcome.Outcome.TheVariants as outcome
use Rattle.zy_page.specs.declared.page_rows.PageRows.{PageRows}
use Rattle.zy_page.specs.RowLists.{AreKept, of_rows, rows_in}
use Rattle.zy_table.specs.Change.{reg}
use Rattle.zy_table.specs.Database.{all_leaves}
use Rattle.zy_table.specs.Observations.{txn_of}
use Rattle.zy_table.specs.Pages.{rows_of}
use Rattle.zy_table.specs.State.{State}
use Rattle.zy_text.specs.Canon.{node_text, choice_words}
use Rattle.zy_patterns.specs.Patterns.{exactly}
use Rattle.zy_logs.specs.declared.log_line.LogLine.{LogLine}
use Rattle.zy_logs.specs.Possible.{can_have_rows}
use Rattle.zy_logs.specs.Words.{Word, after}

-- the line in the log of an actor that tells the choice, all of the outcome, the value and the rows, if there are any, and the message that
-- was sent, if one was
abbrev pub in_log : Actor → Observation → LogLine
in_log x o = record { log = x; choice = o.entry.choice; told = Some (exactly o.entry.outcome); value = o.value; sent = o.entry.sent; rows = o.rows }

-- the same in the log of the actor who made the step
abbrev pub in_full : Observation → LogLine
in_full o = in_log (actor_of o.entry.choice) o

-- a line may give this number for a page or a key
abbrev pub IsPage : ℕ → Type 0
IsPage p = p ≤ max_key

-- the same of a reason's page
abbrev pub HasPage : Why → Type 0
HasPage (why.Frozen p) = IsPage p
HasPage (why.Gone p) = IsPage p
HasPage w = Unit {0}

-- a line may have the numbers of this outcome, where there are `count` transactions
abbrev pub IsTold : ℕ → Outcome → Type 0
IsTold count (outcome.Split p q k) = IsPage p × IsPage q × IsPage k
IsTold count (outcome.Aborted w) = HasPage w
IsTold count (outcome.Committed i) = i ≤ max_txns
IsTold count (outcome.Waits p) = IsPage p
IsTold count (outcome.Pulls p) = IsPage p
IsTold count (outcome.Awaits p) = IsPage p
IsTold count (outcome.Stale p) = IsPage p
IsTold count (outcome.Held p) = IsPage p
IsTold count (outcome.GotPull p) = IsPage p
IsTold count (outcome.GotPage p) = IsPage p
IsTold count (outcome.Active t) = t < count
IsTold count (outcome.Pushed p) = IsPage p
IsTold count o = Unit {0}

-- a line may tell the value: the outcome is `did`, and the value is not too large
abbrev pub IsShown : Observation → Type 0
IsShown o = IfSome o.value (λ v. (v ≤ max_value) × (o.entry.outcome ≡ outcome.Did))

-- each register of each transaction holds a value that a line may tell
abbrev pub HoldValues : State → Type 0
HoldValues s = (t : ℕ) → (r : Reg) → reg (txn_of s t).regs r ≤ max_value

-- rows that a line may tell: at most 16, each key once, in order, and no key and no value too large
abbrev pub AreRows : List Row → Type 0
AreRows rows = (length rows ≤ max_cap) × AreKept rows

-- the rows of a page by themselves that a line may tell: they are made of such rows
abbrev pub ArePageRows : PageRows → Type 0
ArePageRows x = (rows : List Row) × (x ≡ of_rows rows) × AreRows rows

-- a line may tell the rows: the choice takes or pushes, and there are no more than a page may have, in order, and none too large
abbrev pub AreShown : Observation → Type 0
AreShown o = IfSome o.rows (λ x. (can_have_rows o.entry.choice ≡ true) × ArePageRows x)

-- each page holds rows that a line may tell
abbrev pub HoldRows : State → Type 0
HoldRows s = (p : ℕ) → AreRows (rows_of (all_leaves s) p)

-- ---- the words of such a line, which names a transaction by its number

-- WHY
abbrev pub reason_words : Why → List Word
reason_words why.Own = codes "own" ∷ []
reason_words why.Killed = codes "killed" ∷ []
reason_words why.BadKey = codes "badkey" ∷ []
reason_words why.Missing = codes "missing" ∷ []
reason_words why.Duplicate = codes "duplicate" ∷ []
reason_words why.NoPage = codes "nopage" ∷ []
reason_words (why.Frozen p) = codes "frozen" ∷ decimal p ∷ []
reason_words (why.Gone p) = codes "gone" ∷ decimal p ∷ []

-- OUTCOME
abbrev pub outcome_words : Outcome → List Word
outcome_words outcome.Started = codes "started" ∷ []
outcome_words outcome.BadMode = codes "badmode" ∷ []
outcome_words (outcome.Began n) = codes "began" ∷ node_text n ∷ []
outcome_words outcome.Idle = codes "idle" ∷ []
outcome_words outcome.Elsewhere = codes "elsewhere" ∷ []
outcome_words outcome.NotYet = codes "notyet" ∷ []
outcome_words outcome.Did = codes "did" ∷ []
outcome_words (outcome.Split p q k) = codes "split" ∷ decimal p ∷ decimal q ∷ decimal k ∷ []
outcome_words (outcome.Aborted w) = codes "aborted" ∷ reason_words w
outcome_words (outcome.Committed i) = codes "committed" ∷ decimal i ∷ []
outcome_words (outcome.Waits p) = codes "waits" ∷ decimal p ∷ []
outcome_words (outcome.Pulls p) = codes "pulls" ∷ decimal p ∷ []
outcome_words (outcome.Awaits p) = codes "awaits" ∷ decimal p ∷ []
outcome_words outcome.NoMessage = codes "nomessage" ∷ []
outcome_words outcome.GotWire = codes "got" ∷ codes "wire" ∷ []
outcome_words outcome.GotReady = codes "got" ∷ codes "ready" ∷ []
outcome_words outcome.GotDual = codes "got" ∷ codes "dual" ∷ []
outcome_words (outcome.Stale p) = codes "stale" ∷ decimal p ∷ []
outcome_words (outcome.Held p) = codes "held" ∷ decimal p ∷ []
outcome_words (outcome.GotPull p) = codes "got" ∷ codes "pull" ∷ decimal p ∷ []
outcome_words (outcome.GotPage p) = codes "got" ∷ codes "page" ∷ decimal p ∷ []
outcome_words outcome.GotFinish = codes "got" ∷ codes "finish" ∷ []
outcome_words outcome.GotDone = codes "got" ∷ codes "done" ∷ []
outcome_words outcome.Stray = codes "stray" ∷ []
outcome_words outcome.Finishing = codes "finishing" ∷ []
outcome_words (outcome.Active t) = codes "active" ∷ decimal t ∷ []
outcome_words (outcome.Pushed p) = codes "pushed" ∷ decimal p ∷ []
outcome_words outcome.NoPush = codes "nopush" ∷ []

-- KIND
abbrev pub kind_word : Kind → Word
kind_word kind.Wire = codes "wire"
kind_word kind.Ready = codes "ready"
kind_word kind.Dual = codes "dual"
kind_word kind.Pull = codes "pull"
kind_word kind.Page = codes "page"
kind_word kind.Finish = codes "finish"
kind_word kind.Done = codes "done"

-- [ V ]
abbrev pub value_words : Option ℕ → List Word
value_words None = []
value_words (Some v) = decimal v ∷ []

-- [ ! KIND ]
abbrev pub sent_words : Option Kind → List Word
sent_words None = []
sent_words (Some k) = codes "!" ∷ kind_word k ∷ []

-- K=V
abbrev pub row_word : Row → Word
row_word r = decimal r.key ++ 61 ∷ decimal r.value

-- [ ROWS ]
abbrev pub rows_words : Option PageRows → List Word
rows_words None = []
rows_words (Some x) = codes "rows" ∷ map row_word (rows_in x)

-- [ V ] [ ! KIND ] [ ROWS ]
abbrev pub shown_words : Observation → List Word
shown_words o = value_words o.value ++ (sent_words o.entry.sent ++ rows_words o.rows)

-- CHOICE -> OUTCOME [ V ] [ ! KIND ] [ ROWS ]
abbrev pub step_words : Observation → List Word
step_words o = choice_words o.entry.choice ++ (codes "->" ∷ (outcome_words o.entry.outcome ++ shown_words o))

-- LOG
abbrev pub log_word : Actor → Word
log_word actor.C = codes "C"
log_word actor.A = codes "A"
log_word actor.B = codes "B"

-- the words of a step in the log of an actor
abbrev pub words_in : Actor → Observation → List Word
words_in x o = log_word x ∷ after (step_words o)
