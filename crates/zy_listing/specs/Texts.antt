-- The words of a listing, and each kind of its lines.
use Rattle.std.specs.Prelude.{ℕ, ◌+◌, ◌==◌, Bool, true, false, List, [], ◌++◌, Option, Some, None, codes, drop, position}
use Rattle.std.specs.Prelude.{slice_get}
use Rattle.std.specs.Fmt.{decimal}
use Rattle.std.specs.List.{flat_map}
use Rattle.std.specs.Option.{option_map_or}
use Rattle.zy_isa.specs.declared.node.Node.{Node}
use Rattle.zy_isa.specs.declared.node.Node.TheVariants.{A, B}
use Rattle.zy_isa.specs.declared.row.Row.{Row}
use Rattle.zy_text.specs.Canon.{node_text, choice_text}
use Rattle.zy_table.specs.declared.outcome.Why.{Why}
use Rattle.zy_table.specs.declared.outcome.Why.TheVariants.{Own, Killed, BadKey, Missing, Duplicate, Frozen, NoPage}
use Rattle.zy_table.specs.declared.outcome.Why.TheVariants.{Gone}
use Rattle.zy_table.specs.declared.outcome.Outcome.{Outcome}
use Rattle.zy_table.specs.declared.outcome.Outcome.TheVariants as outcome
use Rattle.zy_model.specs.declared.kind.Kind.{Kind}
use Rattle.zy_model.specs.declared.kind.Kind.TheVariants as kind
use Rattle.zy_model.specs.declared.mode.NodeMode.{NodeMode}
use Rattle.zy_model.specs.declared.mode.NodeMode.TheVariants.{Empty, Normal, SInit, SDual, SFinish, DInit, DDual}
use Rattle.zy_model.specs.declared.mode.NodeMode.TheVariants.{DFinish}
use Rattle.zy_model.specs.Messages.{Message, Pull, Page, kind_of}
use Rattle.zy_table.specs.declared.place.Place.{Place}
use Rattle.zy_table.specs.declared.place.Place.TheVariants.{Nowhere, At, Moving}
use Rattle.zy_table.specs.declared.entry.Entry.{Entry}
use Rattle.zy_table.specs.declared.entry.CommitRecord.{CommitRecord}
use Rattle.zy_table.specs.declared.status.Status.{Status}
use Rattle.zy_table.specs.declared.status.Status.TheVariants.{New, Active, Committed, Aborted}
use Rattle.zy_model.specs.Leaf.{Leaf}
use Rattle.zy_table.specs.State.{State, Txn}
use Rattle.zy_table.specs.Change.{txn_or}
use Rattle.zy_table.specs.Pages.{leaf_at}
use Rattle.zy_table.specs.Places.{place_of}
use Rattle.zy_table.specs.Database.{all_leaves}

abbrev pub why_text : Why → List ℕ
why_text Own = codes "own"
why_text Killed = codes "killed"
why_text BadKey = codes "badkey"
why_text Missing = codes "missing"
why_text Duplicate = codes "duplicate"
why_text (Frozen p) = codes "frozen " ++ decimal p
why_text NoPage = codes "nopage"
why_text (Gone p) = codes "gone " ++ decimal p

abbrev pub kind_text : Kind → List ℕ
kind_text kind.Wire = codes "wire"
kind_text kind.Ready = codes "ready"
kind_text kind.Dual = codes "dual"
kind_text kind.Pull = codes "pull"
kind_text kind.Page = codes "page"
kind_text kind.Finish = codes "finish"
kind_text kind.Done = codes "done"

abbrev pub mode_word : NodeMode → List ℕ
mode_word Empty = codes "empty"
mode_word Normal = codes "normal"
mode_word SInit = codes "sinit"
mode_word SDual = codes "sdual"
mode_word SFinish = codes "sfinish"
mode_word DInit = codes "dinit"
mode_word DDual = codes "ddual"
mode_word DFinish = codes "dfinish"

-- the link from a node
abbrev pub link_word : Node → List ℕ
link_word A = codes "AB"
link_word B = codes "BA"

abbrev pub place_text : Place → List ℕ
place_text Nowhere = codes "nowhere"
place_text (At n) = node_text n
place_text (Moving n) = link_word n

abbrev pub outcome_text : Outcome → List ℕ
outcome_text outcome.Started = codes "started"
outcome_text outcome.BadMode = codes "badmode"
outcome_text (outcome.Began n) = codes "began " ++ node_text n
outcome_text outcome.Idle = codes "idle"
outcome_text outcome.Elsewhere = codes "elsewhere"
outcome_text outcome.NotYet = codes "notyet"
outcome_text outcome.Did = codes "did"
outcome_text (outcome.Split p q b) = codes "split " ++ (decimal p
    ++ (codes " " ++ (decimal q ++ (codes " " ++ decimal b))))
outcome_text (outcome.Aborted why) = codes "aborted " ++ why_text why
outcome_text (outcome.Committed i) = codes "committed " ++ decimal i
outcome_text (outcome.Waits p) = codes "waits " ++ decimal p
outcome_text (outcome.Pulls p) = codes "pulls " ++ decimal p
outcome_text (outcome.Awaits p) = codes "awaits " ++ decimal p
outcome_text outcome.NoMessage = codes "nomessage"
outcome_text outcome.GotWire = codes "got wire"
outcome_text outcome.GotReady = codes "got ready"
outcome_text outcome.GotDual = codes "got dual"
outcome_text (outcome.Stale p) = codes "stale " ++ decimal p
outcome_text (outcome.Held p) = codes "held " ++ decimal p
outcome_text (outcome.GotPull p) = codes "got pull " ++ decimal p
outcome_text (outcome.GotPage p) = codes "got page " ++ decimal p
outcome_text outcome.GotFinish = codes "got finish"
outcome_text outcome.GotDone = codes "got done"
outcome_text outcome.Stray = codes "stray"
outcome_text outcome.Finishing = codes "finishing"
outcome_text (outcome.Active t) = codes "active " ++ decimal t
outcome_text (outcome.Pushed p) = codes "pushed " ++ decimal p
outcome_text outcome.NoPush = codes "nopush"

-- the message that was sent, if one was
abbrev pub sent_text : Option Kind → List ℕ
sent_text None = []
sent_text (Some kind) = codes " ! " ++ kind_text kind

-- step i
abbrev pub step_text : ℕ → Entry → List ℕ
step_text i e =
    decimal i ++ (codes " " ++ (choice_text e.choice ++ (codes " -> " ++ (outcome_text e.outcome ++ sent_text e.sent))))

abbrev pub mode_text : Node → NodeMode → List ℕ
mode_text n m = codes "mode " ++ (node_text n ++ (codes " " ++ mode_word m))

-- K=V
abbrev pub pair_text : Row → List ℕ
pair_text r = decimal r.key ++ (codes "=" ++ decimal r.value)

abbrev pub cell_text : Row → List ℕ
cell_text r = codes " " ++ pair_text r

-- ` K=V` for each row
abbrev pub rows_text : List Row → List ℕ
rows_text rows = flat_map cell_text rows

-- the same without the blank in front
abbrev pub row_words : List Row → List ℕ
row_words rows = drop 1 (rows_text rows)

-- a page and where it is
abbrev pub leaf_text : Place → Leaf → List ℕ
leaf_text place x =
    codes "page "
    ++ (decimal x.number
    ++ (codes " " ++ (place_text place ++ (codes " low " ++ (decimal x.low ++ (codes " rows" ++ rows_text x.rows))))))

-- page p, wherever it is
abbrev pub page_text : State → ℕ → List ℕ
page_text s p = leaf_text (place_of p s) (leaf_at (all_leaves s) p)

-- the page that a message asks for or brings
abbrev pub number_text : Message → List ℕ
number_text (Pull p) = codes ":" ++ decimal p
number_text (Page leaf) = codes ":" ++ decimal leaf.number
number_text message = []

abbrev pub message_text : Message → List ℕ
message_text m = codes " " ++ (kind_text (kind_of m) ++ number_text m)

abbrev pub messages_text : List Message → List ℕ
messages_text messages = flat_map message_text messages

-- the link from a node, with its messages
abbrev pub link_text : Node → List Message → List ℕ
link_text n messages = codes "link " ++ (link_word n ++ messages_text messages)

abbrev pub reg_text : ℕ → List ℕ
reg_text r = codes " " ++ decimal r

abbrev pub regs_text : List ℕ → List ℕ
regs_text regs = flat_map reg_text regs

-- t's place in commit order, from 1; 0 where it is not there
abbrev pub commit_place : ℕ → List CommitRecord → ℕ
commit_place t commits = option_map_or (λ i. i + 1) (position (λ (c : CommitRecord). c.txn == t) commits) 0

abbrev pub done_text : Txn → List ℕ
done_text x = codes " done " ++ (decimal x.done ++ (codes " regs" ++ regs_text x.regs))

abbrev pub active_text : Txn → List ℕ
active_text x =
    codes " active "
    ++ (node_text x.node ++ (codes " pc " ++ (decimal x.pc ++ (done_text x ++ (codes " private" ++ rows_text x.rows)))))

-- committed in this place
abbrev pub committed_text : Txn → ℕ → List ℕ
committed_text x place = codes " committed " ++ (node_text x.node ++ (codes " " ++ (decimal place ++ done_text x)))

abbrev pub aborted_text : Txn → Why → List ℕ
aborted_text x why = codes " aborted " ++ (node_text x.node ++ (codes " " ++ (why_text why ++ done_text x)))

-- what the line says of t, by how far it is
abbrev pub status_text : List CommitRecord → ℕ → Txn → Status → List ℕ
status_text commits t x New = codes " new"
status_text commits t x Active = active_text x
status_text commits t x Committed = committed_text x (commit_place t commits)
status_text commits t x (Aborted why) = aborted_text x why

-- transaction t
abbrev pub txn_text : State → ℕ → List ℕ
txn_text s t =
    let x = txn_or (slice_get s.txns t) in codes "txn " ++ (decimal t ++ status_text s.commits t x x.status)

abbrev pub serial_text : Bool → List ℕ
serial_text true = codes "serial same"
serial_text false = codes "serial differs"
