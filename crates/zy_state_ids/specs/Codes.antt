-- A number for each variant, and what it has beside.
use Rattle.std.specs.Prelude.{ℕ, List, []}
use Rattle.zy_isa.specs.declared.node.Node.{Node}
use Rattle.zy_isa.specs.declared.node.Node.TheVariants.{A, B}
use Rattle.zy_model.specs.Leaf.{Leaf}
use Rattle.zy_model.specs.declared.lock.LockKind.{LockKind}
use Rattle.zy_model.specs.declared.lock.LockKind.TheVariants.{Shared, Exclusive}
use Rattle.zy_model.specs.declared.mode.NodeMode.{NodeMode}
use Rattle.zy_model.specs.declared.mode.NodeMode.TheVariants.{Empty, Normal, SInit, SDual, SFinish, DInit, DDual}
use Rattle.zy_model.specs.declared.mode.NodeMode.TheVariants.{DFinish}
use Rattle.zy_model.specs.Messages.{Message, Wire, Ready, Dual, Pull, Page, Finish, Done}
use Rattle.zy_table.specs.declared.outcome.Why.TheVariants as why
use Rattle.zy_table.specs.declared.status.Status.{Status}
use Rattle.zy_table.specs.declared.status.Status.TheVariants.{New, Active, Committed, Aborted}

abbrev pub node_code : Node → ℕ
node_code A = 0
node_code B = 1

abbrev pub lock_code : LockKind → ℕ
lock_code Shared = 0
lock_code Exclusive = 1

abbrev pub mode_code : NodeMode → ℕ
mode_code Empty = 0
mode_code Normal = 1
mode_code SInit = 2
mode_code SDual = 3
mode_code SFinish = 4
mode_code DInit = 5
mode_code DDual = 6
mode_code DFinish = 7

abbrev pub status_code : Status → ℕ
status_code New = 0
status_code Active = 1
status_code Committed = 2
status_code (Aborted why.Own) = 3
status_code (Aborted why.Killed) = 4
status_code (Aborted why.BadKey) = 5
status_code (Aborted why.Missing) = 6
status_code (Aborted why.Duplicate) = 7
status_code (Aborted why.NoPage) = 8
status_code (Aborted (why.Frozen p)) = 9
status_code (Aborted (why.Gone p)) = 10

-- the page that the reason of an abort names, or 0
abbrev pub status_page : Status → ℕ
status_page (Aborted (why.Frozen p)) = p
status_page (Aborted (why.Gone p)) = p
status_page s = 0

abbrev pub message_code : Message → ℕ
message_code (Wire lows) = 0
message_code Ready = 1
message_code Dual = 2
message_code (Pull p) = 3
message_code (Page x) = 4
message_code Finish = 5
message_code Done = 6

-- the low keys that a message brings, or none
abbrev pub message_lows : Message → List ℕ
message_lows (Wire lows) = lows
message_lows m = []

-- a page with this number, and nothing else
abbrev pub bare : ℕ → Leaf
bare p = record { number = p; low = 0; rows = [] }

-- the page that a message brings, or whose number it asks for, or page 0
abbrev pub message_leaf : Message → Leaf
message_leaf (Pull p) = bare p
message_leaf (Page x) = x
message_leaf m = bare 0
