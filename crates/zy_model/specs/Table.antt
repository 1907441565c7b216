-- The mode table, a line for each line of it.
use Rattle.std.specs.Prelude.{◌≡◌, ◌&&◌, Bool, true, false, if◌then◌else◌, Option, Some, None}
use Rattle.zy_isa.specs.declared.node.Node.{Node}
use Rattle.zy_isa.specs.declared.node.Node.TheVariants.{A, B}
use Rattle.zy_model.specs.declared.kind.Kind.{Kind}
use Rattle.zy_model.specs.declared.kind.Kind.TheVariants.{Wire, Ready, Dual, Pull, Page, Finish, Done}
use Rattle.zy_isa.specs.declared.version.Version.{Version}
use Rattle.zy_isa.specs.declared.version.Version.TheVariants.{Two}
use Rattle.zy_isa.specs.Versions.{has_since}
use Rattle.zy_model.specs.Families.{is_home, is_destination}
use Rattle.zy_model.specs.declared.mode.NodeMode.{NodeMode}
use Rattle.zy_model.specs.declared.mode.NodeMode.TheVariants.{Empty, Normal, SInit, SDual, SFinish, DInit, DDual}
use Rattle.zy_model.specs.declared.mode.NodeMode.TheVariants.{DFinish}
use Rattle.zy_model.specs.declared.table.MessageLine.{MessageLine}
use Rattle.zy_model.specs.declared.table.MessageLine.TheVariants.{Stray, Turns}
use Rattle.zy_model.specs.declared.table.FinishLine.{FinishLine}
use Rattle.zy_model.specs.declared.table.FinishLine.TheVariants.{BadMode, Active, Finishing}

-- a destination whose source runs nothing any more; all: no page is missing
abbrev pub finishes : Bool → MessageLine
finishes false = Turns DFinish None
finishes true = Turns Normal (Some Done)

-- a message at a node in this mode; all: no page is missing there, with the one that the message brings
abbrev pub on_message : NodeMode → Kind → Bool → MessageLine
on_message Empty Wire all = Turns DInit (Some Ready)
on_message SInit Ready all = Turns SDual (Some Dual)
on_message DInit Dual all = Turns DDual None
on_message SDual Pull all = Turns SDual (Some Page)
on_message SFinish Pull all = Turns SFinish (Some Page)
on_message DDual Page all = Turns DDual None
on_message DFinish Page all = finishes all
on_message DDual Finish all = finishes all
on_message SFinish Done all = Turns Empty None
on_message mode kind all = Stray

-- a node turns Normal only where no page is missing, and Done is what it sends then and only then
abbrev pub HandsOver : Bool → MessageLine → Type 0
HandsOver all (Turns Normal sent) = (all ≡ true) × (sent ≡ Some Done)
HandsOver all (Turns mode (Some Done)) = ⊥
HandsOver all line = Unit {0}

-- a node in this mode may start a migration to one in that mode
abbrev pub may_start : NodeMode → NodeMode → Bool
may_start Normal Empty = true
may_start mode other = false

-- the node from which a migration starts, by the modes of A and B and the version: from B in version 2 alone
abbrev pub on_start : NodeMode → NodeMode → Version → Option Node
on_start a b version =
    if may_start a b then Some A
    else if has_since Two version && may_start b a then Some B
    else None

-- finish at a node in this mode; active: a transaction is active there
abbrev pub on_finish : NodeMode → Bool → FinishLine
on_finish SDual true = Active
on_finish SDual false = Finishing
on_finish mode active = BadMode

-- the node where a transaction begins: one that runs all of them, else the destination, and A before B
abbrev pub home_of : NodeMode → NodeMode → Option Node
home_of a b =
    if is_home a then Some A
    else if is_home b then Some B
    else if is_destination a then Some A
    else if is_destination b then Some B
    else None

-- a node in this mode may split a page
abbrev pub may_split : NodeMode → Bool
may_split Normal = true
may_split mode = false

-- transactions have begun at a node in this mode that cannot run yet
abbrev pub is_waiting : NodeMode → Bool
is_waiting DInit = true
is_waiting mode = false

-- a node in this mode asks for the pages that it lacks
abbrev pub may_pull : NodeMode → Bool
may_pull DDual = true
may_pull DFinish = true
may_pull mode = false

-- a node in this mode hands over the pages that are left
abbrev pub may_push : NodeMode → Bool
may_push SFinish = true
may_push mode = false
