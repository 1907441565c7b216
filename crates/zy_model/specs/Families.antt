-- Families of modes: what the nodes in several modes have in common.
use Rattle.std.specs.Prelude.{Bool, true, false}
use Rattle.zy_model.specs.declared.mode.NodeMode.{NodeMode}
use Rattle.zy_model.specs.declared.mode.NodeMode.TheVariants.{Empty, Normal, SInit, SDual, SFinish, DInit, DDual}
use Rattle.zy_model.specs.declared.mode.NodeMode.TheVariants.{DFinish}

-- it runs all transactions, and so it has every page of its wireframe
abbrev pub is_home : NodeMode → Bool
is_home Normal = true
is_home SInit = true
is_home mode = false

-- it is the node of a migration that the pages leave
abbrev pub is_source : NodeMode → Bool
is_source SInit = true
is_source SDual = true
is_source SFinish = true
is_source mode = false

-- it is the node of a migration to which the pages go
abbrev pub is_destination : NodeMode → Bool
is_destination DInit = true
is_destination DDual = true
is_destination DFinish = true
is_destination mode = false

-- it is a destination, or may become one
abbrev pub is_taker : NodeMode → Bool
is_taker Empty = true
is_taker DInit = true
is_taker DDual = true
is_taker DFinish = true
is_taker mode = false

-- it hands over the pages that are asked for
abbrev pub is_sending : NodeMode → Bool
is_sending SDual = true
is_sending SFinish = true
is_sending mode = false

-- it has no wireframe, or one that has just come, and so it has no page
abbrev pub is_bare : NodeMode → Bool
is_bare Empty = true
is_bare DInit = true
is_bare mode = false

-- no transaction is active there
abbrev pub is_idle : NodeMode → Bool
is_idle Empty = true
is_idle SFinish = true
is_idle mode = false
