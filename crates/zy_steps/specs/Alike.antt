-- States that no step tells apart.
use Rattle.std.specs.Prelude.{◌≡◌, if◌then◌else◌, List, map}
use Rattle.zy_table.specs.State.{State, Txn}
use Rattle.zy_table.specs.Change.{nobody}
use Rattle.zy_table.specs.Client.{is_active}
use Rattle.zy_steps.specs.declared.part.StatePart.{StatePart}
use Rattle.zy_steps.specs.declared.part.StatePart.TheVariants.{Whole, Live}

-- what later steps may read of a transaction: all of it while it is active, else its status; its private rows are kept, too
abbrev pub live_txn : Txn → Txn
live_txn x = if is_active x.status then x else record nobody { status = x.status; rows = x.rows }

-- a transaction, or what is live of it
abbrev pub txn_part : StatePart → Txn → Txn
txn_part Whole x = x
txn_part Live x = live_txn x

-- the same of each
abbrev pub txns_part : StatePart → List Txn → List Txn
txns_part Whole xs = xs
txns_part Live xs = map live_txn xs

-- a state, or it with what is live of each transaction
abbrev pub part_of : StatePart → State → State
part_of part s = record s { txns = txns_part part s.txns }

-- this part of two states is the same
abbrev pub Alike : StatePart → State → State → Type 0
Alike part s t = part_of part s ≡ part_of part t
