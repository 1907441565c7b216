-- What a step shows: what came of its choice, the value of its instruction, the rows of the page that it moved, and where a choice of the
-- client took place.
use Rattle.std.specs.Prelude.{ℕ, List, [], ◌∷◌, Option, Some, None, slice_get}
use Rattle.std.specs.Option.{option_map, option_and_then}
use Rattle.zy_isa.specs.declared.instr.Instr.{Instr}
use Rattle.zy_isa.specs.declared.instr.Instr.TheVariants.{Set, Read, Write, Insert, Add, Sum, Beq, Commit, Abort}
use Rattle.zy_isa.specs.declared.instr.Reg.{Reg}
use Rattle.zy_isa.specs.declared.choice.Choice.{Choice}
use Rattle.zy_isa.specs.declared.choice.Choice.TheVariants.{Start, Begin, Kill, Run}
use Rattle.zy_isa.specs.declared.node.Node.{Node}
use Rattle.zy_isa.specs.Scenario.{Scenario}
use Rattle.zy_page.specs.declared.page_rows.PageRows.{PageRows}
use Rattle.zy_page.specs.RowLists.{of_rows}
use Rattle.zy_table.specs.declared.observation.Observation.{Observation}
use Rattle.zy_table.specs.declared.outcome.Outcome.{Outcome}
use Rattle.zy_table.specs.declared.outcome.Outcome.TheVariants.{Started, Began, Did, Aborted, GotPull, GotPage, Pushed}
use Rattle.zy_table.specs.State.{State, Txn}
use Rattle.zy_table.specs.Change.{reg, txn_or}
use Rattle.zy_table.specs.Run.{program_of}
use Rattle.zy_table.specs.Database.{all_leaves}
use Rattle.zy_table.specs.Pages.{rows_of}
use Rattle.zy_table.specs.Play.{step, side_of, entry_of}

-- the register that an instruction shows: the one that it sets, or whose value it writes
abbrev pub shown_register : Instr → Option Reg
shown_register (Set r v) = Some r
shown_register (Read r q) = Some r
shown_register (Write r q) = Some q
shown_register (Insert r q) = Some q
shown_register (Add r q) = Some r
shown_register (Sum r q) = Some r
shown_register (Beq r q to) = None
shown_register Commit = None
shown_register Abort = None

-- a transaction of a state
abbrev pub txn_of : State → ℕ → Txn
txn_of s t = txn_or (slice_get s.txns t)

-- the register that a choice shows: that of the instruction which its transaction does next
abbrev pub register_of : Scenario → State → Choice → Option Reg
register_of sc s (Run n t) = option_and_then shown_register (slice_get (program_of sc t) (txn_of s t).pc)
register_of sc s c = None

-- what a register of a transaction holds, where it did its instruction
abbrev pub value_in : Txn → Outcome → Option Reg → Option ℕ
value_in x Did r = option_map (reg x.regs) r
value_in x o r = None

-- the same where a choice led
abbrev pub value_after : Choice → State → Outcome → Option Reg → Option ℕ
value_after (Run n t) s o r = value_in (txn_of s t) o r
value_after c s o r = None

-- the value that the step of a choice shows
abbrev pub value_of : Scenario → State → Choice → Option ℕ
value_of sc s c = let x = step sc c s in value_after c x.after x.outcome (register_of sc s c)

-- the page that a step moved: the one that it sent or took
abbrev pub moved_page : Outcome → Option ℕ
moved_page (GotPull p) = Some p
moved_page (GotPage p) = Some p
moved_page (Pushed p) = Some p
moved_page o = None

-- the rows of a page, wherever it is
abbrev pub page_rows : State → ℕ → PageRows
page_rows s p = of_rows (rows_of (all_leaves s) p)

-- the rows of the page that a step moved, where the step led
abbrev pub rows_after : State → Outcome → Option PageRows
rows_after s o = option_map (page_rows s) (moved_page o)

-- the node at which a choice of the client took place, which was made from this side: none, if it changed nothing
abbrev pub client_node : Choice → Node → Outcome → Option Node
client_node Start side Started = Some side
client_node (Begin t) side (Began n) = Some n
client_node (Kill t) side (Aborted w) = Some side
client_node c side o = None

-- what the step of a choice shows
abbrev pub observation_at : Scenario → State → Choice → Observation
observation_at sc s c =
    let x = step sc c s in
    record {
      entry = entry_of c x;
      value = value_of sc s c;
      rows = rows_after x.after x.outcome;
      node = client_node c (side_of sc c s) x.outcome;
    }

-- what the step of each choice shows
abbrev pub observations : Scenario → State → List Choice → List Observation
observations sc s [] = []
observations sc s (c ∷ cs) = observation_at sc s c ∷ observations sc (step sc c s).after cs
