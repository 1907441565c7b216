-- What a machine keeps of its steps.
use Rattle.std.specs.Prelude.{◌≡◌, ◌<◌, ◌≤◌, List, [], Option, Some, None, length, slice_get, vec_capacity}
use Rattle.zy_isa.specs.declared.choice.Choice.{Choice}
use Rattle.zy_table.specs.declared.entry.Entry.{Entry}
use Rattle.zy_machine.specs.declared.entry_log.EntryLog.{EntryLog}
use Rattle.zy_machine.specs.declared.entry_log.EntryLog.TheVariants.{Own, Shared}
use Rattle.zy_machine.specs.Trails.{IsNextChoice}

-- the steps that were made
abbrev pub entries_of : EntryLog → List Entry
entries_of (Own v) = v.items
entries_of (Shared k) = k.made

-- what is known of those that may follow
abbrev pub ahead : EntryLog → List Entry
ahead (Own v) = []
ahead (Shared k) = k.ahead

-- a step by this choice needs no memory
abbrev pub IsReadyFor : Choice → EntryLog → Type 0
IsReadyFor c (Own v) = length v.items < vec_capacity v
IsReadyFor c (Shared k) = IsNextChoice c k.ahead

-- this entry can be the next one
abbrev pub MayFollow : Entry → EntryLog → Type 0
MayFollow e (Own v) = length v.items < vec_capacity v
MayFollow e (Shared k) = slice_get k.ahead 0 ≡ Some e

-- neither history is shared, and there is room in mine for the steps of the other: HasRoomFor other mine
abbrev pub HasRoomFor : EntryLog → EntryLog → Type 0
HasRoomFor (Own w) (Own v) = length w.items ≤ vec_capacity v
HasRoomFor (Own w) (Shared k) = ⊥
HasRoomFor (Shared j) (Own v) = ⊥
HasRoomFor (Shared j) (Shared k) = ⊥

-- mine can become a copy of the other: it has room, or this copy takes its place
abbrev pub IsReadyToBe : EntryLog → EntryLog → Option EntryLog → Type 0
IsReadyToBe other mine None = HasRoomFor other mine
IsReadyToBe other mine (Some copy) = (entries_of copy ≡ entries_of other) × (ahead copy ≡ ahead other)
