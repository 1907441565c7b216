-- The sixteen numbered slots. Slot i, from 0, is stop i + 1.
use Rattle.std.specs.Prelude.{ℕ, Bool, true, false, Option, Some, None, is_none, position, slice_set}
use Rattle.zy_debug.specs.declared.stop.Stop.{Stop}
use Rattle.zy_debug.specs.Stops.{Slots}

-- the lowest free slot
abbrev pub free_slot : Slots → Option ℕ
free_slot slots = position (λ (x : Option Stop). is_none x) slots

abbrev pub put_at : Option ℕ → Stop → Slots → Slots
put_at None x slots = slots
put_at (Some i) x slots = slice_set slots i (Some x)

-- a stop more, in the lowest free slot
abbrev pub with_stop : Stop → Slots → Slots
with_stop x slots = put_at (free_slot slots) x slots

abbrev pub is_set : Option (Option Stop) → Bool
is_set (Some (Some x)) = true
is_set slot = false

-- without the stop of a slot; the others keep their numbers
abbrev pub without_stop : ℕ → Slots → Slots
without_stop i slots = slice_set slots i None
