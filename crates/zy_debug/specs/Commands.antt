-- What each command rejects, where it goes, and what it replies.
use Rattle.std.specs.Prelude.{ℕ, ◌≡◌, ◌+◌, ◌-◌, ◌==◌, ◌&&◌, Bool, true, false, not, nat_le, nat_lt, length, is_none}
use Rattle.std.specs.Prelude.{slice_get, Option, Some, None, Result, Ok, Err}
use Rattle.zy_isa.specs.Limits.{max_key}
use Rattle.zy_debug.specs.declared.stop.Stop.{Stop}
use Rattle.zy_debug.specs.declared.stop.Stop.TheVariants as stop
use Rattle.zy_debug.specs.Stops.{Slots}
use Rattle.zy_debug.specs.Slots.{free_slot, with_stop, without_stop, is_set}
use Rattle.zy_debug.specs.Scans.{Conts, RConts}
use Rattle.zy_debug.specs.declared.command.Command.{Command}
use Rattle.zy_debug.specs.declared.command.Command.TheVariants as command
use Rattle.zy_debug.specs.declared.command.Reply.{Reply}
use Rattle.zy_debug.specs.declared.command.Reply.TheVariants as reply
use Rattle.zy_debug.specs.declared.command.Shown.{Shown}
use Rattle.zy_debug.specs.declared.command.Shown.TheVariants as shown
use Rattle.zy_debug.specs.declared.command.DebugFault.{DebugFault}
use Rattle.zy_debug.specs.declared.command.DebugFault.TheVariants as fault
use Rattle.zy_debug.specs.Sessions.{Session, goes}

abbrev pub unless : Bool → DebugFault → Option DebugFault
unless true f = None
unless false f = Some f

-- out of range, unless this holds
abbrev pub in_range : Bool → Option DebugFault
in_range test = unless test fault.Range

-- too many stops, unless a slot is free
abbrev pub has_room : Session → Option DebugFault
has_room s = unless (not (is_none (free_slot s.stops))) fault.TooManyStops

-- out of range, unless this holds; and then too many stops, unless a slot is free
abbrev pub has_room_in_range : Bool → Session → Option DebugFault
has_room_in_range true s = has_room s
has_room_in_range false s = Some fault.Range

-- there is a stop of this number, from 1
abbrev pub has_stop : ℕ → Slots → Bool
has_stop n slots = not (n == 0) && is_set (slice_get slots (n - 1))

-- why a command is rejected, if it is
abbrev pub refusal : Session → Command → Option DebugFault
refusal s (command.Step n) = in_range (nat_le (s.position + n) (length s.scenario.choices))
refusal s (command.Back n) = in_range (nat_le n s.position)
refusal s (command.Goto n) = in_range (nat_le n (length s.scenario.choices))
refusal s command.Cont = None
refusal s command.RCont = None
refusal s (command.BreakPage p) = has_room_in_range (nat_lt p s.scenario.pages) s
refusal s command.BreakMode = has_room s
refusal s command.BreakAbort = has_room s
refusal s (command.Watch k) = has_room_in_range (nat_le k max_key) s
refusal s (command.Delete n) = unless (has_stop n s.stops) fault.NoSuchStop
refusal s (command.Page p) = in_range (nat_lt p s.scenario.pages)
refusal s (command.Txn t) = in_range (nat_lt t (length s.scenario.programs))
refusal s (command.Node n) = None
refusal s command.Links = None
refusal s command.Position = None

-- to a position
abbrev pub Moves : Session → ℕ → Session → Reply → Type 0
Moves s m t r = (t ≡ goes s m) × (r ≡ reply.At m)

-- the stop of a slot, or no stop, and the position
abbrev pub stop_reply : Option ℕ → ℕ → Reply
stop_reply (Some i) m = reply.Stop (i + 1) m
stop_reply None m = reply.At m

-- on to the next position at which a stop fires, or to the end
pub record GoesOn (s t : Session) (r : Reply) : Type 0 where
  pub slot : Option ℕ
  pub conts : Conts s.scenario s.stops s.position slot t.position
  pub kept : t ≡ goes s t.position
  pub reply : r ≡ stop_reply slot t.position

-- back to the last position below at which a stop fires, or to the start
pub record GoesBack (s t : Session) (r : Reply) : Type 0 where
  pub slot : Option ℕ
  pub rconts : RConts s.scenario s.stops s.position slot t.position
  pub kept : t ≡ goes s t.position
  pub reply : r ≡ stop_reply slot t.position

abbrev pub set_at : Option ℕ → Reply → Type 0
set_at (Some i) r = r ≡ reply.Set (i + 1)
set_at None r = ⊥

-- a stop more, in the lowest free slot
abbrev pub Sets : Session → Stop → Session → Reply → Type 0
Sets s x t r = (t ≡ record s { stops = with_stop x s.stops }) × set_at (free_slot s.stops) r

-- a stop less; the others keep their numbers
abbrev pub Deletes : Session → ℕ → Session → Reply → Type 0
Deletes s n t r = (t ≡ record s { stops = without_stop (n - 1) s.stops }) × (r ≡ reply.Deleted n)

-- nothing changes, and this is shown
abbrev pub Stays : Session → Shown → Session → Reply → Type 0
Stays s x t r = (t ≡ s) × (r ≡ reply.Shown x)

-- what a command that is not rejected does
abbrev pub Does : Session → Command → Session → Reply → Type 0
Does s (command.Step n) t r = Moves s (s.position + n) t r
Does s (command.Back n) t r = Moves s (s.position - n) t r
Does s (command.Goto n) t r = Moves s n t r
Does s command.Cont t r = GoesOn s t r
Does s command.RCont t r = GoesBack s t r
Does s (command.BreakPage p) t r = Sets s (stop.Page p) t r
Does s command.BreakMode t r = Sets s stop.Mode t r
Does s command.BreakAbort t r = Sets s stop.Abort t r
Does s (command.Watch k) t r = Sets s (stop.Watch k) t r
Does s (command.Delete n) t r = Deletes s n t r
Does s (command.Page p) t r = Stays s (shown.Page p) t r
Does s (command.Txn n) t r = Stays s (shown.Txn n) t r
Does s (command.Node n) t r = Stays s (shown.Node n) t r
Does s command.Links t r = Stays s shown.Links t r
Does s command.Position t r = Stays s shown.Position t r

-- it is done, or there was no memory for it and nothing changes
abbrev pub DoneOrMemory : (Session → Reply → Type 0) → Session → Session → Result Reply DebugFault → Type 0
DoneOrMemory Done s t (Ok r) = Done t r
DoneOrMemory Done s t (Err f) = (f ≡ fault.Memory) × (t ≡ s)

-- it is done unless it is rejected; a refusal changes nothing
abbrev pub Obeys : Option DebugFault → (Session → Reply → Type 0) → Session → Session → Result Reply DebugFault → Type 0
Obeys None Done s t result = DoneOrMemory Done s t result
Obeys (Some f) Done s t result = (t ≡ s) × (result ≡ Err f)
