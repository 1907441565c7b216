-- Stops, what they read, and where they fire.
use Rattle.std.specs.Prelude.{ℕ, ◌==◌, ◌&&◌, ◌-◌, Bool, true, false, not, List, Option, Some, None, position}
use Rattle.std.specs.Prelude.{replicate}
use Rattle.std.specs.FinMap.{get}
use Rattle.zy_isa.specs.declared.node.Node.{Node}
use Rattle.zy_isa.specs.declared.node.Node.TheVariants.{A, B}
use Rattle.zy_isa.specs.Scenario.{Scenario}
use Rattle.zy_model.specs.declared.mode.NodeMode.{NodeMode}
use Rattle.zy_model.specs.declared.mode.NodeMode.TheVariants.{Empty, Normal, SInit, SDual, SFinish, DInit, DDual}
use Rattle.zy_model.specs.declared.mode.NodeMode.TheVariants.{DFinish}
use Rattle.zy_table.specs.Database.{database}
use Rattle.zy_table.specs.Places.{place_of}
use Rattle.zy_table.specs.State.{State}
use Rattle.zy_table.specs.declared.place.Place as places
use Rattle.zy_table.specs.declared.place.Place.TheVariants.{Nowhere, At, Moving}
use Rattle.zy_table.specs.declared.outcome.Outcome.{Outcome}
use Rattle.zy_table.specs.declared.outcome.Outcome.TheVariants as outcome
use Rattle.zy_machine.specs.Replays.{state_at, outcome_at}
use Rattle.zy_debug.specs.declared.stop.Stop.{Stop}
use Rattle.zy_debug.specs.declared.stop.Stop.TheVariants as stop
use Rattle.zy_debug.specs.declared.stop.Reading.{Reading}
use Rattle.zy_debug.specs.declared.stop.Reading.TheVariants.{Nothing, Place, Modes, Value}

-- the most stops
abbrev pub max_stops : ℕ
max_stops = 16

-- the stops in order of their numbers, from 1 on
abbrev pub Slots : Type 0
Slots = List (Option Stop)

abbrev pub no_stops : Slots
no_stops = replicate max_stops None

-- what a stop reads in a state
abbrev pub reading : Stop → State → Reading
reading (stop.Page p) s = Place (place_of p s)
reading stop.Mode s = Modes s.a.mode s.b.mode
reading stop.Abort s = Nothing
reading (stop.Watch k) s = Value (get (database s) k)

abbrev pub slot_reading : Option Stop → State → Reading
slot_reading None s = Nothing
slot_reading (Some x) s = reading x s

abbrev pub same_node : Node → Node → Bool
same_node A A = true
same_node B B = true
same_node m n = false

abbrev pub same_place : places.Place → places.Place → Bool
same_place Nowhere Nowhere = true
same_place (At m) (At n) = same_node m n
same_place (Moving m) (Moving n) = same_node m n
same_place p q = false

abbrev pub same_mode : NodeMode → NodeMode → Bool
same_mode Empty Empty = true
same_mode Normal Normal = true
same_mode SInit SInit = true
same_mode SDual SDual = true
same_mode SFinish SFinish = true
same_mode DInit DInit = true
same_mode DDual DDual = true
same_mode DFinish DFinish = true
same_mode m n = false

abbrev pub same_value : Option ℕ → Option ℕ → Bool
same_value None None = true
same_value (Some v) (Some w) = v == w
same_value v w = false

abbrev pub same_reading : Reading → Reading → Bool
same_reading Nothing Nothing = true
same_reading (Place p) (Place q) = same_place p q
same_reading (Modes m n) (Modes k l) = same_mode m k && same_mode n l
same_reading (Value v) (Value w) = same_value v w
same_reading a b = false

abbrev pub is_abort : Outcome → Bool
is_abort (outcome.Aborted why) = true
is_abort o = false

-- a stop that read r fires at a step with outcome o to state t
abbrev pub fires_from : Stop → Reading → State → Outcome → Bool
fires_from stop.Abort r t o = is_abort o
fires_from (stop.Page p) r t o = not (same_reading r (reading (stop.Page p) t))
fires_from stop.Mode r t o = not (same_reading r (reading stop.Mode t))
fires_from (stop.Watch k) r t o = not (same_reading r (reading (stop.Watch k) t))

abbrev pub slot_fires : Reading → State → Outcome → Option Stop → Bool
slot_fires r t o None = false
slot_fires r t o (Some x) = fires_from x r t o

-- the slot fires at m, from 1: between the states after m - 1 and after m choices
abbrev pub fires : Scenario → ℕ → Option Stop → Bool
fires sc m slot = slot_fires (slot_reading slot (state_at sc (m - 1))) (state_at sc m) (outcome_at sc m) slot

-- the lowest slot, from 0, that fires at m
abbrev pub firing : Scenario → Slots → ℕ → Option ℕ
firing sc slots m = position (fires sc m) slots
