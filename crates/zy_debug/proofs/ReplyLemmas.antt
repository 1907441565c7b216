-- Each command that is not rejected leads to one session and has one reply.
use Rattle.std.proofs.Common.{◌≡◌, ◌∙◌, ℕ, ◌+◌, ◌-◌, Bool, true, false, not, is_none, nat_le, nat_lt, Option, Some, None, refl, sym, ap, ap₂}
use Rattle.std.proofs.lemmas.Option.{none-some}
use Rattle.zy_debug.specs.declared.stop.Stop.{Stop}
use Rattle.zy_debug.specs.declared.stop.Stop.TheVariants as stop
use Rattle.zy_debug.specs.Slots.{free_slot, with_stop, without_stop}
use Rattle.zy_debug.proofs.FiringLemmas.{goes_on, goes_back, goes_on_once, goes_back_once}
use Rattle.zy_debug.specs.Sessions.{Session, goes}
use Rattle.zy_debug.specs.Commands.{Does, GoesOn, GoesBack, Moves, Sets, refusal, has_room, has_room_in_range, set_at, stop_reply, unless}
use Rattle.zy_debug.specs.declared.command.Command.{Command}
use Rattle.zy_debug.specs.declared.command.Command.TheVariants as command
use Rattle.zy_debug.specs.declared.command.DebugFault.TheVariants as fault
use Rattle.zy_debug.specs.declared.command.Reply.{Reply}
use Rattle.zy_debug.specs.declared.command.Reply.TheVariants as reply
use Rattle.zy_debug.specs.declared.command.Shown.TheVariants as shown
use Rattle.zy_isa.specs.Limits.{max_key}

-- ---- one at most

-- Two ends of one beginning: from s to t with reply r, and from s to u with reply q.
module _ (s t u : Session) (r q : Reply) where
  -- the position at which the next stop fires is one, and the lowest slot that does
  on_once : GoesOn s t r → GoesOn s u q → (t ≡ u) × (r ≡ q)
  on_once h k =
      let e = goes_on_once s.scenario s.stops s.position h.slot k.slot t.position u.position h.conts k.conts in
      (h.kept ∙ ap (goes s) e.0 ∙ sym k.kept, h.reply ∙ ap₂ stop_reply e.1 e.0 ∙ sym k.reply)

  -- so is the last one below
  back_once : GoesBack s t r → GoesBack s u q → (t ≡ u) × (r ≡ q)
  back_once h k =
      let e = goes_back_once s.scenario s.stops s.position h.slot k.slot t.position u.position h.rconts k.rconts in
      (h.kept ∙ ap (goes s) e.0 ∙ sym k.kept, h.reply ∙ ap₂ stop_reply e.1 e.0 ∙ sym k.reply)

  -- the slot that a stop takes
  set_once : (o : Option ℕ) → set_at o r → set_at o q → r ≡ q
  set_once None h k = absurd h
  set_once (Some i) h k = h ∙ sym k

  -- a stop more
  sets_once : (x : Stop) → Sets s x t r → Sets s x u q → (t ≡ u) × (r ≡ q)
  sets_once x h k = (h.0 ∙ sym k.0, set_once (free_slot s.stops) h.1 k.1)

  -- what both are is one
  same : (v : Session) (w : Reply) → (t ≡ v) × (r ≡ w) → (u ≡ v) × (q ≡ w) → (t ≡ u) × (r ≡ q)
  same v w h k = (h.0 ∙ sym k.0, h.1 ∙ sym k.1)

  -- any command that is not rejected
  pub does_once : (c : Command) → Does s c t r → Does s c u q → (t ≡ u) × (r ≡ q)
  does_once (command.Step n) h k = same _ _ h k
  does_once (command.Back n) h k = same _ _ h k
  does_once (command.Goto n) h k = same _ _ h k
  does_once command.Cont h k = on_once h k
  does_once command.RCont h k = back_once h k
  does_once (command.BreakPage p) h k = sets_once (stop.Page p) h k
  does_once command.BreakMode h k = sets_once stop.Mode h k
  does_once command.BreakAbort h k = sets_once stop.Abort h k
  does_once (command.Watch x) h k = sets_once (stop.Watch x) h k
  does_once (command.Delete n) h k = same _ _ h k
  does_once (command.Page p) h k = same _ _ h k
  does_once (command.Txn n) h k = same _ _ h k
  does_once (command.Node n) h k = same _ _ h k
  does_once command.Links h k = same _ _ h k
  does_once command.Position h k = same _ _ h k

-- ---- one at least

-- a command leads somewhere and has a reply
abbrev pub IsDone : Session → Command → Type 0
IsDone s c = (t : Session) × (r : Reply) × Does s c t r

-- a move
moves : (s : Session) (m : ℕ) → (t : Session) × (r : Reply) × Moves s m t r
moves s m = (goes s m, reply.At m, (refl, refl))

-- on, to a stop or the end
on : (s : Session) → (t : Session) × (r : Reply) × GoesOn s t r
on s = let g = goes_on s.scenario s.stops s.position in
    (goes s g.0, stop_reply g.1 g.0, record { slot = g.1; conts = g.2; kept = refl; reply = refl })

-- back, to a stop or the start
back : (s : Session) → (t : Session) × (r : Reply) × GoesBack s t r
back s = let g = goes_back s.scenario s.stops s.position in
    (goes s g.0, stop_reply g.1 g.0, record { slot = g.1; rconts = g.2; kept = refl; reply = refl })

-- where a slot is free the stop takes it
slot_set : (o : Option ℕ) → unless (not (is_none o)) fault.TooManyStops ≡ None → (r : Reply) × set_at o r
slot_set None h = absurd (none-some fault.TooManyStops (sym h))
slot_set (Some i) h = (reply.Set (i + 1), refl)

-- a stop more
sets : (s : Session) (x : Stop) → has_room s ≡ None → (t : Session) × (r : Reply) × Sets s x t r
sets s x h = let r = slot_set (free_slot s.stops) h in (record s { stops = with_stop x s.stops }, r.0, (refl, r.1))

-- what is in range and has room has room
in_range_too : (b : Bool) (s : Session) → has_room_in_range b s ≡ None → has_room s ≡ None
in_range_too true s h = h
in_range_too false s h = absurd (none-some fault.Range (sym h))

-- any command that is not rejected
pub is_done : (s : Session) (c : Command) → refusal s c ≡ None → IsDone s c
is_done s (command.Step n) h = moves s (s.position + n)
is_done s (command.Back n) h = moves s (s.position - n)
is_done s (command.Goto n) h = moves s n
is_done s command.Cont h = on s
is_done s command.RCont h = back s
is_done s (command.BreakPage p) h = sets s (stop.Page p) (in_range_too (nat_lt p s.scenario.pages) s h)
is_done s command.BreakMode h = sets s stop.Mode h
is_done s command.BreakAbort h = sets s stop.Abort h
is_done s (command.Watch x) h = sets s (stop.Watch x) (in_range_too (nat_le x max_key) s h)
is_done s (command.Delete n) h = (record s { stops = without_stop (n - 1) s.stops }, reply.Deleted n, (refl, refl))
is_done s (command.Page p) h = (s, reply.Shown (shown.Page p), (refl, refl))
is_done s (command.Txn n) h = (s, reply.Shown (shown.Txn n), (refl, refl))
is_done s (command.Node n) h = (s, reply.Shown (shown.Node n), (refl, refl))
is_done s command.Links h = (s, reply.Shown shown.Links, (refl, refl))
is_done s command.Position h = (s, reply.Shown shown.Position, (refl, refl))
