-- What a reply shows is there.
use Rattle.std.proofs.Common.{◌≡◌, ℕ, Bool, true, false, Option, Some, None, Ok, refl, subst, sym}
use Rattle.std.proofs.lemmas.Bool.{ltb-true}
use Rattle.std.proofs.lemmas.Option.{none-some}
use Rattle.std.specs.Prelude.{length, nat_lt}
use Rattle.zy_debug.specs.Slots.{free_slot}
use Rattle.zy_debug.specs.Commands.{Does, Obeys, in_range, refusal, set_at, stop_reply}
use Rattle.zy_debug.specs.Sessions.{Session}
use Rattle.zy_debug.specs.declared.command.Command.{Command}
use Rattle.zy_debug.specs.declared.command.Command.TheVariants as command
use Rattle.zy_debug.specs.declared.command.DebugFault.{DebugFault}
use Rattle.zy_debug.specs.declared.command.DebugFault.TheVariants as fault
use Rattle.zy_debug.specs.declared.command.Reply.TheVariants as reply
use Rattle.zy_debug.specs.declared.command.Shown.{Shown}
use Rattle.zy_debug.specs.declared.command.Shown.TheVariants as shown
use Rattle.zy_debug_text.specs.Replies.{IsThere}

-- a reply that a session stopped, or is at a position, shows nothing
stop_reply_not : {X : Type 0} (o : Option ℕ) (m : ℕ) (x : Shown) → reply.Shown x ≡ stop_reply o m → X
stop_reply_not (Some i) m x e = absurd (cc)
stop_reply_not None m x e = absurd (cc)

-- nor does one that a stop is set
set_not : {X : Type 0} (o : Option ℕ) (x : Shown) → set_at o (reply.Shown x) → X
set_not (Some i) x e = absurd (cc)
set_not None x e = absurd e

-- what is in range passed the test
passed : (b : Bool) → in_range b ≡ None → b ≡ true
passed true e = refl
passed false e = absurd (none-some fault.Range (sym e))

-- what was asked for is what is shown
same_there : (s t : Session) (x y : Shown) → (t ≡ s) × (reply.Shown x ≡ reply.Shown y) → IsThere s.scenario y → IsThere t.scenario x
same_there s t x y h there =
    let e : x ≡ y = cc (h.1) in
    subst (λ (u : Session). IsThere u.scenario x) (sym h.0) (subst (IsThere s.scenario) (sym e) there)

-- a command that is not rejected shows what is there
does_there : (s t : Session) (c : Command) (x : Shown) → refusal s c ≡ None → Does s c t (reply.Shown x) → IsThere t.scenario x
does_there s t (command.Step n) x e h = absurd (cc (h.1))
does_there s t (command.Back n) x e h = absurd (cc (h.1))
does_there s t (command.Goto n) x e h = absurd (cc (h.1))
does_there s t command.Cont x e h = stop_reply_not h.slot t.position x h.reply
does_there s t command.RCont x e h = stop_reply_not h.slot t.position x h.reply
does_there s t (command.BreakPage p) x e h = set_not (free_slot s.stops) x h.1
does_there s t command.BreakMode x e h = set_not (free_slot s.stops) x h.1
does_there s t command.BreakAbort x e h = set_not (free_slot s.stops) x h.1
does_there s t (command.Watch k) x e h = set_not (free_slot s.stops) x h.1
does_there s t (command.Delete n) x e h = absurd (cc (h.1))
does_there s t (command.Page p) x e h = same_there s t x (shown.Page p) h (ltb-true p s.scenario.pages (passed (nat_lt p s.scenario.pages) e))
does_there s t (command.Txn n) x e h =
    same_there s t x (shown.Txn n) h (ltb-true n (length s.scenario.programs) (passed (nat_lt n (length s.scenario.programs)) e))
does_there s t (command.Node n) x e h = same_there s t x (shown.Node n) h tt
does_there s t command.Links x e h = same_there s t x shown.Links h tt
does_there s t command.Position x e h = same_there s t x shown.Position h tt

-- so does one that was obeyed, whether it may be rejected or not
pub obeyed_there : (o : Option DebugFault) (s t : Session) (c : Command) (x : Shown) → refusal s c ≡ o → Obeys o (Does s c) s t (Ok (reply.Shown x))
    → IsThere t.scenario x
obeyed_there None s t c x e h = does_there s t c x e h
obeyed_there (Some f) s t c x e h = absurd (cc (h.1))
