-- The lines that go out for a command, each with its end.
use Rattle.std.specs.Prelude.{ℕ, ◌<◌, List, [], ◌++◌, codes, length}
use Rattle.std.specs.Fmt.{decimal}
use Rattle.zy_isa.specs.declared.node.Node.TheVariants.{A, B}
use Rattle.zy_io.specs.Writing.{line_of}
use Rattle.zy_table.specs.State.{State, facing}
use Rattle.zy_isa.specs.Scenario.{Scenario}
use Rattle.zy_listing.specs.Locked.{page_reply}
use Rattle.zy_listing.specs.Nodes.{node_reply}
use Rattle.zy_listing.specs.Texts.{txn_text, link_text, mode_word}
use Rattle.zy_machine.specs.Replays.{state_at}
use Rattle.zy_debug.specs.Sessions.{Session}
use Rattle.zy_debug.specs.declared.command.Reply.{Reply}
use Rattle.zy_debug.specs.declared.command.Reply.TheVariants as reply
use Rattle.zy_debug.specs.declared.command.Shown.{Shown}
use Rattle.zy_debug.specs.declared.command.Shown.TheVariants as shown
use Rattle.zy_debug.specs.declared.command.DebugFault.{DebugFault}
use Rattle.zy_debug.specs.declared.command.DebugFault.TheVariants as fault

-- ---- what is read from a state at position m of l

abbrev pub modes_text : State → List ℕ
modes_text s = codes " modes " ++ (mode_word s.a.mode ++ (codes " " ++ mode_word s.b.mode))

abbrev pub where_text : ℕ → ℕ → State → List ℕ
where_text m l s = codes "at " ++ (decimal m ++ (codes " of " ++ (decimal l ++ modes_text s)))

-- the lines of the listing, and for a position its own
abbrev pub shown_text : ℕ → ℕ → State → Shown → List ℕ
shown_text m l s (shown.Page p) = line_of (page_reply s p)
shown_text m l s (shown.Txn t) = line_of (txn_text s t)
shown_text m l s (shown.Node n) = line_of (node_reply n (facing n s).me)
shown_text m l s shown.Links = line_of (link_text A s.ab) ++ line_of (link_text B s.ba)
shown_text m l s shown.Position = line_of (where_text m l s)

-- what is shown is there
abbrev pub IsThere : Scenario → Shown → Type 0
IsThere sc (shown.Page p) = p < sc.pages
IsThere sc (shown.Txn t) = t < length sc.programs
IsThere sc (shown.Node n) = Unit {0}
IsThere sc shown.Links = Unit {0}
IsThere sc shown.Position = Unit {0}

-- ---- replies and refusals

-- a reply that led to session t
abbrev pub reply_text : Session → Reply → List ℕ
reply_text t (reply.At m) = line_of (codes "at " ++ decimal m)
reply_text t (reply.Stop i m) = line_of (codes "stop " ++ (decimal i ++ (codes " at " ++ decimal m)))
reply_text t (reply.Set i) = line_of (codes "stop " ++ (decimal i ++ codes " set"))
reply_text t (reply.Deleted i) = line_of (codes "deleted " ++ decimal i)
reply_text t (reply.Shown x) = shown_text t.position (length t.scenario.choices) (state_at t.scenario t.position) x

-- out of memory, the session ends, and says nothing
abbrev pub refusal_text : DebugFault → List ℕ
refusal_text fault.NoSuchStop = line_of (codes "no such stop")
refusal_text fault.Range = line_of (codes "out of range")
refusal_text fault.TooManyStops = line_of (codes "too many stops")
refusal_text fault.Memory = []

abbrev pub bad_command : List ℕ
bad_command = line_of (codes "bad command")
