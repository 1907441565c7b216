-- What went out of a scenario whose migration was to be ended.
use Rattle.std.proofs.Common.{◌≡◌, ◌∙◌, ◌<◌, ◌≤◌, ◌+◌, ◌++◌, List, [], None, Result, Ok, Err, ap, arith, inr, length, refl, subst, take}
use Rattle.std.proofs.KnownBytes.{Appends-nil}
use Rattle.zy_io.specs.Streams.{Sent}
use Rattle.zy_io.proofs.StreamLemmas.{SendsPrefix-none}
use Rattle.zy_io.specs.declared.writing.TextFault.{TextFault}
use Rattle.zy_io.specs.declared.writing.TextFault.TheVariants.{Memory}
use Rattle.zy_isa.specs.Limits.{max_choices}
use Rattle.zy_isa.specs.Scenario.{Scenario}
use Rattle.zy_isa.specs.declared.choice.Choice.{Choice}
use Rattle.zy_laws.specs.WayOut.{way_out}
use Rattle.zy_machine.specs.Histories.{History}
use Rattle.zy_text.specs.Canon.{canon}
use Rattle.zy_threads.specs.Orders.{reordered}
use Rattle.zy_engine.specs.Ending.{IsEnding, WroteEnding, way_of}
use Rattle.zy_engine.specs.Searching.{history_of, IsWorded, WroteSome}
use Rattle.zy_engine.specs.declared.ending.Ending.{Ending}
use Rattle.zy_engine.specs.declared.ending.Ending.TheVariants.{Written, NoRoom}
use Rattle.zy_engine.specs.declared.wording.Wording.{Wording}
use Rattle.zy_engine.specs.declared.wording.Wording.TheVariants as wording
use Rattle.zy_engine.proofs.SearchLemmas.{taken-few, taken-first, wrote_err}

-- a scenario has a text in each wording
pub worded : (w : Wording) (sc : Scenario) → IsWorded w sc (canon sc)
worded wording.Canonical sc = refl
worded wording.Own sc = inr refl

-- a machine that has made all choices has no more steps than its scenario has choices
pub all_few : (h : History) → h ≡ history_of None h.scenario → length h.entries ≤ length h.scenario.choices
all_few h ran =
    let few = taken-few None h.scenario in
    omega (arith, ap (λ (k : History). length k.entries) ran, few)

-- the choices that it has made and the way out of its state are those of its scenario and the scenario's way out
way_behind : (h : History) (cs : List Choice) → h ≡ history_of None h.scenario → cs ≡ way_out h.scenario h.state
    → take (length h.entries) h.scenario.choices ++ cs ≡ h.scenario.choices ++ way_of h.scenario
way_behind h cs ran way =
    let sc = h.scenario in
    let all : take (length h.entries) sc.choices ≡ sc.choices = ap (λ (k : History). take (length k.entries) sc.choices) ran ∙ taken-first None sc in
    ap (λ ds. ds ++ cs) all ∙ ap (λ ds. sc.choices ++ ds) (way ∙ ap (λ (k : History). way_out sc k.state) ran)

-- so a text with both is one with the way out
wrote_way : {X : Type 0} (w : Wording) (h : History) (cs : List Choice) (old new : Sent) (r : Result X TextFault)
    → h ≡ history_of None h.scenario → cs ≡ way_out h.scenario h.state
    → WroteSome (IsWorded w (reordered h.scenario (take (length h.entries) h.scenario.choices ++ cs))) old new r
    → WroteSome (IsEnding w h.scenario Written) old new r
wrote_way w h cs old new r ran way x =
    record { text = x.text; is = subst (λ ds. IsWorded w (reordered h.scenario ds) x.text) (way_behind h cs ran way) x.is; wrote = x.wrote }

-- all of it went out
pub ended_well : (w : Wording) (h : History) (cs : List Choice) (old new : Sent) (u : Unit {0})
    → h ≡ history_of None h.scenario → cs ≡ way_out h.scenario h.state
    → WroteSome {X = Unit {0}} (IsWorded w (reordered h.scenario (take (length h.entries) h.scenario.choices ++ cs))) old new (Ok u)
    → WroteEnding w h.scenario old new (Ok Written)
ended_well w h cs old new u ran way x =
    let y = wrote_way w h cs old new (Ok u) ran way x in
    record { ending = Written; returned = refl; wrote = record { text = y.text; is = y.is; wrote = y.wrote } }

-- a call failed, or there was no memory
pub ended_badly : (w : Wording) (h : History) (cs : List Choice) (old new : Sent) (f : TextFault)
    → h ≡ history_of None h.scenario → cs ≡ way_out h.scenario h.state
    → WroteSome {X = Unit {0}} (IsWorded w (reordered h.scenario (take (length h.entries) h.scenario.choices ++ cs))) old new (Err f)
    → WroteEnding w h.scenario old new (Err f)
ended_badly w h cs old new f ran way x =
    let y = wrote_way w h cs old new (Err f) ran way x in
    record { ending = Written; returned = tt; wrote = record { text = y.text; is = y.is; wrote = wrote_err Ending old new f y.text y.wrote } }

-- there is no room
pub ended_full : (w : Wording) (h : History) (old : Sent) → h ≡ history_of None h.scenario
    → max_choices < length h.entries + length (way_out h.scenario h.state) → WroteEnding w h.scenario old old (Ok NoRoom)
ended_full w h old ran full =
    let few = all_few h ran in
    let more : max_choices < length h.scenario.choices + length (way_of h.scenario) =
    omega (arith, full, few, ap (λ (k : History). length (way_out h.scenario k.state)) ran) in
    record { ending = NoRoom; returned = refl; wrote = record { text = []; is = (refl, more); wrote = (Appends-nil old.written, refl) } }

-- where memory runs out before anything is written
pub ended_nowhere : (w : Wording) (sc : Scenario) (old : Sent) → WroteEnding w sc old old (Err Memory)
ended_nowhere w sc old =
    let all = reordered sc (sc.choices ++ way_of sc) in
    record { ending = Written; returned = tt; wrote = record { text = canon all; is = worded w all; wrote = (SendsPrefix-none old (canon all), refl) } }
