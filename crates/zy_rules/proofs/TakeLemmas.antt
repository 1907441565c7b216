-- The lines of a take, by what is at the front of the link.
use Rattle.std.proofs.Common.{◌≡◌, ◌∙◌, ℕ, List, [], ◌∷◌, refl, sym, ap, false, Some}
use Rattle.std.specs.Prelude.{slice_get}
use Rattle.std.proofs.lemmas.Bool.{false≢true}
use Rattle.zy_isa.specs.Scenario.{Scenario}
use Rattle.zy_model.specs.declared.table.MessageLine.{MessageLine}
use Rattle.zy_model.specs.Messages.{Message, Wire, Ready, Dual, Pull, Page, Finish, Done}
use Rattle.zy_table.specs.declared.outcome.Outcome.TheVariants.{NoMessage}
use Rattle.zy_table.specs.State.{View, NodeState}
use Rattle.zy_table.specs.Change.{quiet}
use Rattle.zy_table.specs.Take.{mode_line, arrival_step, pull_step, message_step, front_step, take_step}
use Rattle.zy_rules.specs.Fronts.{front_of, is_pull, rest, Stands, IsFront}
use Rattle.zy_node.proofs.MailLemmas.{front_some}

-- a message at the front, as it is classed
pub is_front : (m : Message) (line : MessageLine) (x : NodeState) (inbox : List Message) → Stands m line x inbox → IsFront (front_of m line) x inbox
is_front (Wire lows) line x inbox h = (Wire lows, refl, h)
is_front Ready line x inbox h = (Ready, refl, h)
is_front Dual line x inbox h = (Dual, refl, h)
is_front (Pull p) line x inbox h = h
is_front (Page leaf) line x inbox h = (Page leaf, refl, h)
is_front Finish line x inbox h = (Finish, refl, h)
is_front Done line x inbox h = (Done, refl, h)

-- a take from an empty link changes nothing, and its outcome is NoMessage
pub take-nothing : (sc : Scenario) (v : View) → v.inbox ≡ [] → take_step sc v ≡ quiet v NoMessage
unfolding take_step front_step
take-nothing sc v e = ap (λ l. front_step sc l v) e

-- a front message gives its own step, with the link without it
front-message : (sc : Scenario) (m : Message) (ms : List Message) (v : View) → front_step sc (m ∷ ms) v ≡ message_step sc m v (record v { inbox = ms })
unfolding front_step
front-message sc m ms v = refl

-- a take from a link with m at its front is the step of m
take-message : (sc : Scenario) (m : Message) (v : View) → slice_get v.inbox 0 ≡ Some m → take_step sc v ≡ message_step sc m v (rest v)
unfolding take_step
take-message sc m v e = ap (λ l. front_step sc l v) (front_some v.inbox m e) ∙ front-message sc m (rest v).inbox v

-- a take of a pull is the step of that pull, by its line of the mode table
pub take-asks : (sc : Scenario) (p : ℕ) (line : MessageLine) (v : View) → Stands (Pull p) line v.me v.inbox → take_step sc v ≡ pull_step sc p line v (rest v)
unfolding message_step
take-asks sc p line v h = take-message sc (Pull p) v h.front ∙ ap (λ l. pull_step sc p l v (rest v)) (sym h.is_line)

-- the step of a message other than a pull is that of its line of the mode table
message-brings : (sc : Scenario) (m : Message) (s r : View) → is_pull m ≡ false → message_step sc m s r ≡ arrival_step (mode_line m s) m s r
unfolding message_step
message-brings sc (Wire lows) s r e = refl
message-brings sc Ready s r e = refl
message-brings sc Dual s r e = refl
message-brings sc (Pull p) s r e = absurd (false≢true (sym e))
message-brings sc (Page leaf) s r e = refl
message-brings sc Finish s r e = refl
message-brings sc Done s r e = refl

-- a take of a message other than a pull is the step of its line of the mode table
pub take-brings : (sc : Scenario) (m : Message) (line : MessageLine) (v : View) → is_pull m ≡ false → Stands m line v.me v.inbox
    → take_step sc v ≡ arrival_step line m v (rest v)
take-brings sc m line v e h = take-message sc m v h.front ∙ (message-brings sc m v (rest v) e ∙ ap (λ l. arrival_step l m v (rest v)) (sym h.is_line))
