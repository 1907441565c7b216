-- What is at the front of a link, and a call on a node and the link to it.
use Rattle.std.specs.Prelude.{◌≡◌, [], Bool, true, false, IsOk, List, Some, Result, drop, slice_get}
use Rattle.zy_model.specs.declared.table.MessageLine.{MessageLine}
use Rattle.zy_model.specs.Table.{on_message}
use Rattle.zy_model.specs.Messages.{Message, Pull, kind_of}
use Rattle.zy_table.specs.State.{View, NodeState, Move}
use Rattle.zy_table.specs.Take.{all_here, with_brought}
use Rattle.zy_node.specs.declared.node_store.NodeStore.{NodeStore}
use Rattle.zy_node.specs.Nodes.{limits_of, with_node}
use Rattle.zy_node.specs.Mail.{Mail}
use Rattle.zy_table.specs.declared.answer.Answer.{Answer}
use Rattle.zy_table.specs.Answers.{Makes}
use Rattle.zy_rules.specs.Memory.{SendNeedsNone}
use Rattle.zy_rules.specs.declared.take.Front.{Front}
use Rattle.zy_rules.specs.declared.take.Front.TheVariants.{Nothing, Asks, Brings}

-- a view whose node and both links are these
abbrev pub meets : NodeStore → Mail → View → View
meets x inbox v = with_node x (record v { inbox = inbox.messages })

-- a call on a node and the link to it made a line, whatever the rest of the state, and kept the limits of both
abbrev pub Takes : {E : Type 0} → NodeStore → Mail → NodeStore → Mail → Result Answer E → (View → Move) → Type 0
Takes x i x1 i1 result step = (i1.pages ≡ i.pages) × (limits_of x1 ≡ limits_of x)
    × ((v : View) → Makes (meets x i v) (meets x1 i1 v) result (step (meets x i v)))

-- a call on a node and the link to it is not out of memory, if the line needs none
abbrev pub TakesInRoom : {E : Type 0} → NodeStore → Mail → Result Answer E → (View → Move) → Type 0
TakesInRoom x i result step = (v : View) → SendNeedsNone x (step (meets x i v)) → IsOk result

-- a view without the message at the front
abbrev pub rest : View → View
rest v = record v { inbox = drop 1 v.inbox }

-- a message with the line of the mode table for it
abbrev pub front_of : Message → MessageLine → Front
front_of (Pull p) line = Asks p line
front_of message line = Brings line

abbrev pub is_pull : Message → Bool
is_pull (Pull p) = true
is_pull message = false

-- the message at the front of the link to a node, and the line of the mode table for it
pub record Stands (m : Message) (line : MessageLine) (x : NodeState) (inbox : List Message) : Type 0 where
  pub front : slice_get inbox 0 ≡ Some m
  pub is_line : line ≡ on_message x.mode (kind_of m) (all_here (with_brought m x))

-- the front of the link to a node, as its table reads it
abbrev pub IsFront : Front → NodeState → List Message → Type 0
IsFront Nothing x inbox = inbox ≡ []
IsFront (Asks p line) x inbox = Stands (Pull p) line x inbox
IsFront (Brings line) x inbox = (m : Message) × (is_pull m ≡ false) × Stands m line x inbox
