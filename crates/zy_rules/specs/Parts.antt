-- A call on a node and the book, as a line of the table.
use Rattle.std.specs.Prelude.{◌≡◌, Result}
use Rattle.zy_table.specs.State.{View, Move}
use Rattle.zy_table.specs.Answers.{move_of, Makes}
use Rattle.zy_table.specs.declared.answer.Answer.{Answer}
use Rattle.zy_node.specs.declared.node_store.NodeStore.{NodeStore}
use Rattle.zy_node.specs.Nodes.{limits_of, with_node}
use Rattle.zy_txns.specs.Books.{Ledger, with_book}

-- a view whose node, outbound link, transactions and commits are these
abbrev pub here : NodeStore → Ledger → View → View
here x b v = with_node x (with_book b v)

-- a call on a node made a line, whatever the rest of the state, and kept the node's limits
abbrev pub MakesLine : {E : Type 0} → NodeStore → NodeStore → (View → View) → (View → View) → Result Answer E
    → (View → Move) → Type 0
MakesLine x x1 old new result step = (limits_of x1 ≡ limits_of x) × ((v : View) → Makes (old v) (new v) result (step (old v)))

-- the same on a node and the book
abbrev pub Runs : {E : Type 0} → NodeStore → Ledger → NodeStore → Ledger → Result Answer E → (View → Move) → Type 0
Runs x b x1 b1 result step = MakesLine x x1 (here x b) (here x1 b1) result step

-- the same where the call needs no memory
abbrev pub Does : NodeStore → Ledger → NodeStore → Ledger → Answer → (View → Move) → Type 0
Does x b x1 b1 answer step = (limits_of x1 ≡ limits_of x) × ((v : View) → move_of answer (here x1 b1 v) ≡ step (here x b v))
