-- What a store shows of the state, and what a call on it may do.
use Rattle.std.specs.Prelude.{◌≡◌, ◌<◌, ◌≤◌, ℕ, true, length, Result, Ok, Err}
use Rattle.zy_isa.specs.Limits.{max_pages, max_txns}
use Rattle.zy_isa.specs.declared.node.Node.{Node}
use Rattle.zy_isa.specs.declared.node.Node.TheVariants.{A, B}
use Rattle.zy_isa.specs.Scenario.{Scenario}
use Rattle.zy_isa.specs.declared.choice.Choice.{Choice}
use Rattle.zy_isa.specs.declared.choice.Choice.TheVariants.{Start, Begin, Kill, Run, Take, Finish, Push}
use Rattle.zy_table.specs.State.{State, Move, Step, facing, seen_from}
use Rattle.zy_rules.specs.Arrivals.{MayTake}
use Rattle.zy_node.specs.Nodes.{node_shown, Limits, limits_of, IsLimited}
use Rattle.zy_model.specs.Table.{may_start}
use Rattle.zy_table.specs.declared.answer.Answer.{Answer}
use Rattle.zy_rules.specs.Ready.{IsReady as IsReadyHere}
use Rattle.zy_machine.specs.declared.node_pair.NodePair.{NodePair}

abbrev pub state_of : NodePair → State
state_of s = record {
  a = node_shown s.a;
  b = node_shown s.b;
  ab = s.a.outbox.messages;
  ba = s.b.outbox.messages;
  txns = s.book.txns;
  commits = s.book.commits;
}

-- how many pages the wireframes of both nodes may have, and those that they send
abbrev pub limits_in : NodePair → Limits × Limits
limits_in s = (limits_of s.a, limits_of s.b)

-- they may have n pages, and a node has a slot for each
pub record AreLimited (n : ℕ) (s : NodePair) : Type 0 where
  pub few : n ≤ max_pages
  pub a : IsLimited n s.a
  pub b : IsLimited n s.b

-- a node that may start has a page
abbrev pub MayStart : NodePair → Type 0
MayStart s = (n : Node) → let v = facing n (state_of s) in may_start v.me.mode v.them.mode ≡ true → 0 < length v.me.lows

-- a run of t at n is safe on the parts of n
abbrev pub IsReady : Scenario → Node → ℕ → NodePair → Type 0
IsReady sc A t s = IsReadyHere sc A t s.a s.book
IsReady sc B t s = IsReadyHere sc B t s.b s.book

-- the call answered what the line answers, left the state behind it, and kept the limits
abbrev pub IsMade : Node → NodePair → NodePair → Answer → Move → Type 0
IsMade n old new x m =
    (state_of new ≡ seen_from n m.after) × (x.outcome ≡ m.outcome) × (x.sent ≡ m.sent) × (limits_in new ≡ limits_in old)

-- the same, or memory was wanted and nothing changed
abbrev pub MakesAt : {E : Type 0} → Node → NodePair → NodePair → Result Answer E → Move → Type 0
MakesAt n old new (Ok x) m = IsMade n old new x m
MakesAt n old new (Err e) m = (state_of new ≡ state_of old) × (limits_in new ≡ limits_in old)

-- a choice can be made: the transaction that it names is there, and its run is safe; the node that starts has a page
abbrev pub IsPossible : Scenario → Choice → NodePair → Type 0
IsPossible sc Start s = MayStart s
IsPossible sc (Begin t) s = t < length s.book.txns
IsPossible sc (Kill t) s = t < length s.book.txns
IsPossible sc (Run n t) s = IsReady sc n t s
IsPossible sc (Take n) s = let v = facing n (state_of s) in MayTake v.inbox v.me
IsPossible sc (Finish n) s = length s.book.txns ≤ max_txns
IsPossible sc (Push n) s = Unit {0}

-- the call made this step and kept the limits, or memory was wanted and nothing changed
abbrev pub Steps : {E : Type 0} → NodePair → NodePair → Result Answer E → Step → Type 0
Steps old new (Ok x) m =
    (state_of new ≡ m.after) × (x.outcome ≡ m.outcome) × (x.sent ≡ m.sent) × (limits_in new ≡ limits_in old)
Steps old new (Err e) m = (state_of new ≡ state_of old) × (limits_in new ≡ limits_in old)
