-- A line that was made is the step of its choice.
use Rattle.std.proofs.Common.{ℕ, Result, Ok, Err}
use Rattle.std.specs.Prelude.{slice_get}
use Rattle.zy_isa.specs.declared.node.Node.{Node}
use Rattle.zy_isa.specs.declared.node.Node.TheVariants.{A}
use Rattle.zy_isa.specs.declared.choice.Choice.TheVariants.{Start, Begin, Kill, Run, Take, Finish, Push}
use Rattle.zy_isa.specs.Scenario.{Scenario}
use Rattle.zy_machine.specs.declared.node_pair.NodePair.{NodePair}
use Rattle.zy_table.specs.declared.answer.Answer.{Answer}
use Rattle.zy_table.specs.State.{facing}
use Rattle.zy_table.specs.Change.{txn_or}
use Rattle.zy_table.specs.Client.{start_step, begin_step, kill_step}
use Rattle.zy_table.specs.Push.{finish_step, push_step}
use Rattle.zy_table.specs.Run.{run_step}
use Rattle.zy_table.specs.Take.{take_step}
use Rattle.zy_table.specs.Play.{side_of, step, move}
use Rattle.zy_machine.specs.NodePairs.{state_of, IsMade, MakesAt, Steps}

-- a line of the start made at the node that starts is the step by `start`
pub start-steps : {E : Type 0} (sc : Scenario) (old new : NodePair) (r : Result Answer E)
    → (let n = side_of sc Start (state_of old) in MakesAt n old new r (start_step (facing n (state_of old)))) → Steps old new r (step sc Start (state_of old))
unfolding step move
start-steps sc old new (Ok x) h = h
start-steps sc old new (Err e) h = h

-- a line of the begin made at A is the step by `begin`
pub begin-steps : (sc : Scenario) (t : ℕ) (old new : NodePair) (x : Answer) → IsMade A old new x (begin_step t (facing A (state_of old)))
    → Steps {E = Unit {0}} old new (Ok x) (step sc (Begin t) (state_of old))
unfolding step move
begin-steps sc t old new x h = h

-- a line of the kill made at the transaction's node is the step by `kill`
pub kill-steps : (sc : Scenario) (t : ℕ) (old new : NodePair) (x : Answer)
    → (let n = (txn_or (slice_get old.book.txns t)).node in IsMade n old new x (kill_step t (facing n (state_of old))))
    → Steps {E = Unit {0}} old new (Ok x) (step sc (Kill t) (state_of old))
unfolding step move
kill-steps sc t old new x h = h

-- a line of the run made at a node is the step by `run` there
pub run-steps : {E : Type 0} (sc : Scenario) (n : Node) (t : ℕ) (old new : NodePair) (r : Result Answer E)
    → MakesAt n old new r (run_step sc n t (facing n (state_of old))) → Steps old new r (step sc (Run n t) (state_of old))
unfolding step move
run-steps sc n t old new (Ok x) h = h
run-steps sc n t old new (Err e) h = h

-- a line of the take made at a node is the step by `take` there
pub take-steps : {E : Type 0} (sc : Scenario) (n : Node) (old new : NodePair) (r : Result Answer E) → MakesAt n old new r (take_step sc (facing n (state_of old)))
    → Steps old new r (step sc (Take n) (state_of old))
unfolding step move
take-steps sc n old new (Ok x) h = h
take-steps sc n old new (Err e) h = h

-- a line of the finish made at a node is the step by `finish` there
pub finish-steps : {E : Type 0} (sc : Scenario) (n : Node) (old new : NodePair) (r : Result Answer E)
    → MakesAt n old new r (finish_step n (facing n (state_of old))) → Steps old new r (step sc (Finish n) (state_of old))
unfolding step move
finish-steps sc n old new (Ok x) h = h
finish-steps sc n old new (Err e) h = h

-- a line of the push made at a node is the step by `push` there
pub push-steps : {E : Type 0} (sc : Scenario) (n : Node) (old new : NodePair) (r : Result Answer E) → MakesAt n old new r (push_step (facing n (state_of old)))
    → Steps old new r (step sc (Push n) (state_of old))
unfolding step move
push-steps sc n old new (Ok x) h = h
push-steps sc n old new (Err e) h = h
