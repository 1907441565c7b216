-- What a step leaves as it was: a case for each line of the table that changes something.
use Rattle.std.proofs.Common.{◌≡◌, ◌∙◌, ℕ, List, [], ◌∷◌, ◌++◌, length, refl, sym, ap, subst, inl, inr}
use Rattle.std.specs.Prelude.{slice_set}
use Rattle.std.proofs.lemmas.List.{length-set}
use Rattle.zy_isa.specs.declared.node.Node.{Node}
use Rattle.zy_isa.specs.declared.node.Node.TheVariants.{A, B}
use Rattle.zy_isa.specs.declared.choice.Choice.{Choice}
use Rattle.zy_isa.specs.Scenario.{Scenario}
use Rattle.zy_table.specs.State.{State, View, Message, Txn, facing, seen_from}
use Rattle.zy_table.specs.Change.{begun, aborted, did, locked, shares, cut, committed, asks, leaves}
use Rattle.zy_table.specs.Play.{move, side_of, step}
use Rattle.zy_laws.proofs.walk.Txns.{at_other, at_same}
use Rattle.zy_laws.proofs.walk.Events.{Event, step_happens, Rests, Begins, Aborts, GoesOn, Gets, SumsUp, Writes, Inserts, Splits, Commits, Asks}
use Rattle.zy_laws.proofs.walk.Events.{Starts, GotWire, GotReady, GotDual, IsStale, Gives, GotPage, GotLast, GotFinish, GotAll, GotDone, Finishes, Pushes}
use Rattle.zy_steps.specs.Frames.{OneMore, OneLess, LeavesTheRest}

-- a step from v to w that sets at most transaction t, to x
module _ (v w : View) (them : w.them ≡ v.them) where
  -- it sets one, and no message moves
  sets : (t : ℕ) (x : Txn) → w.txns ≡ slice_set v.txns t x → w.inbox ≡ v.inbox → w.outbox ≡ v.outbox → OneMore v.commits w.commits
      → LeavesTheRest v w
  sets t x e i o c = record {
    them = them;
    inbox = inl i;
    outbox = inl o;
    commits = c;
    txn = t;
    txns = record { many = ap length e ∙ length-set v.txns t x; others = λ u far. at_other v w t u x e far };
  }

  -- it sets none, and there is no commit
  keeps : w.txns ≡ v.txns → w.commits ≡ v.commits → OneLess v.inbox w.inbox → OneMore v.outbox w.outbox → LeavesTheRest v w
  keeps e c i o = record {
    them = them;
    inbox = i;
    outbox = o;
    commits = inl c;
    txn = 0;
    txns = record { many = ap length e; others = λ u _. at_same v w u e };
  }

-- the first message is taken
took : (m : Message) (ms now old : List Message) → old ≡ m ∷ ms → now ≡ ms → OneLess old now
took m ms now old f e = inr (m, f ∙ ap (λ x. m ∷ x) (sym e))

-- a message is sent
sent : (m : Message) (now old : List Message) → now ≡ old ++ m ∷ [] → OneMore old now
sent m now old e = inr (m, e)

-- what a step to a view leaves, a step to an equal view leaves
along : {v w x : View} → w ≡ x → LeavesTheRest v x → LeavesTheRest v w
along {v = v} e h = subst (λ z. LeavesTheRest v z) (sym e) h

-- what an event leaves
event_leaves : (sc : Scenario) (n : Node) (v w : View) → Event sc n v w → LeavesTheRest v w
unfolding begun did aborted locked shares cut committed asks leaves
event_leaves sc n v w (Rests e) = along e (keeps v v refl refl refl (inl refl) (inl refl))
event_leaves sc n v w (Begins line e) = along e (sets v _ refl line.txn _ refl refl refl (inl refl))
event_leaves sc n v w (Aborts line e) = along e (sets v _ refl line.txn _ refl refl refl (inl refl))
event_leaves sc n v w (GoesOn line e) = along e (sets v _ refl line.txn _ refl refl refl (inl refl))
event_leaves sc n v w (Gets line e) = along e (sets v _ refl line.txn _ refl refl refl (inl refl))
event_leaves sc n v w (SumsUp line e) = along e (sets v _ refl line.txn _ refl refl refl (inl refl))
event_leaves sc n v w (Writes line e) = along e (sets v _ refl line.txn _ refl refl refl (inl refl))
event_leaves sc n v w (Inserts line e) = along e (sets v _ refl line.txn _ refl refl refl (inl refl))
event_leaves sc n v w (Splits line e) = along e (keeps v _ refl refl refl (inl refl) (inl refl))
event_leaves sc n v w (Commits line e) = along e (sets v _ refl line.txn _ refl refl refl (inr (_, refl)))
event_leaves sc n v w (Asks line e) = along e (keeps v _ refl refl refl (inl refl) (sent _ _ v.outbox refl))
event_leaves sc n v w (Starts line e) = along e (keeps v _ refl refl refl (inl refl) (sent _ _ v.outbox refl))
event_leaves sc n v w (GotWire line e) = along e (keeps v _ refl refl refl (took _ line.after _ v.inbox line.front refl) (sent _ _ v.outbox refl))
event_leaves sc n v w (GotReady line e) = along e (keeps v _ refl refl refl (took _ line.after _ v.inbox line.front refl) (sent _ _ v.outbox refl))
event_leaves sc n v w (GotDual line e) = along e (keeps v _ refl refl refl (took _ line.after _ v.inbox line.front refl) (inl refl))
event_leaves sc n v w (IsStale line e) = along e (keeps v _ refl refl refl (took _ line.after _ v.inbox line.front refl) (inl refl))
event_leaves sc n v w (Gives line e) = along e (keeps v _ refl refl refl (took _ line.after _ v.inbox line.front refl) (sent _ _ v.outbox refl))
event_leaves sc n v w (GotPage line e) = along e (keeps v _ refl refl refl (took _ line.after _ v.inbox line.front refl) (inl refl))
event_leaves sc n v w (GotLast line e) = along e (keeps v _ refl refl refl (took _ line.after _ v.inbox line.front refl) (sent _ _ v.outbox refl))
event_leaves sc n v w (GotFinish line e) = along e (keeps v _ refl refl refl (took _ line.after _ v.inbox line.front refl) (inl refl))
event_leaves sc n v w (GotAll line e) = along e (keeps v _ refl refl refl (took _ line.after _ v.inbox line.front refl) (sent _ _ v.outbox refl))
event_leaves sc n v w (GotDone line e) = along e (keeps v _ refl refl refl (took _ line.after _ v.inbox line.front refl) (inl refl))
event_leaves sc n v w (Finishes line e) = along e (keeps v _ refl refl refl (inl refl) (sent _ _ v.outbox refl))
event_leaves sc n v w (Pushes line e) = along e (keeps v _ refl refl refl (inl refl) (sent _ _ v.outbox refl))

-- a view seen from its node is that view
pub face : (n : Node) (v : View) → facing n (seen_from n v) ≡ v
face A v = refl
face B v = refl

-- what a step leaves
pub step_leaves : (sc : Scenario) (c : Choice) (s : State)
    → LeavesTheRest (facing (side_of sc c s) s) (facing (side_of sc c s) (step sc c s).after)
unfolding step
step_leaves sc c s =
    let n = side_of sc c s in
    let v = facing n s in
    subst (λ w. LeavesTheRest v w) (sym (face n (move sc c v).after)) (event_leaves sc n v (move sc c v).after (step_happens sc c s).event)
