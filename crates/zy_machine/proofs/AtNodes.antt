-- A line made on the parts of one node, as a step of the store.
use Rattle.std.proofs.Common.{◌≡◌, ◌≤◌, ℕ, Result, Ok, Err, ap, subst, sym}
use Rattle.zy_isa.specs.Limits.{max_pages}
use Rattle.zy_isa.specs.declared.node.Node.TheVariants.{A, B}
use Rattle.zy_table.specs.State.{Move, facing, seen_from}
use Rattle.zy_node.specs.declared.node_store.NodeStore.{NodeStore}
use Rattle.zy_txns.specs.Books.{Ledger}
use Rattle.zy_table.specs.declared.answer.Answer.{Answer}
use Rattle.zy_rules.specs.Parts.{here}
use Rattle.zy_table.specs.Answers.{Makes as MakesHere}
use Rattle.zy_node.specs.Mail.{Mail}
use Rattle.zy_node.specs.Nodes.{node_shown, Limits, limits_of, IsLimited}
use Rattle.zy_rules.specs.Arrivals.{MayTake, MayTakeFrom}
use Rattle.zy_rules.specs.Fronts.{meets}
use Rattle.zy_machine.specs.declared.node_pair.NodePair.{NodePair}
use Rattle.zy_machine.specs.NodePairs.{state_of, MakesAt}

-- a line made on the node A and the book of transactions is one made at A
pub at-a : {E : Type 0} (old : NodePair) (x : NodeStore) (b : Ledger) (r : Result Answer E) (m : Move)
    → limits_of x ≡ limits_of old.a → (let v = facing A (state_of old) in MakesHere (here old.a old.book v) (here x b v) r m) → MakesAt A old (record old { a = x; book = b }) r m
at-a old x b (Ok y) m l h = (ap (λ (z : Move). seen_from A z.after) h, ap (λ (z : Move). z.outcome) h, ap (λ (z : Move). z.sent) h, cc)
at-a old x b (Err e) m l h = (ap (seen_from A) h, cc)

-- the same of the node B
pub at-b : {E : Type 0} (old : NodePair) (x : NodeStore) (b : Ledger) (r : Result Answer E) (m : Move)
    → limits_of x ≡ limits_of old.b → (let v = facing B (state_of old) in MakesHere (here old.b old.book v) (here x b v) r m) → MakesAt B old (record old { b = x; book = b }) r m
at-b old x b (Ok y) m l h = (ap (λ (z : Move). seen_from B z.after) h, ap (λ (z : Move). z.outcome) h, ap (λ (z : Move). z.sent) h, cc)
at-b old x b (Err e) m l h = (ap (seen_from B) h, cc)

-- the same of a line made on a node and the link to it
pub meets-a : {E : Type 0} (old : NodePair) (x : NodeStore) (i : Mail) (r : Result Answer E) (m : Move)
    → i.pages ≡ old.b.outbox.pages → limits_of x ≡ limits_of old.a
    → (let v = facing A (state_of old) in MakesHere (meets old.a old.b.outbox v) (meets x i v) r m) → let y = old.b in
    MakesAt A old (record old { a = x; b = record y { outbox = i } }) r m
meets-a old x i (Ok y) m p l h = (ap (λ (z : Move). seen_from A z.after) h, ap (λ (z : Move). z.outcome) h, ap (λ (z : Move). z.sent) h, cc)
meets-a old x i (Err e) m p l h = (ap (seen_from A) h, cc)

-- the same of the node B and the link from A
pub meets-b : {E : Type 0} (old : NodePair) (x : NodeStore) (i : Mail) (r : Result Answer E) (m : Move)
    → i.pages ≡ old.a.outbox.pages → limits_of x ≡ limits_of old.b
    → (let v = facing B (state_of old) in MakesHere (meets old.b old.a.outbox v) (meets x i v) r m) → let y = old.a in
    MakesAt B old (record old { b = x; a = record y { outbox = i } }) r m
meets-b old x i (Ok y) m p l h = (ap (λ (z : Move). seen_from B z.after) h, ap (λ (z : Move). z.outcome) h, ap (λ (z : Move). z.sent) h, cc)
meets-b old x i (Err e) m p l h = (ap (seen_from B) h, cc)

-- of two nodes whose wireframes may have n pages, x can take from the link of y where it can take what that holds
pub may_take_from : (n : ℕ) (x y : NodeStore) → n ≤ max_pages → IsLimited n x → IsLimited n y → MayTake y.outbox.messages (node_shown x)
    → MayTakeFrom y.outbox x
may_take_from n x y few own other may =
    let sent : y.outbox.pages ≡ n = ap (λ (l : Limits). l.sent) other in
    record { may = may; limited = subst (λ m. IsLimited m x) (sym sent) own; few = subst (λ m. m ≤ max_pages) (sym sent) few }
