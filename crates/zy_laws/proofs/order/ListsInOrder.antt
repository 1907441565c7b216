-- Every list is in its order, after every schedule.
use Rattle.std.proofs.Common.{List, [], arith, length, length-append, subst, suc, sym, zero, ℕ, ◌++◌, ◌+◌, ◌∷◌, ◌≡◌, ◌≤◌}
use Rattle.std.specs.Prelude.{drop, if◌then◌else◌, max, nat_lt}
use Rattle.std.proofs.lemmas.Bool.{cond_both}
use Rattle.std.proofs.lemmas.Bool.Decides.{nat_tests}
use Rattle.std.proofs.lemmas.List.{length-map}
use Rattle.zy_isa.specs.Rows.{Rising}
use Rattle.zy_isa.specs.Scenario.{IsScenario, Scenario, opening_rows}
use Rattle.zy_isa.specs.declared.choice.Choice.{Choice}
use Rattle.zy_isa.specs.declared.node.Node.{Node}
use Rattle.zy_isa.specs.declared.node.Node.TheVariants.{A, B}
use Rattle.zy_isa.specs.declared.row.Row.{Row}
use Rattle.zy_table.specs.Change.{txn_at}
use Rattle.zy_table.specs.Database.{sent_leaves}
use Rattle.zy_table.specs.Order.{InOrder, NodeInOrder, NumbersRise, RowsRise}
use Rattle.zy_table.specs.Pages.{numbers}
use Rattle.zy_table.specs.Play.{home_with, move, opening, opening_leaves, opening_pages, play, side_of, step}
use Rattle.zy_table.specs.State.{Leaf, State, Txn, View, facing, seen_from}
use Rattle.zy_laws.proofs.walk.Events.{step_happens}
use Rattle.zy_laws.proofs.order.Ordered.{Ordered}
use Rattle.zy_laws.proofs.order.OrderedSteps.{ordered_event}
use Rattle.zy_laws.proofs.walk.PlayPush.{play-keeps}
use Rattle.zy_table.proofs.RisingRows.{rises_drop, rises_take}
use Rattle.zy_laws.proofs.owner.OneOwner.{inv_from, opening_inv, step_inv}
use Rattle.zy_laws.proofs.owner.Roles.{Inv, turned}
use Rattle.zy_laws.proofs.walk.Txns.{at_side, blank_at}

-- order from one side is order from the other
turned_ordered : (v : View) → Ordered v → Ordered (turned v)
unfolding txn_at
turned_ordered v o = record {
  mine = o.theirs;
  theirs = o.mine;
  inbox = o.outbox;
  outbox = o.inbox;
  private = o.private;
  lows = let k = o.lows in grind (arith, nat_tests, k);
}

-- order from A is order from either node
pub ordered_from : (n : Node) (s : State) → Ordered (facing A s) → Ordered (facing n s)
ordered_from A s o = o
ordered_from B s o = turned_ordered (facing A s) o

-- order from either node is order from A
ordered_to : (n : Node) (w : View) → Ordered w → Ordered (facing A (seen_from n w))
ordered_to A w o = o
ordered_to B w o = turned_ordered w o

-- a step keeps the order
step_ordered : (sc : Scenario) (c : Choice) (s : State) → Inv (facing A s) → Ordered (facing A s) → Ordered (facing A (step sc c s).after)
unfolding step
step_ordered sc c s i o =
    let n = side_of sc c s in
    let v = facing n s in
    let w = (move sc c v).after in
    ordered_to n w (ordered_event sc n v w (inv_from n s i) (ordered_from n s o) (step_happens sc c s).event)

-- the opening pages rise by number
numbers-opening : (fuel h i low : ℕ) (rows : List Row) → low ≤ i → NumbersRise low (numbers (opening_pages fuel h i rows))
numbers-opening zero h i low rows le = tt
numbers-opening (suc fuel) h i low [] le = tt
numbers-opening (suc fuel) h i low (r ∷ rows) le = (le, numbers-opening fuel h (i + 1) (i + 1) (drop h (r ∷ rows)) (omega arith))

-- the rows of each opening page rise by key
rows-opening : (fuel h i : ℕ) (rows : List Row) → Rising 0 rows → RowsRise (opening_pages fuel h i rows)
rows-opening zero h i rows r = tt
rows-opening (suc fuel) h i [] r = tt
rows-opening (suc fuel) h i (x ∷ rows) r = (rises_take 0 h (x ∷ rows) r, rows-opening fuel h (i + 1) (drop h (x ∷ rows)) (rises_drop 0 h (x ∷ rows) r))

-- the node with the opening pages is in order
opening_home : (h : ℕ) (rows : List Row) → Rising 0 rows → NodeInOrder (home_with (opening_leaves h rows))
unfolding opening_leaves
opening_home h [] r = record { pages = (omega arith, tt); rows = (tt, tt); asked = tt; locks = tt }
opening_home h (x ∷ rows) r = record {
  pages = numbers-opening (length (x ∷ rows)) h 0 0 (x ∷ rows) (omega arith);
  rows = rows-opening (length (x ∷ rows)) h 0 (x ∷ rows) r;
  asked = tt;
  locks = tt;
}

-- the opening state is in order
opening_ordered : (sc : Scenario) → IsScenario sc → Ordered (facing A (opening sc))
unfolding opening txn_at
opening_ordered sc ok =
    let leaves = opening_leaves (opening_rows sc.cap) sc.rows in
    record {
      mine = opening_home (opening_rows sc.cap) sc.rows ok.rows_rise;
      theirs = record { pages = tt; rows = tt; asked = tt; locks = tt };
      inbox = tt;
      outbox = tt;
      private = λ t. subst (λ (x : Txn). Rising 0 x.rows) (sym (blank_at sc.programs t)) tt;
      lows = let long = length-map leaves (λ (x : Leaf). x.low) in grind (arith, nat_tests, long);
    }

-- what is known of every state that is reached
pub record Tidy (s : State) : Type 0 where
  pub inv : Inv (facing A s)
  pub ordered : Ordered (facing A s)

-- a step keeps it
pub step_tidy : (sc : Scenario) (c : Choice) (s : State) → Tidy s → Tidy (step sc c s).after
step_tidy sc c s x = record { inv = step_inv sc c s x.inv; ordered = step_ordered sc c s x.inv x.ordered }

-- it holds at the opening
pub opening_tidy : (sc : Scenario) → IsScenario sc → Tidy (opening sc)
opening_tidy sc ok = record { inv = opening_inv sc; ordered = opening_ordered sc ok }

-- it holds after every schedule
pub tidy : (sc : Scenario) → IsScenario sc → (cs : List Choice) → Tidy (play sc (opening sc) cs)
tidy sc ok cs = play-keeps sc Tidy (step_tidy sc) cs (opening sc) (opening_tidy sc ok)

-- each node is in order
node_ordered : (n : Node) (s : State) → Ordered (facing A s) → NodeInOrder (facing n s).me
node_ordered A s o = o.mine
node_ordered B s o = o.theirs

-- the longer of two lists has the greater length
longer : (xs ys : List ℕ) → length (if nat_lt (length xs) (length ys) then ys else xs) ≡ max (length xs) (length ys)
longer xs ys = cond_both (nat_lt (length xs) (length ys)) ys xs (λ zs. length zs ≡ max (length xs) (length ys)) (λ h. grind (arith, nat_tests, h))
    (λ h. grind (arith, nat_tests, h))

-- the law: every list is in its order
pub in_order : (sc : Scenario) → IsScenario sc → (cs : List Choice) → InOrder (play sc (opening sc) cs)
in_order sc ok cs =
    let s = play sc (opening sc) cs in
    let o = (tidy sc ok cs).ordered in
    record {
      nodes = λ n. node_ordered n s o;
      ab = o.outbox;
      ba = o.inbox;
      private = λ t. subst (λ (x : Txn). Rising 0 x.rows) (at_side A s t) (o.private t);
      lows =
          let k = o.lows in
          let long = longer s.a.lows s.b.lows in
          let a = length-append s.a.pages (s.b.pages ++ (sent_leaves s.ba ++ sent_leaves s.ab)) in
          let b = length-append s.b.pages (sent_leaves s.ba ++ sent_leaves s.ab) in
          let c = length-append (sent_leaves s.ba) (sent_leaves s.ab) in
          omega (arith, k, long, a, b, c);
    }
