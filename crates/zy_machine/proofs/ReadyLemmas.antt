-- Each choice of a reached state can be made.
use Rattle.std.proofs.Common.{◌≡◌, ◌∙◌, ℕ, ◌<◌, List, false, refl, length, sym, ap, subst, arith, true}
use Rattle.std.specs.Prelude.{slice_get}
use Rattle.std.proofs.lemmas.Bool.{false_from_ne_true, ltb-true}
use Rattle.zy_model.specs.Families.{is_idle}
use Rattle.zy_isa.specs.declared.node.Node.{Node}
use Rattle.zy_isa.specs.declared.node.Node.TheVariants.{A, B}
use Rattle.zy_isa.specs.declared.choice.Choice.{Choice}
use Rattle.zy_isa.specs.declared.choice.Choice.TheVariants.{Start, Begin, Kill, Run, Take, Finish, Push}
use Rattle.zy_isa.specs.Limits.{max_choices}
use Rattle.zy_isa.specs.Choices.{names_below}
use Rattle.zy_isa.specs.Scenario.{Scenario, IsScenario}
use Rattle.zy_model.specs.Wireframe.{page_of}
use Rattle.zy_machine.specs.declared.node_pair.NodePair.{NodePair}
use Rattle.zy_table.specs.State.{NodeState, State, Txn, facing}
use Rattle.zy_node.specs.declared.node_store.NodeStore.{NodeStore}
use Rattle.zy_node.specs.Nodes.{node_shown, Limits, IsLimited}
use Rattle.zy_node.specs.Install.{AreRoomy}
use Rattle.zy_table.specs.Change.{txn_at, txn_or}
use Rattle.zy_table.specs.Client.{is_active}
use Rattle.zy_table.specs.Pages.{owns, rows_of}
use Rattle.zy_table.specs.Rows.{rows_on, rows_not_in}
use Rattle.zy_table.specs.Run.{own_inserts}
use Rattle.zy_table.specs.Play.{play, opening}
use Rattle.zy_laws.specs.Counts.{Safe, HasRoomAtCommit}
use Rattle.zy_table.specs.Order.{InOrder}
use Rattle.zy_model.specs.Table.{may_split as splits_in, may_start as starts_in}
use Rattle.zy_rules.specs.Arrivals.{MayTake}
use Rattle.zy_rules.specs.Ready.{IsReady, MaySplit, Rooms}
use Rattle.zy_txns.specs.Books.{Countable, txn_in}
use Rattle.zy_machine.specs.NodePairs.{state_of, limits_in, AreLimited, IsPossible, MayStart}
use Rattle.zy_machine.proofs.ArrivalLemmas.{may_take}
use Rattle.zy_table.proofs.PageFinds.{absent_page}
use Rattle.zy_laws.proofs.owner.OneOwner.{inv_from, play_inv}
use Rattle.zy_laws.proofs.room.Room.{need, need_is}
use Rattle.zy_machine.proofs.Roomy.{roomy}
use Rattle.zy_laws.proofs.counts.SafeCounts.{safe, program_is}
use Rattle.zy_laws.proofs.room.RoomAtCommit.{fits}
use Rattle.zy_laws.proofs.order.ListsInOrder.{in_order, ordered_from, tidy}
use Rattle.zy_laws.proofs.places.Boundary.{boundary_new}
use Rattle.zy_laws.proofs.locks.Runners.{home_placed}
use Rattle.zy_laws.proofs.order.Rising.{rows_at}
use Rattle.zy_laws.proofs.locks.Reached.{kept_from, reached}
use Rattle.zy_laws.proofs.walk.ModeLines.{starts_from}
use Rattle.zy_laws.proofs.owner.Roles.{fresh_number, normal_other}
use Rattle.zy_laws.proofs.walk.Txns.{IsAt}

-- a transaction seen from either node is that of the state
txn_at-facing : (n : Node) (t : ℕ) (s : State) → txn_at (facing n s) t ≡ txn_or (slice_get s.txns t)
unfolding txn_at
txn_at-facing A t s = refl
txn_at-facing B t s = refl

-- what the laws say of a split by a transaction that runs
may_split : (sc : Scenario) → IsScenario sc → (cs : List Choice) (n : Node) (t : ℕ) → let s = play sc (opening sc) cs in let v = facing n s in IsAt v t n
    → MaySplit sc v.me (txn_at v t)
may_split sc ok cs n t at =
    let s = play sc (opening sc) cs in
    let v = facing n s in
    let r = reached sc ok cs in
    let k = kept_from sc n s r.lows r.kept in
    let o = ordered_from n s (tidy sc ok cs).ordered in
    let fresh : splits_in v.me.mode ≡ true → owns v.me.pages (length v.me.lows) ≡ false =
    λ splits. fresh_number v k.inv.owned (normal_other v k.inv.roles splits).1 in
    record {
      room = ok.cap_least;
      pages = ok.pages_most;
      absent = λ splits. absent_page (length v.me.lows) v.me.pages (fresh splits);
      unheld = λ splits u. false_from_ne_true _ (λ h.
          let under = k.mine.below (length v.me.lows) u h in
          let count : length v.me.lows ≡ length r.lows = ap length (k.mine.newest (k.mine.busy t at)) in
          omega (arith, under, count));
      other = λ key new full. boundary_new sc t key (page_of v.me.lows key) v k.first.0 (k.mine.newest (k.mine.busy t at) ∙ k.first.1) ok.cap_least
          (home_placed sc n v r.lows t k at) refl full (rows_at (page_of v.me.lows key) v.me.pages o.mine.rows) (o.private t) new;
    }

-- a node that may start is Normal, and so has the newest low keys
may_start : (sc : Scenario) → IsScenario sc → (cs : List Choice) (n : Node) → let v = facing n (play sc (opening sc) cs) in
    starts_in v.me.mode v.them.mode ≡ true → 0 < length v.me.lows
may_start sc ok cs n starts =
    let s = play sc (opening sc) cs in
    let v = facing n s in
    let r = reached sc ok cs in
    let k = kept_from sc n s r.lows r.kept in
    rw (k.mine.newest (ap is_idle (starts_from v.me.mode v.them.mode starts).0) ∙ k.first.1) (omega arith)

-- what is known of a store after this number of choices
pub record Known (sc : Scenario) (count : ℕ) (s : NodePair) : Type 0 where
  pub tested : IsScenario sc
  pub few : count < max_choices
  pub safe : Safe sc count (state_of s)
  pub fits : HasRoomAtCommit sc (state_of s)
  pub order : InOrder (state_of s)
  pub splits : (n : Node) (t : ℕ) → let v = facing n (state_of s) in IsAt v t n → MaySplit sc v.me (txn_at v t)
  pub takes : (n : Node) → let v = facing n (state_of s) in MayTake v.inbox v.me
  pub starts : MayStart s
  pub limited : AreLimited sc.pages s

-- what is known holds of each store that shows the state that fewer than the most choices lead to
pub known : (sc : Scenario) (cs : List Choice) (s : NodePair) → IsScenario sc → length cs < max_choices → state_of s ≡ play sc (opening sc) cs
    → AreLimited sc.pages s → Known sc (length cs) s
known sc cs s tested few e limited =
    record {
      tested = tested;
      few = few;
      safe = subst (Safe sc (length cs)) (sym e) (safe sc tested cs);
      fits = subst (HasRoomAtCommit sc) (sym e) (fits sc tested cs);
      order = subst InOrder (sym e) (in_order sc tested cs);
      splits = subst (λ (z : State). (n : Node) (t : ℕ) → let v = facing n z in IsAt v t n → MaySplit sc v.me (txn_at v t)) (sym e)
          (λ n t at. may_split sc tested cs n t at);
      takes = subst (λ (z : State). (n : Node) → let v = facing n z in MayTake v.inbox v.me) (sym e)
          (λ n. may_take (facing n (play sc (opening sc) cs)) (inv_from n (play sc (opening sc) cs) (play_inv sc cs)));
      starts = subst (λ (z : State). (n : Node) → let v = facing n z in starts_in v.me.mode v.them.mode ≡ true → 0 < length v.me.lows) (sym e)
          (λ n. may_start sc tested cs n);
      limited = limited;
    }

-- the counts of each transaction of the scenario allow one step more
countable : (sc : Scenario) (count t : ℕ) (s : NodePair) → Known sc count s → t < length sc.programs → Countable t s.book
countable sc count t s k below =
    let c = k.safe.each t below in
    let short = program_is sc.programs t k.tested.programs below in
    record { there = omega (arith, k.safe.txns); pc = omega (arith, c.pc, short.few); done = omega (arith, c.done, k.few) }

-- x is the node n of a store
abbrev IsNode : Node → NodeStore → NodePair → Type 0
IsNode n x s = (facing n (state_of s)).me ≡ node_shown x

-- a transaction that runs at a node can be numbered at its commit, and its rows find room on the node's pages
rooms : (sc : Scenario) (count t : ℕ) (n : Node) (x : NodeStore) (s : NodePair) → IsNode n x s → Known sc count s → is_active (txn_in t s.book).status ≡ true
    → (txn_in t s.book).node ≡ n → Rooms t x s.book
rooms sc count t n x s is k active here =
    let f = facing n (state_of s) in
    let same = txn_at-facing n t (state_of s) in
    let rows = (txn_in t s.book).rows in
    let own : (p : ℕ) → length (own_inserts p f.me (txn_at f t)) ≡ need f.me.lows p (rows_of f.me.pages p) rows =
    λ p. ap (λ (y : Txn). length (rows_not_in (rows_on f.me.lows p y.rows) (rows_of f.me.pages p))) same ∙ need_is f.me.lows p (rows_of f.me.pages p) rows in
    record {
      commits = omega (arith, k.safe.commits, k.tested.few_programs);
      rows = subst (λ (m : NodeState). AreRoomy m.lows rows m.pages) is (roomy sc.cap f.me.lows rows f.me.pages k.tested.cap_most ((k.order.nodes n).rows)
          (λ p owned. let h = k.fits n t p (ap (λ (y : Txn). is_active y.status) same ∙ active, ap (λ (y : Txn). y.node) same ∙ here) owned in
          omega (arith, h, own p)));
    }

-- a split by a transaction that runs at a node is safe
splits : (sc : Scenario) (count t : ℕ) (n : Node) (x : NodeStore) (s : NodePair) → IsNode n x s → Known sc count s → is_active (txn_in t s.book).status ≡ true
    → (txn_in t s.book).node ≡ n
    → MaySplit sc (node_shown x) (txn_in t s.book)
splits sc count t n x s is k active here =
    let same = txn_at-facing n t (state_of s) in
    subst (λ m. MaySplit sc m (txn_in t s.book)) is (subst (MaySplit sc (facing n (state_of s)).me) same
    (k.splits n t (ap (λ (y : Txn). is_active y.status) same ∙ active, ap (λ (y : Txn). y.node) same ∙ here)))

-- a run of each transaction of the scenario is safe on the parts of the node
ready : (sc : Scenario) (count t : ℕ) (n : Node) (x : NodeStore) (s : NodePair) → IsNode n x s → IsLimited sc.pages x → Known sc count s
    → t < length sc.programs → IsReady sc n t x s.book
ready sc count t n x s is limited k below = record {
  counts = countable sc count t s k below;
  program = below;
  pc = (k.safe.each t below).pc;
  limited = limited;
  rooms = rooms sc count t n x s is k;
  splits = splits sc count t n x s is k;
}

-- each choice whose transaction the scenario has can be made
pub possible : (sc : Scenario) (count : ℕ) (c : Choice) (s : NodePair) → Known sc count s → names_below (length sc.programs) c ≡ true → IsPossible sc c s
possible sc count Start s k named = k.starts
possible sc count (Begin t) s k named = (countable sc count t s k (ltb-true _ _ named)).there
possible sc count (Kill t) s k named = (countable sc count t s k (ltb-true _ _ named)).there
possible sc count (Run A t) s k named = ready sc count t A s.a s refl k.limited.a k (ltb-true t (length sc.programs) named)
possible sc count (Run B t) s k named = ready sc count t B s.b s refl k.limited.b k (ltb-true t (length sc.programs) named)
possible sc count (Take n) s k named = k.takes n
possible sc count (Finish n) s k named = omega (arith, k.safe.txns, k.tested.few_programs)
possible sc count (Push n) s k named = tt

-- a store that may have as many pages in its wireframes as one before it
pub still_limited : (n : ℕ) (old new : NodePair) → limits_in new ≡ limits_in old → AreLimited n old → AreLimited n new
still_limited n old new same h = record { few = h.few; a = ap (λ (l : Limits × Limits). l.0) same ∙ h.a; b = ap (λ (l : Limits × Limits). l.1) same ∙ h.b }
