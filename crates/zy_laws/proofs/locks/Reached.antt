-- What holds of locks and places in every state that is reached.
use Rattle.std.proofs.Common.{List, [], ap, false, refl, subst, sym, true, ℕ, ◌++◌, ◌∙◌, ◌∷◌, ◌≡◌, ◌≤◌}
use Rattle.std.specs.Prelude.{map, slice_get}
use Rattle.std.proofs.lemmas.Bool.{false≢true}
use Rattle.zy_model.specs.Families.{is_idle}
use Rattle.zy_isa.specs.Scenario.{IsScenario, Scenario, opening_rows}
use Rattle.zy_isa.specs.declared.choice.Choice.{Choice}
use Rattle.zy_isa.specs.declared.instr.Instr.{Instr}
use Rattle.zy_isa.specs.declared.node.Node.{Node}
use Rattle.zy_isa.specs.declared.node.Node.TheVariants.{A, B}
use Rattle.zy_isa.specs.declared.row.Row.{Row}
use Rattle.zy_table.specs.Change.{txn_at, txn_or}
use Rattle.zy_table.specs.Client.{is_active}
use Rattle.zy_table.specs.Database.{laid, newest, sent_leaves}
use Rattle.zy_table.specs.Holders.{ExclusiveAlone, HoldersActive, holds}
use Rattle.zy_table.specs.Play.{blank, move, opening, opening_leaves, play, side_of, step}
use Rattle.zy_table.specs.State.{NodeState, State, Txn, View, facing, other, seen_from}
use Rattle.zy_laws.proofs.walk.Events.{lows_after, step_happens}
use Rattle.zy_laws.proofs.places.Installing.{Placed, placed_append, placed_front}
use Rattle.zy_laws.proofs.locks.LockingSteps.{kept_event}
use Rattle.zy_laws.proofs.locks.Locking.{Kept, Locking, seen_same, untouched, whole}
use Rattle.zy_table.specs.Layout.{lows_of}
use Rattle.zy_laws.proofs.places.Opening.{LaidOut, laid_out}
use Rattle.zy_laws.proofs.owner.OneOwner.{opening_inv, step_inv}
use Rattle.zy_laws.proofs.order.ListsInOrder.{Tidy, opening_tidy, ordered_from, step_tidy}
use Rattle.zy_laws.proofs.walk.PlayPush.{play-keeps-with}
use Rattle.zy_laws.proofs.owner.Roles.{Inv, turned, turned_inv}
use Rattle.zy_laws.proofs.walk.Txns.{IsAt, blank_at}

-- all pages lie where they should from either side
turned_placed : (lows : List ℕ) (v : View) → Placed lows (whole v) → Placed lows (whole (turned v))
turned_placed lows v h =
    let a = placed_front lows v.me.pages (v.them.pages ++ (sent_leaves v.inbox ++ sent_leaves v.outbox)) h in
    let b = placed_front lows v.them.pages (sent_leaves v.inbox ++ sent_leaves v.outbox) a.1 in
    let c = placed_front lows (sent_leaves v.inbox) (sent_leaves v.outbox) b.1 in
    placed_append lows v.them.pages _ b.0 (placed_append lows v.me.pages _ a.0 (placed_append lows (sent_leaves v.outbox) (sent_leaves v.inbox) c.1 c.0))

-- what is kept from one side is kept from the other
pub turned_kept : (sc : Scenario) (n m : Node) (v : View) (lows : List ℕ) → other m ≡ n → other n ≡ m → Kept sc n v lows → Kept sc m (turned v) lows
turned_kept sc n m v lows back forth k = record {
  inv = turned_inv v k.inv;
  first = k.first;
  placed = turned_placed lows v k.placed;
  mine = untouched sc m v.them v (turned v) lows (subst (λ z. Locking sc z v.them v lows) forth k.theirs) (seen_same m v (turned v) refl);
  theirs = untouched sc (other m) v.me v (turned v) lows (subst (λ z. Locking sc z v.me v lows) (sym back) k.mine) (seen_same (other m) v (turned v) refl);
}

-- what is kept from A is kept from either node
pub kept_from : (sc : Scenario) (n : Node) (s : State) (lows : List ℕ) → Kept sc A (facing A s) lows → Kept sc n (facing n s) lows
kept_from sc A s lows k = k
kept_from sc B s lows k = turned_kept sc A B (facing A s) lows refl refl k

-- what is kept from either node is kept from A
kept_to : (sc : Scenario) (n : Node) (w : View) (lows : List ℕ) → Kept sc n w lows → Kept sc A (facing A (seen_from n w)) lows
kept_to sc A w lows k = k
kept_to sc B w lows k = turned_kept sc B A w lows refl refl k

-- roles and owners of a state are those of the view
pub inv_view : (n : Node) (w : View) → Inv (facing A (seen_from n w)) → Inv w
inv_view A w i = i
inv_view B w i = turned_inv (turned w) i

-- a state, with its newest low keys
pub record Reached (sc : Scenario) (s : State) : Type 0 where
  pub lows : List ℕ
  pub kept : Kept sc A (facing A s) lows

-- the newest low keys after a step
abbrev pub lows_then : Scenario → Choice → State → List ℕ → List ℕ
lows_then sc c s lows = lows_after sc (side_of sc c s) (facing (side_of sc c s) s) (move sc c (facing (side_of sc c s) s)).after lows
    (step_happens sc c s).event

-- a step keeps it
pub step_kept : (sc : Scenario) (c : Choice) (s : State) (lows : List ℕ) → 2 ≤ sc.cap → Tidy s → Kept sc A (facing A s) lows
    → Kept sc A (facing A (step sc c s).after) (lows_then sc c s lows)
unfolding step
step_kept sc c s lows two x k =
    let n = side_of sc c s in
    let v = facing n s in
    let w = (move sc c v).after in
    kept_to sc n w (lows_then sc c s lows) (kept_event sc n v w lows two (ordered_from n s x.ordered) (kept_from sc n s lows k)
    (inv_view n w (step_inv sc c s k.inv)) (step_happens sc c s).event)

-- the opening state
pub blank_new : (programs : List (List Instr)) (t : ℕ) → is_active (txn_or (slice_get (map blank programs) t)).status ≡ false
blank_new programs t = ap (λ (x : Txn). is_active x.status) (blank_at programs t)

-- the first opening page has low key 0
opening_first : (h : ℕ) (rows : List Row) → (more : List ℕ) × (lows_of (opening_leaves h rows) ≡ 0 ∷ more)
unfolding opening_leaves
opening_first h [] = ([], refl)
opening_first h (r ∷ rows) = (_, refl)

-- a node without locks, where nobody runs
opening_node : (sc : Scenario) (n : Node) (x : NodeState) (v : View) (lows : List ℕ) → ((t : ℕ) → IsAt v t n → ⊥) → x.locks ≡ []
    → (is_idle x.mode ≡ false → x.lows ≡ lows) → Locking sc n x v lows
opening_node sc n x v lows none free newest =
    let nobody : (p t : ℕ) → holds x.locks p t ≡ true → ⊥ = λ p t h. false≢true (subst (λ xs. holds xs p t ≡ true) free h) in
    record {
      busy = λ t at. absurd (none t at);
      newest = newest;
      runs = λ p t h. absurd (nobody p t h);
      below = λ p t h. absurd (nobody p t h);
      kept = λ p t s h. absurd (nobody p t h);
      apart = λ p t u a b. absurd (nobody p u b);
      private = λ t k at _. absurd (none t at);
    }

-- it holds at the opening
pub opening_reached : (sc : Scenario) → LaidOut sc → Reached sc (opening sc)
unfolding opening txn_at
opening_reached sc laid =
    let leaves = opening_leaves (opening_rows sc.cap) sc.rows in
    let lows = lows_of leaves in
    let v = facing A (opening sc) in
    let none : (n : Node) (t : ℕ) → IsAt v t n → ⊥ = λ n t at. false≢true (sym (blank_new sc.programs t) ∙ at.0) in
    record {
      lows = lows;
      kept = record {
        inv = opening_inv sc;
        first = opening_first (opening_rows sc.cap) sc.rows;
        placed = placed_append lows leaves [] laid tt;
        mine = opening_node sc A v.me v lows (none A) refl (λ _. refl);
        theirs = opening_node sc B v.them v lows (none B) refl (λ h. absurd (false≢true (sym h)));
      };
    }

-- it holds after every schedule
pub reached : (sc : Scenario) → IsScenario sc → (cs : List Choice) → Reached sc (play sc (opening sc) cs)
reached sc ok cs =
    play-keeps-with sc Tidy (Reached sc) (step_tidy sc) (λ c s x a. record {
      lows = lows_then sc c s a.lows;
      kept = step_kept sc c s a.lows ok.cap_least x a.kept;
    }) cs (opening sc) (opening_tidy sc ok) (opening_reached sc (laid_out sc ok))

-- who holds locks
pub exclusive_alone : (sc : Scenario) → IsScenario sc → (cs : List Choice) → ExclusiveAlone (play sc (opening sc) cs)
exclusive_alone sc ok cs n p t u a b =
    let s = play sc (opening sc) cs in
    let r = reached sc ok cs in
    (kept_from sc n s r.lows r.kept).mine.apart p t u a b

-- the law: who holds a lock is active at that node
pub holders_active : (sc : Scenario) → IsScenario sc → (cs : List Choice) → HoldersActive (play sc (opening sc) cs)
holders_active sc ok cs n p t h =
    let s = play sc (opening sc) cs in
    let r = reached sc ok cs in
    (kept_from sc n s r.lows r.kept).mine.runs p t h
