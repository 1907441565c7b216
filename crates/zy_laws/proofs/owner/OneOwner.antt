-- Each step keeps roles and owners, and so does every schedule.
use Rattle.std.proofs.Common.{List, [], ap, arith, length, refl, suc, zero, ℕ, ◌+◌, ◌∷◌, ◌≡◌}
use Rattle.std.specs.Prelude.{drop, if◌then◌else◌, map, max, nat_lt}
use Rattle.std.proofs.lemmas.Bool.{false≢true}
use Rattle.std.proofs.lemmas.Bool.Decides.{nat_tests}
use Rattle.std.proofs.lemmas.List.{length-map}
use Rattle.zy_model.specs.Families.{is_sending}
use Rattle.zy_isa.specs.Scenario.{Scenario, opening_rows}
use Rattle.zy_isa.specs.declared.choice.Choice.{Choice}
use Rattle.zy_isa.specs.declared.node.Node.{Node}
use Rattle.zy_isa.specs.declared.node.Node.TheVariants.{A, B}
use Rattle.zy_isa.specs.declared.row.Row.{Row}
use Rattle.zy_model.specs.declared.lock.LockKind.TheVariants.{Exclusive}
use Rattle.zy_model.specs.declared.mode.NodeMode.TheVariants.{DFinish}
use Rattle.zy_model.specs.Table.{may_pull}
use Rattle.zy_table.specs.Change.{aborted, begun, committed, did, installed, locked, shares, turns, txn_at}
use Rattle.zy_laws.specs.OneOwner.{OneOwner, times}
use Rattle.zy_table.specs.Play.{move, opening, opening_leaves, opening_pages, play, side_of, step}
use Rattle.zy_table.specs.Run.{boundary}
use Rattle.zy_table.specs.State.{Leaf, State, View, facing, seen_from}
use Rattle.zy_laws.proofs.walk.Events.{Asks, Commits, Event, Finishes, Gives, GotAll, GotDone, GotDual, GotFinish, GotLast, GotPage}
use Rattle.zy_laws.proofs.walk.Events.{GotReady, GotWire, IsStale, Pushes, Splits, Starts, step_happens}
use Rattle.zy_laws.proofs.walk.Conditions.{arrived, has_lock, page, rest}
use Rattle.zy_laws.proofs.owner.PageCounts.{times-all_leaves, times-installed}
use Rattle.zy_laws.proofs.owner.Phases.{Is, Resting}
use Rattle.zy_laws.proofs.walk.PlayPush.{play-keeps}
use Rattle.zy_laws.proofs.owner.Roles.{Inv, Source, turned_inv}
use Rattle.zy_laws.proofs.walk.Kinds.{in_place_of}
use Rattle.zy_laws.proofs.owner.SameOwners.{locks_inv, shape_inv}
use Rattle.zy_laws.proofs.owner.PageOwners.{arrived_inv, cut_inv, leaves_inv}
use Rattle.zy_laws.proofs.owner.LinkOwners.{all_inv, asks_inv, done_inv, dual_inv, finish_inv, finishes_inv, pulled_inv, ready_inv, starts_inv, wire_inv}

-- each event keeps roles and owners
pub inv_event : (sc : Scenario) (n : Node) (v w : View) → Inv v → Event sc n v w → Inv w
unfolding did locked shares txn_at aborted begun committed
inv_event sc n v w i (Splits line e) =
    let locked = locks_inv v (has_lock line.txn line.key Exclusive v) (refl, refl, refl) refl refl refl i in
    let low = boundary sc line.key (page line.key v) v.me (txn_at v line.txn) in
    rw e (cut_inv line.txn (page line.key v) low (has_lock line.txn line.key Exclusive v) line.normal locked)
inv_event sc n v w i (Commits line e) = rw e (shape_inv v _ (record {
  mode = refl;
  lows = refl;
  counts = λ p. times-installed p v.me.lows (txn_at v line.txn).rows v.me.pages;
  none = λ h. ap (installed v.me.lows (txn_at v line.txn).rows) h;
}) refl refl refl i)
inv_event sc n v w i (Asks line e) = rw e (asks_inv v i line.page line.pulls)
inv_event sc n v w i (Starts line e) = rw e (starts_inv v i line.normal line.empty)
inv_event sc n v w i (GotWire line e) = rw e (wire_inv v i line.lows line.after line.front line.empty)
inv_event sc n v w i (GotReady line e) = rw e (ready_inv v i line.after line.front line.mode)
inv_event sc n v w i (GotDual line e) = rw e (dual_inv v i line.after line.front line.mode)
inv_event sc n v w i (IsStale line e) = rw e (pulled_inv v i line.page line.after line.front)
inv_event sc n v w i (Gives line e) = rw e (leaves_inv line.page (rest v line.after) (pulled_inv v i line.page line.after line.front) line.sends line.own)
inv_event sc n v w i (GotPage line e) = rw e (arrived_inv v line.leaf line.after i line.front line.pulls)
inv_event sc n v w i (GotLast line e) =
    rw e (all_inv (arrived line.leaf (rest v line.after)) (arrived_inv v line.leaf line.after i line.front (ap may_pull line.mode)) line.mode line.all)
inv_event sc n v w i (GotFinish line e) = rw e (finish_inv v i line.after line.front line.mode)
inv_event sc n v w i (GotAll line e) = rw e (all_inv (turns DFinish (rest v line.after)) (finish_inv v i line.after line.front line.mode) refl line.all)
inv_event sc n v w i (GotDone line e) = rw e (done_inv v i line.after line.front line.mode)
inv_event sc n v w i (Finishes line e) = rw e (finishes_inv v i line.dual)
inv_event sc n v w i (Pushes line e) = rw e (leaves_inv line.page v i (ap is_sending line.finish) line.own)
inv_event sc n v w i e = let k = in_place_of e refl in locks_inv v w (k.mode, k.lows, k.pages) k.them k.inbox k.outbox i

-- what holds from A's side holds from each
pub inv_from : (n : Node) (s : State) → Inv (facing A s) → Inv (facing n s)
inv_from A s i = i
inv_from B s i = turned_inv (facing A s) i

-- roles and owners from either node are those from A
inv_to : (n : Node) (w : View) → Inv w → Inv (facing A (seen_from n w))
inv_to A w i = i
inv_to B w i = turned_inv w i

-- a step keeps roles and owners
pub step_inv : (sc : Scenario) (c : Choice) (s : State) → Inv (facing A s) → Inv (facing A (step sc c s).after)
unfolding step
step_inv sc c s i =
    let n = side_of sc c s in
    let v = facing n s in
    let w = (move sc c v).after in
    inv_to n w (inv_event sc n v w (inv_from n s i) (step_happens sc c s).event)

-- the opening pages are numbered in order
times-opening : (fuel h i p : ℕ) (rows : List Row)
    → times p (opening_pages fuel h i rows) ≡ (if nat_lt p i then 0 else (if nat_lt p (i + length (opening_pages fuel h i rows)) then 1 else 0))
times-opening zero h i p rows = grind (arith, nat_tests)
times-opening (suc fuel) h i p [] = grind (arith, nat_tests)
times-opening (suc fuel) h i p (r ∷ rows) =
    let e = times-opening fuel h (i + 1) p (drop h (r ∷ rows)) in
    grind (arith, nat_tests, e)

-- each opening page is there once
times-leaves : (h p : ℕ) (rows : List Row) → times p (opening_leaves h rows) ≡ (if nat_lt p (length (opening_leaves h rows)) then 1 else 0)
unfolding opening_leaves
times-leaves h p [] = grind (arith, nat_tests)
times-leaves h p (r ∷ rows) = let e = times-opening (length (r ∷ rows)) h 0 p (r ∷ rows) in grind (arith, nat_tests, e)

-- where each page of a list is there once, each place is one owner's
opening_owned : (xs : List Leaf) → ((p : ℕ) → times p xs ≡ (if nat_lt p (length xs) then 1 else 0)) → (p : ℕ)
    → (times p xs + 0) + (0 + 0) ≡ (if nat_lt p (max (length (map (λ (x : Leaf). x.low) xs)) 0) then 1 else 0)
opening_owned xs each p = let long = length-map xs (λ (x : Leaf). x.low) in let e = each p in grind (arith, nat_tests, long, e)

-- roles and owners at the opening
pub opening_inv : (sc : Scenario) → Inv (facing A (opening sc))
unfolding opening
opening_inv sc = record {
  roles = Source (Is Resting (record { source = refl; destination = refl; lows = refl; out = refl; back = refl }));
  owned = record { once = opening_owned (opening_leaves (opening_rows sc.cap) sc.rows) (λ p. times-leaves (opening_rows sc.cap) p sc.rows) };
  mine = record { none = λ h. absurd (false≢true h) };
  theirs = record { none = λ _. refl };
}

-- roles and owners after every schedule
pub play_inv : (sc : Scenario) (cs : List Choice) → Inv (facing A (play sc (opening sc) cs))
play_inv sc cs = play-keeps sc (λ s. Inv (facing A s)) (step_inv sc) cs (opening sc) (opening_inv sc)

-- the law: each page is in one place
pub one_owner : (sc : Scenario) (cs : List Choice) → OneOwner (play sc (opening sc) cs)
one_owner sc cs =
    let i = play_inv sc cs in
    λ p. let k = i.owned.once p in let all = times-all_leaves p (play sc (opening sc) cs) in omega (arith, k, all)
