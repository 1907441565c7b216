-- Whoever runs finds room at its commit, after every schedule.
use Rattle.std.proofs.Common.{List, [], arith, length, refl, subst, suc, sym, zero, ℕ, ◌++◌, ◌+◌, ◌∙◌, ◌∷◌, ◌≡◌, ◌≤◌}
use Rattle.std.specs.Prelude.{drop, take}
use Rattle.std.proofs.lemmas.Bool.{false≢true}
use Rattle.zy_isa.specs.Rows.{Rising}
use Rattle.zy_isa.specs.Scenario.{IsScenario, Scenario, opening_rows}
use Rattle.zy_isa.specs.declared.choice.Choice.{Choice}
use Rattle.zy_isa.specs.declared.node.Node.{Node}
use Rattle.zy_isa.specs.declared.node.Node.TheVariants.{A, B}
use Rattle.zy_isa.specs.declared.row.Row.{Row}
use Rattle.zy_table.specs.Change.{txn_at}
use Rattle.zy_laws.specs.Counts.{HasRoomAtCommit}
use Rattle.zy_table.specs.Database.{sent_leaves}
use Rattle.zy_table.specs.Pages.{rows_of}
use Rattle.zy_table.specs.Play.{move, opening, opening_leaves, opening_pages, play, side_of, step}
use Rattle.zy_table.specs.State.{State, Txn, View, facing, other, seen_from}
use Rattle.zy_laws.proofs.room.EachPage.{Each, each_append, each_at, each_front}
use Rattle.zy_laws.proofs.walk.Events.{step_happens}
use Rattle.zy_laws.proofs.room.FitSteps.{fit_event}
use Rattle.zy_laws.proofs.room.Fit.{Fit, Room, Sized}
use Rattle.zy_laws.proofs.locks.Locking.{Kept}
use Rattle.zy_laws.proofs.places.Opening.{laid_out}
use Rattle.zy_laws.proofs.order.ListsInOrder.{Tidy, opening_tidy, step_tidy}
use Rattle.zy_laws.proofs.walk.PlayPush.{play-keeps-with}
use Rattle.zy_laws.proofs.locks.Reached.{blank_new, kept_from, lows_then, opening_reached, step_kept}
use Rattle.zy_table.proofs.RisingRows.{rises_drop, rises_take}
use Rattle.zy_laws.proofs.owner.Roles.{turned}
use Rattle.zy_laws.proofs.room.Room.{need_is}
use Rattle.zy_laws.proofs.walk.Txns.{IsAt, blank_at}

-- from either side
turned_fit : (sc : Scenario) (n m : Node) (v : View) (lows : List ℕ) → other m ≡ n → other n ≡ m → Fit sc n v lows → Fit sc m (turned v) lows
unfolding txn_at
turned_fit sc n m v lows back forth f =
    let a = each_front (Sized sc.cap) v.me.pages (v.them.pages ++ (sent_leaves v.inbox ++ sent_leaves v.outbox)) f.sized in
    let b = each_front (Sized sc.cap) v.them.pages (sent_leaves v.inbox ++ sent_leaves v.outbox) a.1 in
    let c = each_front (Sized sc.cap) (sent_leaves v.inbox) (sent_leaves v.outbox) b.1 in
    record {
      sized = each_append (Sized sc.cap) v.them.pages (v.me.pages ++ (sent_leaves v.outbox ++ sent_leaves v.inbox)) b.0
          (each_append (Sized sc.cap) v.me.pages (sent_leaves v.outbox ++ sent_leaves v.inbox) a.0
          (each_append (Sized sc.cap) (sent_leaves v.outbox) (sent_leaves v.inbox) c.1 c.0));
      rising = f.rising;
      mine = λ t at. f.theirs t (subst (λ z. IsAt v t z) (sym forth) at);
      theirs = λ t at. f.mine t (subst (λ z. IsAt v t z) back at);
    }

-- room from A is room from either node
fit_from : (sc : Scenario) (n : Node) (s : State) (lows : List ℕ) → Fit sc A (facing A s) lows → Fit sc n (facing n s) lows
fit_from sc A s lows f = f
fit_from sc B s lows f = turned_fit sc A B (facing A s) lows refl refl f

-- room from either node is room from A
fit_to : (sc : Scenario) (n : Node) (w : View) (lows : List ℕ) → Fit sc n w lows → Fit sc A (facing A (seen_from n w)) lows
fit_to sc A w lows f = f
fit_to sc B w lows f = turned_fit sc B A w lows refl refl f

-- a state with its newest low keys, in which each page has room
record Filled (sc : Scenario) (s : State) : Type 0 where
  lows : List ℕ
  kept : Kept sc A (facing A s) lows
  fit : Fit sc A (facing A s) lows

-- a step keeps room
step_fit : (sc : Scenario) → 2 ≤ sc.cap → (c : Choice) (s : State) → Tidy s → Filled sc s → Filled sc (step sc c s).after
unfolding step
step_fit sc two c s x a =
    let n = side_of sc c s in
    let v = facing n s in
    let w = (move sc c v).after in
    let before = kept_from sc n s a.lows a.kept in
    record {
      lows = lows_then sc c s a.lows;
      kept = step_kept sc c s a.lows two x a.kept;
      fit = fit_to sc n w (lows_then sc c s a.lows) (fit_event sc n v w a.lows two before (fit_from sc n s a.lows a.fit) (step_happens sc c s).event);
    }

-- the first h rows are at most h
take_most : (h : ℕ) (rows : List Row) → length (take h rows) ≤ h
take_most zero rows = omega arith
take_most (suc h) [] = omega arith
take_most (suc h) (r ∷ rows) = let k = take_most h rows in omega arith

-- each page cut from rows is sized
sized_pages : (cap fuel h i : ℕ) (rows : List Row) → h ≤ cap → Rising 0 rows → Each (Sized cap) (opening_pages fuel h i rows)
sized_pages cap zero h i rows le r = tt
sized_pages cap (suc fuel) h i [] le r = tt
sized_pages cap (suc fuel) h i (x ∷ rows) le r = (
  ((let k = take_most h (x ∷ rows) in omega arith), rises_take 0 h (x ∷ rows) r),
  sized_pages cap fuel h (i + 1) (drop h (x ∷ rows)) le (rises_drop 0 h (x ∷ rows) r),
)

-- each opening page is sized
sized_opening : (cap h : ℕ) (rows : List Row) → h ≤ cap → Rising 0 rows → Each (Sized cap) (opening_leaves h rows)
unfolding opening_leaves
sized_opening cap h [] le r = (((omega arith), tt), tt)
sized_opening cap h (x ∷ rows) le r = sized_pages cap (length (x ∷ rows)) h 0 (x ∷ rows) le r

-- the opening state has room
opening_fit : (sc : Scenario) → IsScenario sc → Filled sc (opening sc)
unfolding opening txn_at
opening_fit sc l =
    let a = opening_reached sc (laid_out sc l) in
    let none : (t : ℕ) (n : Node) → IsAt (facing A (opening sc)) t n → ⊥ = λ t n at. false≢true (sym (blank_new sc.programs t) ∙ at.0) in
    let leaves = opening_leaves (opening_rows sc.cap) sc.rows in
    let cap = l.cap_least in
    record {
      lows = a.lows;
      kept = a.kept;
      fit = record {
        sized = each_append (Sized sc.cap) leaves [] (sized_opening sc.cap (opening_rows sc.cap) sc.rows (omega arith) l.rows_rise) tt;
        rising = λ t. subst (λ (x : Txn). Rising 0 x.rows) (sym (blank_at sc.programs t)) tt;
        mine = λ t at. absurd (none t A at);
        theirs = λ t at. absurd (none t B at);
      };
    }

-- the law: who runs finds room at its commit
pub fits : (sc : Scenario) → IsScenario sc → (cs : List Choice) → HasRoomAtCommit sc (play sc (opening sc) cs)
fits sc l cs n t p at own =
    let s = play sc (opening sc) cs in
    let a = play-keeps-with sc Tidy (Filled sc) (step_tidy sc) (step_fit sc l.cap_least) cs (opening sc) (opening_tidy sc l) (opening_fit sc l) in
    let f = fit_from sc n s a.lows a.fit in
    let k = kept_from sc n s a.lows a.kept in
    let v = facing n s in
    let newest : v.me.lows ≡ a.lows = k.mine.newest (k.mine.busy t at) in
    let room = subst (λ l. Room sc.cap l (txn_at v t).rows p (rows_of v.me.pages p)) (sym newest)
    (each_at (Room sc.cap a.lows (txn_at v t).rows) p v.me.pages own (f.mine t at)) in
    let e = need_is v.me.lows p (rows_of v.me.pages p) (txn_at v t).rows in
    omega (arith, e, room)
