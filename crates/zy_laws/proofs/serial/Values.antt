-- A row that adds no commit changes no value of the database.
use Rattle.std.proofs.Common.{List, [], ap, arith, length, refl, sym, ℕ, ◌++◌, ◌∙◌, ◌∷◌, ◌≡◌, false, inl, inr, subst, true, Option}
use Rattle.std.proofs.lemmas.List.{length-append}
use Rattle.zy_isa.specs.Scenario.{Scenario, IsScenario}
use Rattle.zy_isa.specs.declared.node.Node.{Node}
use Rattle.zy_model.specs.declared.lock.LockKind.TheVariants.{Exclusive}
use Rattle.zy_model.specs.Messages.{Done}
use Rattle.zy_model.specs.declared.mode.NodeMode.TheVariants.{Normal}
use Rattle.zy_table.specs.Change.{aborted, asks, begun, did, leaves, locked, shares, turns, txn_at}
use Rattle.zy_table.specs.Database.{sent_leaves, database}
use Rattle.zy_table.specs.Run.{boundary}
use Rattle.zy_table.specs.State.{View, post, Leaf, NodeState, State, facing, seen_from}
use Rattle.zy_table.specs.declared.entry.CommitRecord.{CommitRecord}
use Rattle.zy_laws.proofs.serial.Committing.{committed_list}
use Rattle.zy_laws.proofs.serial.CutValues.{cut_db}
use Rattle.zy_laws.proofs.walk.Events.{Commits, Event, Gives, GotLast, GotPage}
use Rattle.zy_laws.proofs.walk.Events.{Pushes, Splits, step_happens}
use Rattle.zy_laws.proofs.walk.Conditions.{arrived, has_lock, page, rest}
use Rattle.zy_laws.proofs.locks.Locking.{Kept, whole}
use Rattle.zy_laws.proofs.serial.MovedValues.{arrived_db, leaves_db, same_db}
use Rattle.zy_laws.proofs.owner.MovingPages.{sent_bare}
use Rattle.zy_laws.proofs.places.PageValues.{db}
use Rattle.std.specs.Prelude.{None, ◌⊎◌}
use Rattle.std.specs.FinMap.{nat_cmp-IsAntisymmetric, same_map}
use Rattle.std.proofs.lemmas.Bool.{cases_Bool}
use Rattle.std.proofs.lemmas.Bool.Decides.{nat_tests}
use Rattle.std.proofs.lemmas.Cmp.{nat_cmp_total}
use Rattle.zy_isa.specs.declared.choice.Choice.{Choice}
use Rattle.zy_isa.specs.declared.node.Node.TheVariants.{A, B}
use Rattle.zy_table.specs.Pages.{owns}
use Rattle.zy_table.specs.Play.{move, opening, play, side_of, step}
use Rattle.zy_model.specs.Wireframe.{page_of}
use Rattle.zy_laws.proofs.places.Installing.{Placed, found, found-append, get-leaves, not_found, or_else_none, placed_front}
use Rattle.zy_laws.proofs.serial.LoneRuns.{or_else}
use Rattle.zy_laws.proofs.owner.PageCounts.{owns-times, owns_none, times-sent_leaves}
use Rattle.zy_laws.proofs.walk.PlayPush.{play-push}
use Rattle.zy_laws.proofs.locks.Reached.{Reached, kept_from, reached}
use Rattle.zy_laws.proofs.owner.Roles.{Owned, turned}
use Rattle.zy_laws.proofs.walk.Kinds.{unmoved_of}

-- a list with one more is another list
no_longer : (cs : List CommitRecord) (c : CommitRecord) → cs ++ c ∷ [] ≡ cs → ⊥
no_longer cs c h =
    let a = length-append cs (c ∷ []) in
    let b : length (cs ++ c ∷ []) ≡ length cs = ap length h in
    omega (arith, a, b)

-- an event that commits nothing changes no value of the database
pub event_db : (sc : Scenario) (n : Node) (v w : View) (lows : List ℕ) → Kept sc n v lows → Event sc n v w → w.commits ≡ v.commits → db w ≡ db v
unfolding begun aborted did locked shares asks leaves
event_db sc n v w lows k (Splits line e) c =
    let b = boundary sc line.key (page line.key v) v.me (txn_at v line.txn) in
    ap db e ∙ cut_db lows (has_lock line.txn line.key Exclusive v) line.txn (page line.key v) b k.placed (record { once = k.inv.owned.once }) line.free.here
event_db sc n v w lows k (Commits line e) c = absurd (no_longer v.commits _ (sym (committed_list line.txn v) ∙ sym (ap (λ (x : View). x.commits) e) ∙ c))
event_db sc n v w lows k (Gives line e) c = ap db e ∙ leaves_db lows v line.page line.after k.placed k.inv.owned (ap sent_leaves (sym line.front)) line.own
event_db sc n v w lows k (GotPage line e) c = ap db e ∙ arrived_db lows v line.leaf line.after line.front k.placed k.inv.owned
event_db sc n v w lows k (GotLast line e) c =
    let x = arrived line.leaf (rest v line.after) in
    ap db e ∙ same_db x (post Done (turns Normal x)) refl refl refl (sent_bare v.outbox Done refl)
    ∙ arrived_db lows v line.leaf line.after line.front k.placed k.inv.owned
event_db sc n v w lows k (Pushes line e) c = ap db e ∙ leaves_db lows v line.page v.inbox k.placed k.inv.owned refl line.own
event_db sc n v w lows k e c = let q = unmoved_of e refl in same_db v w q.pages (ap (λ (x : NodeState). x.pages) q.them) q.inbox q.outbox

-- values may change places where one of two is none
swap_values : (m t i o : Option ℕ) → (m ≡ None) ⊎ (t ≡ None) → (i ≡ None) ⊎ (o ≡ None)
    → or_else t (or_else m (or_else o i)) ≡ or_else m (or_else t (or_else i o))
swap_values m t i o (inl a) (inl b) = rw (a, b) (ap (or_else t) (or_else_none o))
swap_values m t i o (inl a) (inr b) = rw (a, b) (ap (or_else t) (sym (or_else_none i)))
swap_values m t i o (inr a) (inl b) = rw (a, b) (ap (or_else m) (or_else_none o))
swap_values m t i o (inr a) (inr b) = rw (a, b) (ap (or_else m) (sym (or_else_none i)))

-- which of two lists of pages lacks a key, where only one can have its page
lacks : (lows : List ℕ) (xs ys : List Leaf) (k : ℕ) → Placed lows xs → Placed lows ys
    → (owns xs (page_of lows k) ≡ true → owns ys (page_of lows k) ≡ false) → (found xs k ≡ None) ⊎ (found ys k ≡ None)
lacks lows xs ys k hx hy apart =
    elim (cases_Bool (owns xs (page_of lows k))) [ inl h ↦ inr (not_found lows ys k hy (apart h)) | inr h ↦ inl (not_found lows xs k hx h) ]

-- what the database has is seen alike from both nodes
pub turned_db : (lows : List ℕ) (v : View) → Placed lows (whole v) → Owned v → db (turned v) ≡ db v
turned_db lows v h o =
    let i = sent_leaves v.inbox in
    let s = sent_leaves v.outbox in
    let a = placed_front lows v.me.pages (v.them.pages ++ (i ++ s)) h in
    let b = placed_front lows v.them.pages (i ++ s) a.1 in
    let c = placed_front lows i s b.1 in
    same_map nat_cmp_total nat_cmp-IsAntisymmetric _ _ (λ k.
    let p = page_of lows k in
    let once = o.once p in
    let x = times-sent_leaves p v.inbox in
    let y = times-sent_leaves p v.outbox in
    let nodes = lacks lows v.me.pages v.them.pages k a.0 b.0 (λ own. let one = owns-times p v.me.pages own in
    owns_none p v.them.pages (grind (arith, nat_tests, once, one))) in
    let links = lacks lows i s k c.0 c.1 (λ own. let one = owns-times p i own in owns_none p s (grind (arith, nat_tests, once, one, x, y))) in
    let after : found (whole (turned v)) k ≡ or_else (found v.them.pages k) (or_else (found v.me.pages k) (or_else (found s k) (found i k))) =
    found-append v.them.pages (v.me.pages ++ (s ++ i)) k ∙ ap (or_else (found v.them.pages k))
    (found-append v.me.pages (s ++ i) k ∙ ap (or_else (found v.me.pages k)) (found-append s i k)) in
    let before : found (whole v) k ≡ or_else (found v.me.pages k) (or_else (found v.them.pages k) (or_else (found i k) (found s k))) =
    found-append v.me.pages (v.them.pages ++ (i ++ s)) k ∙ ap (or_else (found v.me.pages k))
    (found-append v.them.pages (i ++ s) k ∙ ap (or_else (found v.them.pages k)) (found-append i s k)) in
    get-leaves (whole (turned v)) k ∙ after ∙ swap_values (found v.me.pages k) (found v.them.pages k) (found i k) (found s k) nodes links ∙ sym before
    ∙ sym (get-leaves (whole v) k))

-- the database is the same from either node
from_node : (n : Node) (s : State) (lows : List ℕ) → Placed lows (whole (facing A s)) → Owned (facing A s) → db (facing n s) ≡ db (facing A s)
from_node A s lows placed o = refl
from_node B s lows placed o = turned_db lows (facing A s) placed o

-- the view of a state is the view that made it
pub back_to : (n : Node) (w : View) → facing n (seen_from n w) ≡ w
back_to A w = refl
back_to B w = refl

-- the commit list is the same from either node
pub commits_from : (n : Node) (s : State) → (facing n s).commits ≡ s.commits
commits_from A s = refl
commits_from B s = refl

-- a step that commits nothing
pub commits_alone : (sc : Scenario) → IsScenario sc → (cs : List Choice) (c : Choice) → let s = play sc (opening sc) cs in
    (step sc c s).after.commits ≡ s.commits → database (step sc c s).after ≡ database s
unfolding step database
commits_alone sc ok cs c same =
    let s = play sc (opening sc) cs in
    let n = side_of sc c s in
    let v = facing n s in
    let w = (move sc c v).after in
    let before = reached sc ok cs in
    let after = subst (Reached sc) (play-push sc (opening sc) cs c) (reached sc ok (cs ++ c ∷ [])) in
    let commits : w.commits ≡ v.commits = sym (ap (λ (x : View). x.commits) (back_to n w)) ∙ commits_from n (seen_from n w) ∙ same ∙ sym (commits_from n s) in
    sym (from_node n (seen_from n w) after.lows after.kept.placed after.kept.inv.owned) ∙ ap db (back_to n w)
    ∙ event_db sc n v w before.lows (kept_from sc n s before.lows before.kept) (step_happens sc c s).event commits
    ∙ from_node n s before.lows before.kept.placed before.kept.inv.owned
