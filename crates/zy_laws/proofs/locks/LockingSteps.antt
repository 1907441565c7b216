-- Each step of the table keeps locks, private rows and the places of rows.
use Rattle.zy_model.specs.Families.{is_source, is_taker, is_idle}
use Rattle.zy_laws.proofs.walk.ModeLines.{sends_source}
use Rattle.std.proofs.Common.{List, [], ap, false, inl, inr, refl, subst, suc, sym, true, zero, ℕ, ◌+◌, ◌≤◌, ◌∙◌, ◌∷◌, ◌≡◌}
use Rattle.std.specs.Prelude.{None, Some, if◌then◌else◌, slice_get, ◌&&◌}
use Rattle.std.proofs.lemmas.Bool.{and_from, cond_both, false≢true, or_right}
use Rattle.zy_isa.specs.Scenario.{Scenario}
use Rattle.zy_isa.specs.declared.node.Node.{Node}
use Rattle.zy_isa.specs.declared.node.Node.TheVariants.{A, B}
use Rattle.zy_model.specs.Locks.{is_locked}
use Rattle.zy_model.specs.declared.lock.LockKind.TheVariants.{Exclusive, Shared}
use Rattle.zy_model.specs.declared.mode.NodeMode.{NodeMode}
use Rattle.zy_model.specs.declared.mode.NodeMode.TheVariants.{Empty, Normal, SInit, SDual, SFinish}
use Rattle.zy_model.specs.Messages.{Wire, Ready, Dual, Pull, Finish, Done}
use Rattle.zy_table.specs.Change.{asks, leaves, turns, txn_at, txn_or}
use Rattle.zy_table.specs.Client.{is_active}
use Rattle.zy_table.specs.Database.{sent_leaves}
use Rattle.zy_table.specs.Holders.{holds}
use Rattle.zy_table.specs.Pages.{owns, with_page}
use Rattle.zy_table.specs.Push.{active_from}
use Rattle.zy_table.specs.Run.{same_node}
use Rattle.zy_table.specs.State.{Leaf, Message, NodeState, Txn, View, other, post}
use Rattle.zy_table.specs.Take.{is_held}
use Rattle.zy_laws.proofs.locks.CutLocks.{cut_kept, split_new, split_on}
use Rattle.zy_laws.proofs.locks.Homes.{begun_event}
use Rattle.zy_laws.proofs.locks.TxnLocks.{aborted_kept, committed_kept, goes_kept, grown, lock_kept, sum_kept}
use Rattle.zy_table.proofs.PageLists.{owns-with_page}
use Rattle.zy_laws.proofs.walk.Events.{Event, lows_after, Rests, Begins, Aborts, SumsUp, Gets}
use Rattle.zy_laws.proofs.walk.Conditions.{arrived, rest, page}
use Rattle.zy_laws.proofs.walk.Events.{Writes, Inserts, Splits, Commits, Asks, Starts, GotWire, GotReady, GotDual, IsStale, Gives, GotPage, GotLast, GotFinish}
use Rattle.zy_laws.proofs.walk.Events.{GotAll, GotDone, Finishes, Pushes, GoesOn}
use Rattle.zy_laws.proofs.walk.Conditions.{is_at}
use Rattle.zy_laws.proofs.places.Installing.{Placed}
use Rattle.zy_table.proofs.LockLists.{locked_of}
use Rattle.zy_laws.proofs.locks.Locking.{Kept, Locking, Stay, idle_locking, nobody_runs, seen_same, steady, untouched, whole}
use Rattle.zy_laws.proofs.places.MovedPages.{arrived_placed, leaves_placed, whole_same}
use Rattle.zy_laws.proofs.owner.MovingPages.{owns-without_other, sent_bare}
use Rattle.zy_laws.proofs.order.Ordered.{Ordered}
use Rattle.zy_laws.proofs.order.Rising.{rows_at}
use Rattle.zy_laws.proofs.owner.PhaseSteps.{taker_of, wire_came}
use Rattle.zy_laws.proofs.owner.Roles.{Inv, Roles}
use Rattle.zy_laws.proofs.walk.Txns.{IsAt, Stands}

-- a source that turns to another source's mode keeps what it kept
still_source : (sc : Scenario) (m k : NodeMode) → is_source k ≡ true → Stay sc k → Stay sc m
still_source sc m k source (inl held) = inl held
still_source sc m k source (inr off) = absurd (false≢true (sym off ∙ source))

-- a page that is handed over is locked by nobody, where locked pages stay
pub give_free : (sc : Scenario) (v : View) (p : ℕ) → is_source v.me.mode ≡ true → (is_held sc.rule && is_locked v.me.locks p) ≡ false → Stay sc v.me.mode
    → (q t : ℕ) → holds v.me.locks q t ≡ true → q ≡ p → ⊥
give_free sc v p source free (inl held) q t h same =
    false≢true (sym free ∙ and_from _ _ held (subst (λ z. is_locked v.me.locks z ≡ true) same (locked_of v.me.locks q t h)))
give_free sc v p source free (inr off) q t h same = false≢true (sym off ∙ source)

-- a page that comes leaves the others
owns_more : (leaf : Leaf) (xs : List Leaf) (p : ℕ) → owns xs p ≡ true → owns (with_page leaf xs) p ≡ true
owns_more leaf xs p h = owns-with_page p leaf xs ∙ or_right _ _ h

-- the wireframe that comes is the source's
pub wire_front : (v : View) (lows : List ℕ) (ms : List Message) → v.inbox ≡ Wire lows ∷ ms → v.me.mode ≡ Empty → Roles v → (lows ≡ v.them.lows)
    × (v.them.mode ≡ SInit)
wire_front v lows ms e empty r = let came = wire_came (taker_of v r (ap is_taker empty)) e in (cc came.out, came.source)

-- a node is the same as itself
same_node-refl : (n : Node) → same_node n n ≡ true
same_node-refl A = refl
same_node-refl B = refl

-- no transaction runs at a node that finishes
active_none : (n : Node) (i : ℕ) (xs : List Txn) (t : ℕ) → active_from n i xs ≡ None → Stands (txn_or (slice_get xs t)) n → ⊥
active_none n i [] t e a = false≢true a.0
active_none n i (x ∷ xs) zero e a =
    let both : (is_active x.status && same_node x.node n) ≡ true = and_from _ _ a.0 (subst (λ m. same_node x.node m ≡ true) a.1 (same_node-refl x.node)) in
    absurd (let h : Some i ≡ None = sym (ap (λ b. if b then Some i else active_from n (i + 1) xs) both) ∙ e in cc)
active_none n i (x ∷ xs) (suc t) e a =
    cond_both (is_active x.status && same_node x.node n) (Some i) (active_from n (i + 1) xs) (λ o. o ≡ None → ⊥)
    (λ _ g. cc) (λ _ g. active_none n (i + 1) xs t g a) e

-- where none is active at n, nobody runs there
no_active : (n : Node) (v : View) (t : ℕ) → active_from n 0 v.txns ≡ None → IsAt v t n → ⊥
unfolding txn_at
no_active n v t e a = active_none n 0 v.txns t e a

-- a state seen from n, and its newest low keys
module _ (sc : Scenario) (n : Node) (v : View) (lows : List ℕ) (k : Kept sc n v lows) where
  -- a step that changes n's own node and its links keeps it
  node_kept : {x : NodeState} {inbox outbox : List Message} → let w : View = record v { me = x; inbox = inbox; outbox = outbox } in
      Placed lows (whole w) → Locking sc n x w lows → Inv w → Kept sc n w lows
  node_kept placed mine i = record {
    inv = i;
    first = k.first;
    placed = placed;
    mine = mine;
    theirs = untouched sc (other n) v.them v _ lows k.theirs (seen_same (other n) v _ refl);
  }

  -- where no page moves
  links_kept : {x : NodeState} {inbox outbox : List Message} → let w : View = record v { me = x; inbox = inbox; outbox = outbox } in
      x.pages ≡ v.me.pages → sent_leaves inbox ≡ sent_leaves v.inbox → sent_leaves outbox ≡ sent_leaves v.outbox → Locking sc n x w lows → Inv w
      → Kept sc n w lows
  links_kept {x = x} {inbox = is} {outbox = os} pages inbox outbox mine =
      node_kept (subst (Placed lows) (sym (whole_same v (record v { me = x; inbox = is; outbox = os }) pages refl inbox outbox)) k.placed) mine

  -- a node that turns to another mode in which transactions run, and loses no page
  turned_locking : {mode : NodeMode} {pages : List Leaf} {asked : List ℕ} {w : View} → is_idle v.me.mode ≡ false → is_idle mode ≡ false
      → ((p : ℕ) → owns v.me.pages p ≡ true → owns pages p ≡ true) → (Stay sc mode → Stay sc v.me.mode) → w.txns ≡ v.txns
      → Locking sc n (record v.me { mode = mode; pages = pages; asked = asked }) w lows
  turned_locking {w = w} runs still pages stay same =
      steady sc n v.me _ v w lows k.mine (seen_same n v w same) refl (λ t at. still) (λ _. k.mine.newest runs)
      (λ p t s h. pages p (k.mine.kept p t (stay s) h))

  -- a node that turns so, and no page moves
  turned_kept : {mode : NodeMode} {inbox outbox : List Message} → is_idle v.me.mode ≡ false → is_idle mode ≡ false → (Stay sc mode → Stay sc v.me.mode)
      → sent_leaves inbox ≡ sent_leaves v.inbox → sent_leaves outbox ≡ sent_leaves v.outbox
      → let w : View = record v { me = record v.me { mode = mode }; inbox = inbox; outbox = outbox } in Inv w → Kept sc n w lows
  turned_kept runs still stay inbox outbox = links_kept refl inbox outbox (turned_locking runs still (λ p h. h) stay refl)

  -- asking for a page keeps it
  asks_kept : (p : ℕ) → Inv (asks p v) → Kept sc n (asks p v) lows
  unfolding asks
  asks_kept p = links_kept refl refl (sent_bare v.outbox (Pull p) refl)
      (steady sc n v.me _ v _ lows k.mine (seen_same n v _ refl) refl k.mine.busy k.mine.newest k.mine.kept)

  -- a page that nobody has locked leaves, and perhaps the front of the inbox with it
  leaves_kept : (p : ℕ) (ms : List Message) → sent_leaves ms ≡ sent_leaves v.inbox → owns v.me.pages p ≡ true
      → (Stay sc v.me.mode → (q t : ℕ) → holds v.me.locks q t ≡ true → q ≡ p → ⊥) → Inv (leaves p (rest v ms)) → Kept sc n (leaves p (rest v ms)) lows
  unfolding leaves
  leaves_kept p ms inbox own free =
      let r = rest v ms in
      node_kept (leaves_placed lows r p (subst (Placed lows) (sym (whole_same v r refl refl inbox refl)) k.placed) own)
      (steady sc n v.me _ v _ lows k.mine (seen_same n v _ refl) refl k.mine.busy k.mine.newest
      (λ q t s h. owns-without_other p q v.me.pages (free s q t h) ∙ k.mine.kept q t s h))

-- what holds of the view that a line makes holds of an equal one
along : {sc : Scenario} {n : Node} {w x : View} {lows : List ℕ} → w ≡ x → Inv w → (Inv x → Kept sc n x lows) → Kept sc n w lows
along {sc = sc} {n = n} {lows = lows} e i f = subst (λ z. Kept sc n z lows) (sym e) (f (subst Inv e i))

-- each event keeps it
pub kept_event : (sc : Scenario) (n : Node) (v w : View) (lows : List ℕ) → 2 ≤ sc.cap → Ordered v → Kept sc n v lows → Inv w → (e : Event sc n v w)
    → Kept sc n w (lows_after sc n v w lows e)
kept_event sc n v w lows two o k i (Rests e) = along e i (λ _. k)
kept_event sc n v w lows two o k i (Begins line e) = along e i (begun_event sc n v lows line.txn line.home k line.at_a line.new line.home_is)
kept_event sc n v w lows two o k i (Aborts line e) = along e i (aborted_kept sc n v lows line.txn k (line.active, line.here) line.cause)
kept_event sc n v w lows two o k i (GoesOn line e) = along e i (goes_kept sc n v lows line.txn k (is_at line.runs) line.pc line.regs)
kept_event sc n v w lows two o k i (SumsUp line e) = along e i (sum_kept sc n v lows line.txn k (is_at line.runs) line.first line.last _ _ line.free)
kept_event sc n v w lows two o k i (Gets line e) = along e i (lock_kept sc n v lows line.txn k (is_at line.runs) line.key Shared _ _ _ line.free (λ j h. inl h))
kept_event sc n v w lows two o k i (Writes line e) =
    along e i (lock_kept sc n v lows line.txn k (is_at line.runs) line.key Exclusive _ _ _ line.free (grown line.key line.value (txn_at v line.txn).rows))
kept_event sc n v w lows two o k i (Inserts line e) =
    along e i (lock_kept sc n v lows line.txn k (is_at line.runs) line.key Exclusive _ _ _ line.free (grown line.key line.value (txn_at v line.txn).rows))
kept_event sc n v w lows two o k i (Splits line e) =
    let at : IsAt v line.txn n = (is_at line.runs) in
    let committed = rows_at (page line.key v) v.me.pages o.mine.rows in
    let fresh = split_new sc n v lows line.txn k at line.key two committed (o.private line.txn) line.absent line.full in
    along e i (cut_kept sc n v lows line.txn k at line.key _ line.free line.normal (split_on sc n v lows line.txn k at line.key line.full) fresh)
kept_event sc n v w lows two o k i (Commits line e) = along e i (committed_kept sc n v lows line.txn k (is_at line.runs))
kept_event sc n v w lows two o k i (Asks line e) = along e i (asks_kept sc n v lows k line.page)
kept_event sc n v w lows two o k i (Starts line e) =
    along e i (turned_kept sc n v lows k (ap is_idle line.normal) refl (λ _. inr (ap is_source line.normal)) refl (sent_bare v.outbox (Wire v.me.lows) refl))
kept_event sc n v w lows two o k i (GotWire line e) =
    let from = wire_front v line.lows line.after line.front line.empty k.inv.roles in
    along e i (links_kept sc n v lows k refl (ap sent_leaves (sym line.front)) (sent_bare v.outbox Ready refl)
    (steady sc n v.me _ v _ lows k.mine (seen_same n v _ refl) refl (λ t at. refl) (λ _. from.0 ∙ k.theirs.newest (ap is_idle from.1))
    (λ p t _ h. k.mine.kept p t (inr (ap is_source line.empty)) h)))
kept_event sc n v w lows two o k i (GotReady line e) =
    along e i (turned_kept sc n v lows k (ap is_idle line.mode) refl (still_source sc v.me.mode SDual refl) (ap sent_leaves (sym line.front))
    (sent_bare v.outbox Dual refl))
kept_event sc n v w lows two o k i (GotDual line e) =
    along e i (turned_kept sc n v lows k (ap is_idle line.mode) refl (λ _. inr (ap is_source line.mode)) (ap sent_leaves (sym line.front)) refl)
kept_event sc n v w lows two o k i (IsStale line e) =
    along e i (links_kept sc n v lows k refl (ap sent_leaves (sym line.front)) refl (untouched sc n v.me v _ lows k.mine (seen_same n v _ refl)))
kept_event sc n v w lows two o k i (Gives line e) =
    along e i (leaves_kept sc n v lows k line.page line.after (ap sent_leaves (sym line.front)) line.own
    (give_free sc v line.page (sends_source v.me.mode line.sends) line.free))
kept_event sc n v w lows two o k i (GotPage line e) =
    along e i (node_kept sc n v lows k (arrived_placed lows v line.leaf line.after line.front k.placed)
    (steady sc n v.me _ v _ lows k.mine (seen_same n v _ refl) refl k.mine.busy k.mine.newest
    (λ p t s h. owns_more line.leaf v.me.pages p (k.mine.kept p t s h))))
kept_event sc n v w lows two o k i (GotLast line e) =
    let x : View = arrived line.leaf (rest v line.after) in
    let pages = whole_same x (post Done (turns Normal x)) refl refl refl (sent_bare v.outbox Done refl) in
    along e i (node_kept sc n v lows k (subst (Placed lows) (sym pages) (arrived_placed lows v line.leaf line.after line.front k.placed))
    (turned_locking sc n v lows k (ap is_idle line.mode) refl (owns_more line.leaf v.me.pages) (λ _. inr (ap is_source line.mode)) refl))
kept_event sc n v w lows two o k i (GotFinish line e) =
    along e i (turned_kept sc n v lows k (ap is_idle line.mode) refl (λ _. inr (ap is_source line.mode)) (ap sent_leaves (sym line.front)) refl)
kept_event sc n v w lows two o k i (GotAll line e) =
    along e i (turned_kept sc n v lows k (ap is_idle line.mode) refl (λ _. inr (ap is_source line.mode)) (ap sent_leaves (sym line.front))
    (sent_bare v.outbox Done refl))
kept_event sc n v w lows two o k i (GotDone line e) =
    along e i (links_kept sc n v lows k refl (ap sent_leaves (sym line.front)) refl
    (idle_locking sc n v.me _ v _ lows lows k.mine (ap is_idle line.mode) refl refl refl))
kept_event sc n v w lows two o k i (Finishes line e) =
    along e i (links_kept sc n v lows k refl refl (sent_bare v.outbox Finish refl)
    (steady sc n v.me _ v _ lows k.mine (seen_same n v _ refl) refl (λ t at. absurd (no_active n v t line.idle at)) (λ h. absurd (false≢true (sym h)))
    (λ p t s h. k.mine.kept p t (still_source sc v.me.mode SFinish refl s) h)))
kept_event sc n v w lows two o k i (Pushes line e) =
    along e i (leaves_kept sc n v lows k line.page v.inbox refl line.own (λ s q t h same. nobody_runs sc n v.me v lows t k.mine (ap is_idle line.finish) (k.mine.runs q t h)))
