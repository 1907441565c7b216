-- Each step of the table keeps room on the pages.
use Rattle.zy_model.specs.Families.{is_source}
use Rattle.zy_model.specs.Table.{may_pull}
use Rattle.zy_laws.proofs.walk.ModeLines.{pulls_in}
use Rattle.std.proofs.Common.{false, ap, List, [], arith, inl, inr, length, refl, subst, sym, true, ℕ, ◌++◌, ◌+◌, ◌<◌, ◌∙◌, ◌∷◌, ◌≡◌, ◌≤◌}
use Rattle.std.specs.Prelude.{slice_set, ◌⊎◌}
use Rattle.std.proofs.lemmas.Bool.{cases_Bool, false≢true, ltb-true}
use Rattle.std.proofs.lemmas.Bool.Decides.{nat_tests}
use Rattle.zy_isa.specs.Rows.{Rising, put_row}
use Rattle.zy_isa.specs.Scenario.{Scenario}
use Rattle.zy_isa.specs.declared.node.Node.{Node}
use Rattle.zy_model.specs.declared.lock.LockKind.{LockKind}
use Rattle.zy_model.specs.declared.lock.LockKind.TheVariants.{Exclusive, Shared}
use Rattle.zy_table.specs.Change.{aborted, begun, committed, did, installed, leaves, locked, share_all, shares, turns, txn_at}
use Rattle.zy_table.specs.Client.{is_new}
use Rattle.zy_table.specs.Database.{sent_leaves}
use Rattle.zy_table.specs.Holders.{holds, holds_alone}
use Rattle.zy_model.specs.Messages.{Pull, Page, Done}
use Rattle.zy_model.specs.declared.mode.NodeMode.{NodeMode}
use Rattle.zy_model.specs.declared.mode.NodeMode.TheVariants.{Normal}
use Rattle.zy_laws.specs.OneOwner.{times}
use Rattle.zy_table.specs.Pages.{leaf_at, owns, rows_of, with_page, without}
use Rattle.zy_table.specs.Rows.{rows_on}
use Rattle.zy_table.specs.Run.{has_room, is_there}
use Rattle.zy_table.specs.declared.status.Status.TheVariants.{Aborted, Committed}
use Rattle.zy_table.specs.State.{Leaf, Lock, Message, Txn, View, post}
use Rattle.zy_model.specs.Wireframe.{page_of}
use Rattle.zy_table.specs.declared.outcome.Why.{Why}
use Rattle.zy_laws.proofs.room.CutFit.{cut_fit}
use Rattle.zy_laws.proofs.locks.CutLocks.{split_new, split_on}
use Rattle.zy_laws.proofs.room.EachPage.{Each, each_append, each_at, each_both, each_front, each_installed, each_map, each_with_page, each_without}
use Rattle.zy_laws.proofs.walk.Events.{Aborts, Begins, Commits, Event, Gets, Inserts, SumsUp, Writes, Splits}
use Rattle.zy_laws.proofs.walk.Events.{Gives, GotPage, GotLast, Pushes, lows_after}
use Rattle.zy_laws.proofs.walk.Conditions.{has_lock, page, puts, arrived}
use Rattle.zy_laws.proofs.walk.Events.{GoesOn}
use Rattle.zy_laws.proofs.walk.Conditions.{rest, is_at}
use Rattle.zy_laws.proofs.room.Fit.{Fit, Room, Sized, commit_room, fit_acts, fit_stays, put_room}
use Rattle.zy_table.proofs.LockLists.{exclusive_holds}
use Rattle.zy_laws.proofs.locks.Locking.{Kept}
use Rattle.zy_laws.proofs.places.MovedPages.{whole-front, whole-leaves}
use Rattle.zy_laws.proofs.owner.MovingPages.{sent_bare}
use Rattle.zy_laws.proofs.places.PageValues.{rest_of}
use Rattle.zy_model.proofs.Rows.{Rising-put_row}
use Rattle.zy_table.proofs.RisingRows.{rises_puts}
use Rattle.zy_laws.proofs.owner.Roles.{Owned}
use Rattle.zy_laws.proofs.owner.Roles.{not_here}
use Rattle.zy_laws.proofs.room.Room.{installed_length, need, need_is, need_none}
use Rattle.zy_model.specs.Locks.{add_lock}
use Rattle.zy_laws.proofs.walk.Txns.{IsAt, at_either, at_self, not_both_nodes, not_new}
use Rattle.zy_laws.proofs.walk.Kinds.{quiet_of, unmoved_of}

-- a transaction without private rows has room
empty_room : (cap : ℕ) (lows : List ℕ) (xs : List Leaf) → Each (Sized cap) xs → Each (Room cap lows []) xs
empty_room cap lows xs h = each_map (Sized cap) (Room cap lows []) xs (λ p rows s. let a = s.0 in omega arith) h

-- a page is at a node at most once
at_most : (v : View) → Owned v → (p : ℕ) → times p v.me.pages ≤ 1
at_most v o p = let k = o.once p in grind (arith, nat_tests, k)

-- a node that asks for pages hands none on
pub takes_in : (m : NodeMode) → may_pull m ≡ true → is_source m ≡ false
takes_in m pulls = elim (pulls_in m pulls) [ inl e ↦ ap is_source e | inr e ↦ ap is_source e ]

-- a state in which everybody has room, and a step of t, which runs at n
module _ (sc : Scenario) (n : Node) (v : View) (lows : List ℕ) (f : Fit sc n v lows) (t : ℕ) (at : IsAt v t n) where
  -- t goes on with the same private rows, or with one more on a page that it has locked
  goes_fit : (y : Txn) (locks : List Lock) → y.node ≡ (txn_at v t).node → Rising 0 y.rows → Each (Room sc.cap lows y.rows) v.me.pages
      → Fit sc n (record v { me = record v.me { locks = locks }; txns = slice_set v.txns t y }) lows
  goes_fit y locks node rises room =
      let w : View = record v { me = record v.me { locks = locks }; txns = slice_set v.txns t y } in
      fit_acts sc n v lows f t y (inl (at_self v w t y refl at.0)) rises f.sized (λ _. room)
      (λ s. absurd (not_both_nodes n y.node (node ∙ at.1) s.1)) (λ u far a h. h)

  -- a step of the program keeps room
  did_fit : (pc : ℕ) (regs : List ℕ) → Fit sc n (did t pc regs (txn_at v t).rows v) lows
  unfolding did
  did_fit pc regs = goes_fit _ v.me.locks refl (f.rising t) (f.mine t at)

  -- a step under a lock keeps room
  get_fit : (k pc : ℕ) (regs : List ℕ) (kind : LockKind) → Fit sc n (did t pc regs (txn_at v t).rows (has_lock t k kind v)) lows
  unfolding did locked txn_at
  get_fit k pc regs kind =
      let x = txn_at v t in
      goes_fit (record x { pc = pc; regs = regs; done = x.done + 1 }) (add_lock (page k v) t kind v.me.locks) refl (f.rising t) (f.mine t at)

  -- a step under locks on several pages keeps room
  sum_fit : (pc : ℕ) (regs ps : List ℕ) → Fit sc n (did t pc regs (txn_at v t).rows (shares t ps v)) lows
  unfolding did shares txn_at
  sum_fit pc regs ps =
      let x = txn_at v t in
      goes_fit (record x { pc = pc; regs = regs; done = x.done + 1 }) (share_all ps t v.me.locks) refl (f.rising t) (f.mine t at)

  -- a private row keeps room where its page had room for it
  put_fit : Kept sc n v lows → (key value : ℕ) → (is_there key (page key v) v.me (txn_at v t) ≡ true) ⊎ (has_room sc (page key v) v.me (txn_at v t) ≡ true)
      → Fit sc n (puts t key value v) lows
  unfolding did locked txn_at
  put_fit k key value room =
      let x = txn_at v t in
      let newest : v.me.lows ≡ lows = k.mine.newest (k.mine.busy t at) in
      let p = page key v in
      let rows = put_row key value x.rows in
      let here = rows_of v.me.pages p in
      let less_than_cap : (is_there key p v.me x ≡ true) ⊎ (length here + need v.me.lows p here x.rows < sc.cap) = elim room [
        | inl there ↦ inl there
        | inr less ↦ inr (let a = ltb-true _ _ less in let e = need_is v.me.lows p here x.rows in omega (arith, a, e))
      ] in
      goes_fit (record x { pc = x.pc + 1; rows = rows; done = x.done + 1 }) (add_lock p t Exclusive v.me.locks) refl
      (Rising-put_row 0 key value x.rows (f.rising t) (omega arith))
      (subst (λ l. Each (Room sc.cap l rows) v.me.pages) newest
      (put_room sc.cap v.me.lows x.rows key value v.me.pages (f.rising t) (at_most v k.inv.owned) less_than_cap
      (subst (λ l. Each (Room sc.cap l x.rows) v.me.pages) (sym newest) (f.mine t at))))

  -- an abort keeps room
  aborted_fit : (why : Why) → Fit sc n (aborted t why v) lows
  unfolding aborted
  aborted_fit why =
      let y : Txn = record (txn_at v t) { status = Aborted why; rows = [] } in
      fit_acts sc n v lows f t y (inl (at_self v (aborted t why v) t y refl at.0)) tt f.sized (λ s. absurd (false≢true s.0)) (λ s. absurd (false≢true s.0))
      (λ u far a h. h)

  -- commit: on a page where t has private rows nobody else has any
  committed_fit : Kept sc n v lows → Fit sc n (committed t v) lows
  unfolding committed
  committed_fit k =
      let x = txn_at v t in
      let y : Txn = record x { status = Committed; rows = []; done = x.done + 1 } in
      let w = committed t v in
      let newest : v.me.lows ≡ lows = k.mine.newest (k.mine.busy t at) in
      let a = each_front (Sized sc.cap) v.me.pages (rest_of v) f.sized in
      let sized : Each (Sized sc.cap) (installed lows x.rows v.me.pages) =
      each_installed (λ p rows. Sized sc.cap p rows × Room sc.cap lows x.rows p rows) (Sized sc.cap) lows x.rows v.me.pages
      (λ p rows s. let e = installed_length lows p x.rows rows s.0.1 in let r = s.1 in ((omega (arith, e, r)), rises_puts (rows_on lows p x.rows) rows s.0.1))
      (each_both (Sized sc.cap) (Room sc.cap lows x.rows) v.me.pages a.0 (f.mine t at)) in
      fit_acts sc n v lows f t y (inl (at_self v w t y refl at.0)) tt
      (subst (λ l. Each (Sized sc.cap) (installed l x.rows v.me.pages ++ rest_of v)) (sym newest)
      (each_append (Sized sc.cap) (installed lows x.rows v.me.pages) (rest_of v) sized a.1))
      (λ s. absurd (false≢true s.0)) (λ s. absurd (false≢true s.0))
      (λ u far b h. subst (λ l. Each (Room sc.cap lows (txn_at v u).rows) (installed l x.rows v.me.pages)) (sym newest)
      (each_installed (λ p rows. (Sized sc.cap p rows × Room sc.cap lows x.rows p rows) × Room sc.cap lows (txn_at v u).rows p rows)
      (Room sc.cap lows (txn_at v u).rows) lows x.rows v.me.pages
      (λ p rows s. commit_room sc.cap lows x.rows (txn_at v u).rows p rows s.0.0 s.0.1 s.1
      (elim (cases_Bool (holds_alone v.me.locks p t)) [
        | inl mine ↦ inr (λ j is on.
            let other = subst (λ z. holds v.me.locks z u ≡ true) on (exclusive_holds v.me.locks (page_of lows j) u (k.mine.private u j b is)) in
            far (sym (k.mine.apart p t u mine other)))
        | inr none ↦ inl (λ j is on. false≢true (sym none ∙ subst (λ z. holds_alone v.me.locks z t ≡ true) on (k.mine.private t j at is)))
      ]))
      (each_both (λ p rows. Sized sc.cap p rows × Room sc.cap lows x.rows p rows) (Room sc.cap lows (txn_at v u).rows) v.me.pages
      (each_both (Sized sc.cap) (Room sc.cap lows x.rows) v.me.pages a.0 (f.mine t at)) h)))

-- a state in which everybody has room
module _ (sc : Scenario) (n : Node) (v : View) (lows : List ℕ) (f : Fit sc n v lows) where
  -- a begin keeps room
  begun_fit : (t : ℕ) (h : Node) → is_new (txn_at v t).status ≡ true → Fit sc n (begun h t v) lows
  unfolding begun
  begun_fit t h new =
      let w = begun h t v in
      let a = each_front (Sized sc.cap) v.me.pages (rest_of v) f.sized in
      let b = each_front (Sized sc.cap) v.them.pages (sent_leaves v.inbox ++ sent_leaves v.outbox) a.1 in
      fit_acts sc n v lows f t _ (elim (at_either v w t _ refl) [ inl now ↦ inl now | inr old ↦ inr (old, not_new (txn_at v t).status new) ]) tt f.sized
      (λ _. empty_room sc.cap lows v.me.pages a.0) (λ _. empty_room sc.cap lows v.them.pages b.0) (λ u far x e. e)

  -- a page leaves
  leaves_fit : (p : ℕ) → owns v.me.pages p ≡ true → Fit sc n (leaves p v) lows
  unfolding leaves txn_at
  leaves_fit p own =
      let a = each_front (Sized sc.cap) v.me.pages (rest_of v) f.sized in
      let leaf = leaf_at v.me.pages p in
      record {
        sized =
            subst (Each (Sized sc.cap)) (sym (whole-leaves p v)) (each_append (Sized sc.cap) (without p v.me.pages) (rest_of v ++ leaf ∷ [])
            (each_without (Sized sc.cap) p v.me.pages a.0)
            (each_append (Sized sc.cap) (rest_of v) (leaf ∷ []) a.1 (each_at (Sized sc.cap) p v.me.pages own a.0, tt)));
        rising = f.rising;
        mine = λ t at. each_without (Room sc.cap lows (txn_at v t).rows) p v.me.pages (f.mine t at);
        theirs = f.theirs;
      }

  -- a page comes: no private row lies on it yet
  arrived_fit : (leaf : Leaf) (ms : List Message) → v.inbox ≡ Page leaf ∷ ms → is_source v.me.mode ≡ false
      → Kept sc n v lows → Fit sc n (arrived leaf (rest v ms)) lows
  unfolding txn_at
  arrived_fit leaf ms e takes k =
      let others = sent_leaves ms ++ sent_leaves v.outbox in
      let a = each_front (Sized sc.cap) v.me.pages (v.them.pages ++ (leaf ∷ others)) (subst (Each (Sized sc.cap)) (whole-front v leaf ms e) f.sized) in
      let b = each_front (Sized sc.cap) v.them.pages (leaf ∷ others) a.1 in
      record {
        sized = each_append (Sized sc.cap) (with_page leaf v.me.pages) (v.them.pages ++ others) (each_with_page (Sized sc.cap) leaf v.me.pages b.1.0 a.0)
            (each_append (Sized sc.cap) v.them.pages others b.0 b.1.1);
        rising = f.rising;
        mine = λ t at. each_with_page (Room sc.cap lows (txn_at v t).rows) leaf v.me.pages
            (let none = need_none lows leaf.number leaf.rows (txn_at v t).rows (λ j is on.
            let mine = exclusive_holds v.me.locks (page_of lows j) t (k.mine.private t j at is) in
            false≢true (sym (not_here v leaf ms k.inv.owned e) ∙ subst (λ z. owns v.me.pages z ≡ true) on (k.mine.kept (page_of lows j) t (inr takes) mine))) in
            let s = b.1.0.0 in omega (arith, none, s)) (f.mine t at);
        theirs = f.theirs;
      }

  -- the front of the inbox goes, and is no page
  rest_fit : (m : Message) (ms : List Message) → v.inbox ≡ m ∷ ms → sent_leaves ms ≡ sent_leaves (m ∷ ms) → Fit sc n (rest v ms) lows
  rest_fit m ms e bare =
      fit_stays sc n v lows f (rest v ms) refl (record { pages = refl; them = refl; inbox = bare ∙ ap sent_leaves (sym e); outbox = refl })

  -- a node turns to another mode, and sends a message that is no page
  turns_fit : (mode : NodeMode) (m : Message) → sent_leaves (m ∷ []) ≡ [] → Fit sc n (post m (turns mode v)) lows
  turns_fit mode m bare =
      fit_stays sc n v lows f (post m (turns mode v)) refl (record { pages = refl; them = refl; inbox = refl; outbox = sent_bare v.outbox m bare })

-- each event keeps room
pub fit_event : (sc : Scenario) (n : Node) (v w : View) (lows : List ℕ) → 2 ≤ sc.cap → Kept sc n v lows → Fit sc n v lows → (e : Event sc n v w)
    → Fit sc n w (lows_after sc n v w lows e)
fit_event sc n v w lows two k f (Begins line e) = rw e (begun_fit sc n v lows f line.txn line.home line.new)
fit_event sc n v w lows two k f (Aborts line e) = rw e (aborted_fit sc n v lows f line.txn (line.active, line.here) line.cause)
fit_event sc n v w lows two k f (GoesOn line e) = rw e (did_fit sc n v lows f line.txn (is_at line.runs) line.pc line.regs)
fit_event sc n v w lows two k f (Gets line e) = rw e (get_fit sc n v lows f line.txn (is_at line.runs) line.key _ _ Shared)
fit_event sc n v w lows two k f (SumsUp line e) = rw e (sum_fit sc n v lows f line.txn (is_at line.runs) _ _ _)
fit_event sc n v w lows two k f (Writes line e) = rw e (put_fit sc n v lows f line.txn (is_at line.runs) k line.key line.value (inl line.there))
fit_event sc n v w lows two k f (Inserts line e) = rw e (put_fit sc n v lows f line.txn (is_at line.runs) k line.key line.value (inr line.room))
fit_event sc n v w lows two k f (Splits line e) =
    let at : IsAt v line.txn n = (is_at line.runs) in
    let front = (each_front (Sized sc.cap) v.me.pages (rest_of v) f.sized).0 in
    let committed = (each_at (Sized sc.cap) (page line.key v) v.me.pages line.free.here front).1 in
    let fresh = split_new sc n v lows line.txn k at line.key two committed (f.rising line.txn) line.absent line.full in
    rw e (cut_fit sc n v lows line.txn line.key _ k f at line.free line.normal (split_on sc n v lows line.txn k at line.key line.full) fresh)
fit_event sc n v w lows two k f (Commits line e) = rw e (committed_fit sc n v lows f line.txn (is_at line.runs) k)
fit_event sc n v w lows two k f (Gives line e) =
    rw e (leaves_fit sc n (rest v line.after) lows (rest_fit sc n v lows f (Pull line.page) line.after line.front refl) line.page line.own)
fit_event sc n v w lows two k f (GotPage line e) = rw e (arrived_fit sc n v lows f line.leaf line.after line.front (takes_in v.me.mode line.pulls) k)
fit_event sc n v w lows two k f (GotLast line e) =
    rw e (turns_fit sc n _ lows (arrived_fit sc n v lows f line.leaf line.after line.front (ap is_source line.mode) k) Normal Done refl)
fit_event sc n v w lows two k f (Pushes line e) = rw e (leaves_fit sc n v lows f line.page line.own)
fit_event sc n v w lows two k f e = fit_stays sc n v lows f w (quiet_of e refl).txns (unmoved_of e refl)
