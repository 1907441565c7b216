-- Every list is in its order: a step of a transaction keeps it, and so does a message that is no page.
use Rattle.std.proofs.Common.{List, ap, arith, false, inl, inr, length, refl, subst, sym, ℕ, ◌+◌, ◌∙◌, ◌≡◌}
use Rattle.std.specs.Prelude.{max, slice_set}
use Rattle.std.proofs.lemmas.Bool.{cases_eq}
use Rattle.zy_isa.specs.Rows.{Rising}
use Rattle.zy_isa.specs.declared.node.Node.{Node}
use Rattle.zy_isa.specs.declared.row.Row.{Row}
use Rattle.zy_model.proofs.Rising.{rise_add, rise_drop}
use Rattle.zy_model.specs.Order.{LocksRise}
use Rattle.zy_model.specs.Locks.{add_lock}
use Rattle.zy_model.specs.declared.lock.LockKind.{LockKind}
use Rattle.zy_model.specs.declared.lock.LockKind.TheVariants.{Exclusive}
use Rattle.zy_table.specs.Change.{aborted, asks, begun, committed, did, locked, share_all, shares, txn_at}
use Rattle.zy_table.specs.Database.{sent_leaves}
use Rattle.zy_table.specs.Order.{NodeInOrder, NumbersRise, RowsRise}
use Rattle.zy_table.specs.State.{Lock, Message, NodeState, Txn, View}
use Rattle.zy_table.specs.declared.entry.CommitRecord.{CommitRecord}
use Rattle.zy_table.specs.declared.outcome.Why.{Why}
use Rattle.zy_laws.proofs.walk.Conditions.{has_lock, page, puts}
use Rattle.zy_model.proofs.Rows.{Rising-put_row}
use Rattle.zy_table.proofs.RisingNumbers.{rises_put}
use Rattle.zy_laws.proofs.order.Rising.{numbers-installed, length-installed, rows_rise-installed, rise_share}
use Rattle.zy_laws.proofs.owner.Roles.{width}
use Rattle.zy_laws.proofs.owner.MovingPages.{sent_bare}
use Rattle.zy_model.specs.Messages.{Pull}
use Rattle.zy_table.specs.Numbers.{has}
use Rattle.zy_model.specs.Wireframe.{page_of}
use Rattle.zy_model.specs.declared.mode.NodeMode.{NodeMode}
use Rattle.zy_laws.proofs.walk.Txns.{at_either, at_other}

-- how many pages there are
abbrev pages_in : View → ℕ
pages_in v = (length v.me.pages + length v.them.pages) + (length (sent_leaves v.inbox) + length (sent_leaves v.outbox))

-- both nodes are in order, the rows on their way and the private rows rise, and there is a page for each low key
pub record Ordered (v : View) : Type 0 where
  pub mine : NodeInOrder v.me
  pub theirs : NodeInOrder v.them
  pub inbox : RowsRise (sent_leaves v.inbox)
  pub outbox : RowsRise (sent_leaves v.outbox)
  pub private : (t : ℕ) → Rising 0 (txn_at v t).rows
  pub lows : pages_in v ≡ width v

-- the same node with other locks
locks_ordered : (x : NodeState) (locks : List Lock) → NodeInOrder x → LocksRise locks → NodeInOrder (record x { locks = locks })
locks_ordered x locks o rise = record { pages = o.pages; rows = o.rows; asked = o.asked; locks = rise }

-- a step of transaction t, from a view that is in order
module _ (t : ℕ) (v : View) (o : Ordered v) where
  -- one that sets t, and changes locks or rows of its own node
  acts_ordered : (y : Txn) (x : NodeState) (commits : List CommitRecord) → Rising 0 y.rows → NodeInOrder x → length x.pages ≡ length v.me.pages
      → x.lows ≡ v.me.lows → Ordered (record v { txns = slice_set v.txns t y; me = x; commits = commits })
  acts_ordered y x commits rises me pages lows =
      let w : View = record v { txns = slice_set v.txns t y; me = x; commits = commits } in
      record {
        mine = me;
        theirs = o.theirs;
        inbox = o.inbox;
        outbox = o.outbox;
        private = λ u. elim (cases_eq u t) [
          | inl here ↦ elim (at_either v w t y refl) [
            | inl now ↦ subst (λ (z : Txn). Rising 0 z.rows) (sym (ap (txn_at w) here ∙ now)) rises
            | inr old ↦ subst (λ (z : Txn). Rising 0 z.rows) (sym (ap (txn_at w) here ∙ old)) (o.private t)
          ]
          | inr far ↦ subst (λ (z : Txn). Rising 0 z.rows) (sym (at_other v w t u y refl far)) (o.private u)
        ];
        lows = rw (pages, lows) o.lows;
      }

  -- t does an instruction that needs no page
  pub goes_ordered : (pc : ℕ) (regs : List ℕ) → Ordered (did t pc regs (txn_at v t).rows v)
  unfolding did
  goes_ordered pc regs = acts_ordered _ v.me v.commits (o.private t) o.mine refl refl

  -- t does one with other locks
  held_ordered : (pc : ℕ) (regs : List ℕ) (rows : List Row) (locks : List Lock) → Rising 0 rows → LocksRise locks
      → Ordered (did t pc regs rows (record v { me = record v.me { locks = locks } }))
  unfolding did txn_at
  held_ordered pc regs rows locks rises rise =
      acts_ordered (record (txn_at v t) { pc = pc; regs = regs; rows = rows; done = (txn_at v t).done + 1 }) (record v.me { locks = locks }) v.commits rises
      (locks_ordered v.me locks o.mine rise) refl refl

  -- an access under a lock keeps the order
  pub lock_ordered : (p pc : ℕ) (kind : LockKind) (regs : List ℕ) (rows : List Row) → Rising 0 rows → Ordered (did t pc regs rows (locked t p kind v))
  unfolding locked
  lock_ordered p pc kind regs rows rises = held_ordered pc regs rows (add_lock p t kind v.me.locks) rises (rise_add p t kind v.me.locks o.mine.locks)

  -- and a sum under shared locks
  pub sum_ordered : (pc : ℕ) (regs ps : List ℕ) → Ordered (did t pc regs (txn_at v t).rows (shares t ps v))
  unfolding shares
  sum_ordered pc regs ps =
      held_ordered pc regs (txn_at v t).rows (share_all ps t v.me.locks) (o.private t) (rise_share ps t v.me.locks o.mine.locks)

  -- a private row keeps the order
  pub puts_ordered : (key value : ℕ) → Ordered (puts t key value v)
  puts_ordered key value = lock_ordered (page key v) _ Exclusive _ _ (Rising-put_row 0 key value (txn_at v t).rows (o.private t) (omega arith))

  -- an abort keeps the order
  pub ended_ordered : (why : Why) → Ordered (aborted t why v)
  unfolding aborted
  ended_ordered why = acts_ordered _ _ v.commits tt (locks_ordered v.me _ o.mine (rise_drop t v.me.locks o.mine.locks)) refl refl

  -- a begin keeps the order
  pub begun_ordered : (n : Node) → Ordered (begun n t v)
  unfolding begun
  begun_ordered n = acts_ordered _ v.me v.commits tt o.mine refl refl

  -- a commit keeps the order
  pub committed_ordered : Ordered (committed t v)
  unfolding committed
  committed_ordered =
      let rows = (txn_at v t).rows in
      acts_ordered _ _ _ tt (record {
        pages = subst (NumbersRise 0) (sym (numbers-installed v.me.lows rows v.me.pages)) o.mine.pages;
        rows = rows_rise-installed v.me.lows rows v.me.pages o.mine.rows;
        asked = o.mine.asked;
        locks = rise_drop t v.me.locks o.mine.locks;
      }) (length-installed v.me.lows rows v.me.pages) refl

-- a step from a view that is in order, which moves no page
module _ (v : View) (o : Ordered v) where
  -- a step that changes a node, and no page there or on a link
  links_ordered : {x : NodeState} {inbox outbox : List Message} → NodeInOrder x → length x.pages ≡ length v.me.pages
      → sent_leaves inbox ≡ sent_leaves v.inbox → sent_leaves outbox ≡ sent_leaves v.outbox → max (length x.lows) (length v.them.lows) ≡ width v
      → Ordered (record v { me = x; inbox = inbox; outbox = outbox })
  unfolding txn_at
  links_ordered me pages inbox outbox wide = record {
    mine = me;
    theirs = o.theirs;
    inbox = subst RowsRise (sym inbox) o.inbox;
    outbox = subst RowsRise (sym outbox) o.outbox;
    private = o.private;
    lows = let a = ap length inbox in let b = ap length outbox in let k = o.lows in omega (arith, pages, a, b, wide, k);
  }

  -- the same, and of its own node the mode or the low keys alone change
  pub kept_ordered : {mode : NodeMode} {lows : List ℕ} {inbox outbox : List Message} → sent_leaves inbox ≡ sent_leaves v.inbox
      → sent_leaves outbox ≡ sent_leaves v.outbox → max (length lows) (length v.them.lows) ≡ width v
      → Ordered (record v { me = record v.me { mode = mode; lows = lows }; inbox = inbox; outbox = outbox })
  kept_ordered inbox outbox wide =
      let me = o.mine in links_ordered (record { pages = me.pages; rows = me.rows; asked = me.asked; locks = me.locks }) refl inbox outbox wide

  -- a lock keeps the order
  pub has_lock_ordered : (t k : ℕ) (kind : LockKind) → Ordered (has_lock t k kind v)
  unfolding locked
  has_lock_ordered t k kind =
      links_ordered (locks_ordered v.me _ o.mine (rise_add (page_of v.me.lows k) t kind v.me.locks o.mine.locks)) refl refl refl refl

  -- asking for a page keeps the order
  pub asks_ordered : (p : ℕ) → has v.me.asked p ≡ false → Ordered (asks p v)
  unfolding asks
  asks_ordered p new = links_ordered (record {
    pages = o.mine.pages;
    rows = o.mine.rows;
    asked = rises_put 0 p v.me.asked (omega arith) new o.mine.asked;
    locks = o.mine.locks;
  }) refl refl (sent_bare v.outbox (Pull p) refl) refl
