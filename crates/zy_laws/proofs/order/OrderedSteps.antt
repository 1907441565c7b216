-- Each step of the table leaves every list in its order.
use Rattle.std.proofs.Common.{List, [], ap, arith, false, true, length, length-append, refl, subst, suc, sym, ℕ, ◌∙◌, ◌∷◌, ◌≡◌}
use Rattle.zy_isa.specs.Scenario.{Scenario}
use Rattle.zy_isa.specs.declared.node.Node.{Node}
use Rattle.zy_model.proofs.Rising.{rise_add}
use Rattle.zy_model.specs.declared.lock.LockKind.TheVariants.{Exclusive, Shared}
use Rattle.zy_table.specs.Change.{cut, leaves, locked, txn_at}
use Rattle.zy_table.specs.Database.{sent_leaves}
use Rattle.zy_table.specs.Order.{NumbersRise, RowsRise}
use Rattle.zy_table.specs.State.{Leaf, Message, View}
use Rattle.zy_laws.proofs.walk.Events.{Aborts, Asks, Begins, Commits, Event, Finishes, Gets, Gives, GotAll, GotDone, GotDual, GotFinish, GotLast, GotPage}
use Rattle.zy_laws.proofs.walk.Events.{GoesOn, GotReady, GotWire, Inserts, IsStale, Pushes, Rests, SumsUp, Splits, Starts, Writes}
use Rattle.zy_laws.proofs.walk.Conditions.{arrived, has_lock, page, rest}
use Rattle.zy_table.proofs.RisingNumbers.{rises_drop}
use Rattle.zy_laws.proofs.order.Rising.{numbers-lowered, rises_from, rows_at}
use Rattle.zy_laws.proofs.order.Rising.{rows_rise-lowered, rows_rise-with_page, numbers-without, rows_rise-without, rows_rise-last, length-without}
use Rattle.zy_laws.proofs.owner.Roles.{Inv, Owned, fresh_number, normal_other, not_here}
use Rattle.zy_laws.proofs.owner.LinkOwners.{done_wide, pulled_inv, wire_wide}
use Rattle.zy_laws.proofs.owner.SameOwners.{has_lock_inv}
use Rattle.zy_laws.proofs.owner.MovingPages.{sent_leaves-append, sent_bare}
use Rattle.zy_laws.proofs.owner.PageCounts.{owns-times}
use Rattle.zy_model.specs.Messages.{Wire, Ready, Dual, Page, Finish, Done}
use Rattle.zy_laws.specs.OneOwner.{times}
use Rattle.std.proofs.lemmas.Bool.Decides.{nat_tests}
use Rattle.zy_table.proofs.PageLists.{owns-lowered}
use Rattle.zy_model.specs.Leaf.{rows_from}
use Rattle.zy_model.specs.Table.{may_split}
use Rattle.zy_table.specs.Pages.{leaf_at, lowered, owns, rows_of}
use Rattle.zy_table.specs.Run.{boundary}
use Rattle.zy_table.proofs.PageLists.{length-with_page, length-lowered, numbers-with_page}
use Rattle.zy_laws.proofs.order.Ordered.{Ordered, asks_ordered, begun_ordered, committed_ordered, ended_ordered, goes_ordered, has_lock_ordered}
use Rattle.zy_laws.proofs.order.Ordered.{kept_ordered, lock_ordered, puts_ordered, sum_ordered}

-- a split keeps the order
cut_ordered : (t p b : ℕ) (v : View) → Ordered v → Inv v → may_split v.me.mode ≡ true → Ordered (cut t p b v)
unfolding cut txn_at
cut_ordered t p b v o i normal =
    let q = length v.me.lows in
    let leaf : Leaf = record { number = q; low = b; rows = rows_from b (rows_of v.me.pages p) } in
    let wide = (normal_other v i.roles normal).1 in
    let new : owns v.me.pages q ≡ false = fresh_number v i.owned wide in
    record {
      mine = record {
        pages = numbers-with_page 0 leaf (lowered p b v.me.pages) (omega arith) (owns-lowered p b v.me.pages q ∙ new)
            (subst (NumbersRise 0) (sym (numbers-lowered p b v.me.pages)) o.mine.pages);
        rows = rows_rise-with_page leaf (lowered p b v.me.pages) (rises_from 0 b (rows_of v.me.pages p) (rows_at p v.me.pages o.mine.rows))
            (rows_rise-lowered p b v.me.pages o.mine.rows);
        asked = o.mine.asked;
        locks = rise_add q t Exclusive v.me.locks o.mine.locks;
      };
      theirs = o.theirs;
      inbox = o.inbox;
      outbox = o.outbox;
      private = o.private;
      lows =
          let k = o.lows in
          let long = length-append v.me.lows (b ∷ []) in
          let more = length-with_page leaf (lowered p b v.me.pages) in
          let same = length-lowered p b v.me.pages in
          omega (arith, k, long, more, same, wide);
    }

-- a page that leaves keeps the order
leaves_ordered : (p : ℕ) (v : View) → Owned v → Ordered v → owns v.me.pages p ≡ true → Ordered (leaves p v)
unfolding leaves txn_at
leaves_ordered p v owned o own =
    let leaf = leaf_at v.me.pages p in
    let sent = sent_leaves-append v.outbox (Page leaf ∷ []) in
    record {
      mine = record {
        pages = numbers-without 0 p v.me.pages o.mine.pages;
        rows = rows_rise-without p v.me.pages o.mine.rows;
        asked = o.mine.asked;
        locks = o.mine.locks;
      };
      theirs = o.theirs;
      inbox = o.inbox;
      outbox = subst RowsRise (sym sent) (rows_rise-last leaf (sent_leaves v.outbox) (rows_at p v.me.pages o.mine.rows) o.outbox);
      private = o.private;
      lows =
          let k = o.lows in
          let once = owned.once p in
          let here = owns-times p v.me.pages own in
          let one : times p v.me.pages ≡ 1 = grind (arith, nat_tests, once, here) in
          let less = length-without p v.me.pages in
          let more = ap length sent ∙ length-append (sent_leaves v.outbox) (leaf ∷ []) in
          omega (arith, k, one, less, more);
    }

-- a page that arrives keeps the order
arrived_ordered : (v : View) (leaf : Leaf) (ms : List Message) → Owned v → Ordered v → v.inbox ≡ Page leaf ∷ ms → Ordered (arrived leaf (rest v ms))
unfolding txn_at
arrived_ordered v leaf ms owned o f =
    let came : RowsRise (leaf ∷ sent_leaves ms) = subst (λ xs. RowsRise (sent_leaves xs)) f o.inbox in
    record {
      mine = record {
        pages = numbers-with_page 0 leaf v.me.pages (omega arith) (not_here v leaf ms owned f) o.mine.pages;
        rows = rows_rise-with_page leaf v.me.pages came.0 o.mine.rows;
        asked = rises_drop 0 leaf.number v.me.asked o.mine.asked;
        locks = o.mine.locks;
      };
      theirs = o.theirs;
      inbox = came.1;
      outbox = o.outbox;
      private = o.private;
      lows =
          let k = o.lows in
          let more = length-with_page leaf v.me.pages in
          let less : length (sent_leaves v.inbox) ≡ suc (length (sent_leaves ms)) = ap (λ xs. length (sent_leaves xs)) f in
          omega (arith, k, more, less);
    }

-- each event keeps the order
pub ordered_event : (sc : Scenario) (n : Node) (v w : View) → Inv v → Ordered v → Event sc n v w → Ordered w
unfolding locked
ordered_event sc n v w i o (Rests e) = rw e o
ordered_event sc n v w i o (Begins line e) = rw e (begun_ordered line.txn v o line.home)
ordered_event sc n v w i o (Aborts line e) = rw e (ended_ordered line.txn v o line.cause)
ordered_event sc n v w i o (GoesOn line e) = rw e (goes_ordered line.txn v o line.pc line.regs)
ordered_event sc n v w i o (Gets line e) = rw e (lock_ordered line.txn v o _ _ Shared _ _ (o.private line.txn))
ordered_event sc n v w i o (SumsUp line e) = rw e (sum_ordered line.txn v o _ _ _)
ordered_event sc n v w i o (Writes line e) = rw e (puts_ordered line.txn v o line.key line.value)
ordered_event sc n v w i o (Inserts line e) = rw e (puts_ordered line.txn v o line.key line.value)
ordered_event sc n v w i o (Splits line e) =
    let x = has_lock line.txn line.key Exclusive v in
    let b = boundary sc line.key (page line.key v) v.me (txn_at v line.txn) in
    rw e (cut_ordered line.txn (page line.key v) b x (has_lock_ordered v o line.txn line.key Exclusive)
    (has_lock_inv line.txn line.key Exclusive v i) line.normal)
ordered_event sc n v w i o (Commits line e) = rw e (committed_ordered line.txn v o)
ordered_event sc n v w i o (Asks line e) = rw e (asks_ordered v o line.page line.unasked)
ordered_event sc n v w i o (Starts line e) = rw e (kept_ordered v o refl (sent_bare v.outbox (Wire v.me.lows) refl) refl)
ordered_event sc n v w i o (GotWire line e) =
    rw e (kept_ordered v o (ap sent_leaves (sym line.front)) (sent_bare v.outbox Ready refl) (wire_wide v i line.lows line.after line.front line.empty))
ordered_event sc n v w i o (GotReady line e) = rw e (kept_ordered v o (ap sent_leaves (sym line.front)) (sent_bare v.outbox Dual refl) refl)
ordered_event sc n v w i o (GotDual line e) = rw e (kept_ordered v o (ap sent_leaves (sym line.front)) refl refl)
ordered_event sc n v w i o (IsStale line e) = rw e (kept_ordered v o (ap sent_leaves (sym line.front)) refl refl)
ordered_event sc n v w i o (Gives line e) =
    let x = rest v line.after in
    let pulled = pulled_inv v i line.page line.after line.front in
    rw e (leaves_ordered line.page x pulled.owned (kept_ordered v o (ap sent_leaves (sym line.front)) refl refl) line.own)
ordered_event sc n v w i o (GotPage line e) = rw e (arrived_ordered v line.leaf line.after i.owned o line.front)
ordered_event sc n v w i o (GotLast line e) =
    let x = arrived line.leaf (rest v line.after) in
    rw e (kept_ordered x (arrived_ordered v line.leaf line.after i.owned o line.front) refl (sent_bare v.outbox Done refl) refl)
ordered_event sc n v w i o (GotFinish line e) = rw e (kept_ordered v o (ap sent_leaves (sym line.front)) refl refl)
ordered_event sc n v w i o (GotAll line e) = rw e (kept_ordered v o (ap sent_leaves (sym line.front)) (sent_bare v.outbox Done refl) refl)
ordered_event sc n v w i o (GotDone line e) = rw e (kept_ordered v o (ap sent_leaves (sym line.front)) refl (done_wide v i line.after line.front line.mode))
ordered_event sc n v w i o (Finishes line e) = rw e (kept_ordered v o refl (sent_bare v.outbox Finish refl) refl)
ordered_event sc n v w i o (Pushes line e) = rw e (leaves_ordered line.page v i.owned o line.own)
