-- States that are alike step alike.
use Rattle.std.proofs.Common.{◌≡◌, ◌∙◌, ℕ, ◌+◌, List, [], ◌∷◌, ◌++◌, length, map, set, slice_get, slice_set, true, false, not, nat_lt, nat_le, ◌&&◌, Bool, Option, Some}
use Rattle.std.proofs.Common.{None, refl, sym, ap, cond}
use Rattle.std.proofs.lemmas.Bool.{cond_both, cond-true, cond-false}
use Rattle.std.proofs.lemmas.List.{map-set}
use Rattle.zy_isa.specs.declared.node.Node.{Node}
use Rattle.zy_isa.specs.declared.node.Node.TheVariants.{A, B}
use Rattle.zy_isa.specs.declared.row.Row.{Row}
use Rattle.zy_isa.specs.declared.instr.Reg.{Reg}
use Rattle.zy_isa.specs.declared.instr.Instr.{Instr}
use Rattle.zy_isa.specs.declared.choice.Choice.{Choice}
use Rattle.zy_isa.specs.declared.choice.Choice.TheVariants.{Start, Begin, Kill, Run, Take, Finish as Finish_at, Push}
use Rattle.zy_isa.specs.Limits.{max_key}
use Rattle.zy_isa.specs.Scenario.{Scenario}
use Rattle.zy_model.specs.declared.lock.LockKind.{LockKind}
use Rattle.zy_model.specs.Locks.{conflict, is_locked}
use Rattle.zy_model.specs.declared.kind.Kind.{Kind}
use Rattle.zy_model.specs.declared.kind.Kind.TheVariants as kind
use Rattle.zy_model.specs.Messages.{Message, Wire, Ready, Dual, Pull, Page, Finish, Done}
use Rattle.zy_model.specs.declared.table.MessageLine.{MessageLine}
use Rattle.zy_model.specs.declared.table.MessageLine.TheVariants.{Stray, Turns}
use Rattle.zy_model.specs.declared.table.FinishLine.{FinishLine}
use Rattle.zy_model.specs.declared.table.FinishLine.TheVariants as fin
use Rattle.zy_model.specs.declared.mode.NodeMode.TheVariants.{SInit, SFinish}
use Rattle.zy_model.specs.Table.{may_start, may_split, may_pull, may_push, is_waiting}
use Rattle.zy_table.specs.declared.access.Access.{Access}
use Rattle.zy_table.specs.declared.access.Access.TheVariants.{Reads, Writes, Inserts}
use Rattle.zy_table.specs.declared.outcome.Why.{Why}
use Rattle.zy_table.specs.declared.outcome.Why.TheVariants as why
use Rattle.zy_table.specs.declared.outcome.Outcome.{Outcome}
use Rattle.zy_table.specs.declared.outcome.Outcome.TheVariants as outcome
use Rattle.zy_table.specs.declared.effect.Effect.{Effect}
use Rattle.zy_table.specs.declared.effect.Effect.TheVariants.{Sets, Jumps, Accesses, Sums, Commits, Aborts}
use Rattle.zy_table.specs.Effects.{effect_of}
use Rattle.zy_table.specs.Numbers.{has}
use Rattle.zy_table.specs.Pages.{owns}
use Rattle.zy_table.specs.Ranges.{range_pages}
use Rattle.zy_table.specs.declared.status.Status.TheVariants.{Active, Committed, Aborted}
use Rattle.zy_table.specs.State.{State, View, Txn, Move, Step, facing, with_me, post, as_step}
use Rattle.zy_table.specs.Change.{quiet, sends, txn_at, txn_or, nobody, with_txn, unlocked, with_installed, did, begun, aborted, committed, locked, shares, asks, cut, cut_page}
use Rattle.zy_table.specs.Change.{leaves, turns}
use Rattle.zy_table.specs.Client.{is_new, is_active, start_step, begin_at, begin_step, kill_step}
use Rattle.zy_table.specs.Push.{active_from, finish_if, finish_step, push_if, push_step}
use Rattle.zy_table.specs.Run.{same_node, abort_step, set_step, jump_step, commit_or_gone, commit_step, absent_step, read_step, is_there, write_step, has_room}
use Rattle.zy_table.specs.Run.{boundary, split_step, full_step, insert_step, lock_of, access_step, page_step, key_step, sum_step, sum_or_waits, sum_or_asks, range_step}
use Rattle.zy_table.specs.Run.{effect_step, instr_step, run_step}
use Rattle.zy_table.specs.Take.{is_held, arrival_step, pull_step, message_step, front_step, take_step}
use Rattle.zy_table.specs.Play.{move, side_of, step, play}
use Rattle.zy_steps.specs.declared.part.StatePart.{StatePart}
use Rattle.zy_steps.specs.declared.part.StatePart.TheVariants.{Whole, Live}
use Rattle.zy_steps.specs.Alike.{live_txn, part_of, Alike}
use Rattle.zy_steps.proofs.LiveLemmas.{live_status, live_at}

-- ---- transactions

-- all of one that is active is live
pub live_active : (x : Txn) → is_active x.status ≡ true → live_txn x ≡ x
live_active x e = cond-true (is_active x.status) x _ e

-- what is live of what is live is the same
live_twice : (x : Txn) → live_txn (live_txn x) ≡ live_txn x
live_twice x =
    cond_both (is_active x.status) x _ (λ (y : Txn). live_txn y ≡ live_txn x)
    (λ _. refl)
    (λ e. cond-false (is_active x.status) (record nobody { status = x.status; rows = x.rows }) _ e ∙ sym (cond-false (is_active x.status) x _ e))

-- of all of them
all_twice : (xs : List Txn) → map live_txn (map live_txn xs) ≡ map live_txn xs
all_twice [] = refl
all_twice (x ∷ xs) =
    ap (λ (y : Txn). y ∷ map live_txn (map live_txn xs)) (live_twice x) ∙ ap (λ (ys : List Txn). live_txn x ∷ ys) (all_twice xs)

-- where one is set
set_same : (xs : List Txn) (t : ℕ) (x : Txn) → map live_txn (slice_set (map live_txn xs) t x) ≡ map live_txn (slice_set xs t x)
set_same xs t x =
    map-set live_txn (map live_txn xs) t x ∙ (ap (λ (ys : List Txn). set ys t (live_txn x)) (all_twice xs) ∙ sym (map-set live_txn xs t x))

-- ---- what a node sees

-- what is live of it
abbrev seen : View → View
seen v = record v { txns = map live_txn v.txns }

-- what is live of a move
abbrev told : Move → Move
told m = record m { after = seen m.after }

-- what is live of two moves is the same
abbrev Same : Move → Move → Type 0
Same m n = told m ≡ told n

-- two moves by one test
both : (b : Bool) (x y z w : Move) → Same x z → Same y w → Same (cond b x y) (cond b z w)
both true x y z w p q = p
both false x y z w p q = q

-- what is live of a transaction is seen
seen_at : (v : View) (t : ℕ) → txn_at (seen v) t ≡ live_txn (txn_at v t)
unfolding txn_at
seen_at v t = live_at v.txns t

-- its status
seen_status : (v : View) (t : ℕ) → (txn_at (seen v) t).status ≡ (txn_at v t).status
seen_status v t = ap (λ (x : Txn). x.status) (seen_at v t) ∙ live_status (txn_at v t)

-- all of it while it is active
seen_active : (v : View) (t : ℕ) → is_active (txn_at v t).status ≡ true → txn_at (seen v) t ≡ txn_at v t
seen_active v t e = seen_at v t ∙ live_active (txn_at v t) e

-- where one is set
seen_with : (t : ℕ) (x : Txn) (v : View) → seen (with_txn t x (seen v)) ≡ seen (with_txn t x v)
seen_with t x v = ap (λ (ys : List Txn). record v { txns = ys }) (set_same v.txns t x)

-- two quiet moves
hush : (v w : View) (o : Outcome) → seen v ≡ seen w → Same (quiet v o) (quiet w o)
hush v w o e = ap (λ (x : View). quiet x o) e

-- nothing changes
rests : (v : View) (o : Outcome) → Same (quiet (seen v) o) (quiet v o)
rests v o = ap (λ (ys : List Txn). quiet (record v { txns = ys }) o) (all_twice v.txns)

-- a message is sent
posts : (v : View) (o : Outcome) (k : Kind) → Same (sends (seen v) o k) (sends v o k)
posts v o k = ap (λ (ys : List Txn). sends (record v { txns = ys }) o k) (all_twice v.txns)

-- ---- run

-- A transaction of which all is seen.
module _ (t : ℕ) where
  abbrev IsSeen : View → Type 0
  IsSeen v = txn_at (seen v) t ≡ txn_at v t

  -- it did an instruction
  did_same : (pc : ℕ) (regs : List ℕ) (rows : List Row) (v : View) → IsSeen v → seen (did t pc regs rows (seen v)) ≡ seen (did t pc regs rows v)
  unfolding did
  did_same pc regs rows v e = rw e (seen_with t _ v)

  -- it is aborted
  dropped : (w : Why) (v : View) → IsSeen v → seen (aborted t w (seen v)) ≡ seen (aborted t w v)
  unfolding aborted
  dropped w v e = rw e (
      ap (λ (ys : List Txn). with_me (unlocked t v.me) (record v { txns = ys }))
      (set_same v.txns t (record (txn_at v t) { status = Aborted w; rows = [] })))

  -- by a line
  aborts : (w : Why) (v : View) → IsSeen v → Same (abort_step t w (seen v)) (abort_step t w v)
  unfolding abort_step
  aborts w v e = hush _ _ (outcome.Aborted w) (dropped w v e)

  -- it sets a register
  sets : (r : Reg) (x : ℕ) (v : View) → IsSeen v → Same (set_step t r x (seen v)) (set_step t r x v)
  unfolding set_step
  sets r x v e = rw e (hush _ _ outcome.Did (did_same _ _ _ v e))

  -- it jumps
  jumps : (taken : Bool) (to : ℕ) (v : View) → IsSeen v → Same (jump_step t taken to (seen v)) (jump_step t taken to v)
  unfolding jump_step
  jumps taken to v e = rw e (hush _ _ outcome.Did (did_same _ _ _ v e))

  -- it reads
  reads : (r : Reg) (k p : ℕ) (v : View) → IsSeen v → Same (read_step t r k p (seen v)) (read_step t r k p v)
  unfolding read_step
  reads r k p v e = rw e (hush _ _ outcome.Did (did_same _ _ _ v e))

  -- it writes
  writes : (k x p : ℕ) (v : View) → IsSeen v → Same (write_step t k x p (seen v)) (write_step t k x p v)
  unfolding write_step
  writes k x p v e = rw e (both (is_there k p v.me (txn_at v t)) _ _ _ _ (hush _ _ outcome.Did (did_same _ _ _ v e)) (aborts why.Missing v e))

  -- it splits a page
  splits : (sc : Scenario) (k p : ℕ) (v : View) → IsSeen v → Same (split_step sc t k p (seen v)) (split_step sc t k p v)
  unfolding split_step cut
  splits sc k p v e = rw e (
      let b = boundary sc k p v.me (txn_at v t) in
      rests (with_me (cut_page t p b v.me) v) (outcome.Split p (length v.me.lows) b))

  -- a full page
  full : (sc : Scenario) (k p : ℕ) (v : View) → IsSeen v → Same (full_step sc t k p (seen v)) (full_step sc t k p v)
  unfolding full_step
  full sc k p v e =
      both (not (may_split v.me.mode)) _ _ _ _ (aborts (why.Frozen p) v e)
      (both (nat_le sc.pages (length v.me.lows)) _ _ _ _ (aborts why.NoPage v e) (splits sc k p v e))

  -- it inserts
  inserts : (sc : Scenario) (k x p : ℕ) (v : View) → IsSeen v → Same (insert_step sc t k x p (seen v)) (insert_step sc t k x p v)
  unfolding insert_step
  inserts sc k x p v e = rw e (
      both (is_there k p v.me (txn_at v t)) _ _ _ _ (aborts why.Duplicate v e)
      (both (has_room sc p v.me (txn_at v t)) _ _ _ _ (hush _ _ outcome.Did (did_same _ _ _ v e)) (full sc k p v e)))

  -- it accesses a page that is here and free
  accesses : (sc : Scenario) (i : Access) (k p : ℕ) (v : View) → IsSeen v → Same (access_step sc t i k p (seen v)) (access_step sc t i k p v)
  unfolding access_step
  accesses sc (Reads r) k p v e = reads r k p v e
  accesses sc (Writes x) k p v e = writes k x p v e
  accesses sc (Inserts x) k p v e = inserts sc k x p v e

  -- a page that is not here
  absent : (p : ℕ) (v : View) → IsSeen v → Same (absent_step t p (seen v)) (absent_step t p v)
  unfolding absent_step asks
  absent p v e =
      both (not (may_pull v.me.mode)) _ _ _ _ (aborts (why.Gone p) v e)
      (both (has v.me.asked p) _ _ _ _ (rests v (outcome.Awaits p)) (posts (asks p v) (outcome.Pulls p) kind.Pull))

  -- with a lock more it is seen as before
  seen_locked : (p : ℕ) (k : LockKind) (v : View) → IsSeen v → IsSeen (locked t p k v)
  unfolding locked txn_at
  seen_locked p k v e = e

  seen_shares : (ps : List ℕ) (v : View) → IsSeen v → IsSeen (shares t ps v)
  unfolding shares txn_at
  seen_shares ps v e = e

  -- it accesses one with a lock more
  locks : (sc : Scenario) (i : Access) (k p : ℕ) (v : View) → IsSeen v
      → Same (access_step sc t i k p (locked t p (lock_of i) (seen v))) (access_step sc t i k p (locked t p (lock_of i) v))
  unfolding locked
  locks sc i k p v e = accesses sc i k p (locked t p (lock_of i) v) (seen_locked p (lock_of i) v e)

  -- an access to a page
  on_page : (sc : Scenario) (i : Access) (k p : ℕ) (v : View) → IsSeen v → Same (page_step sc t i k p (seen v)) (page_step sc t i k p v)
  unfolding page_step
  on_page sc i k p v e =
      both (not (owns v.me.pages p)) _ _ _ _ (absent p v e)
      (both (conflict v.me.locks p t (lock_of i)) _ _ _ _ (rests v (outcome.Waits p)) (locks sc i k p v e))

  -- an access by key
  on_key : (sc : Scenario) (i : Access) (k : ℕ) (v : View) → IsSeen v → Same (key_step sc t i k (seen v)) (key_step sc t i k v)
  unfolding key_step
  on_key sc i k v e =
      both (nat_lt max_key k) _ _ _ _ (aborts why.BadKey v e) (on_page sc i k _ v e)

  -- a sum over pages that are here and free
  totals : (r : Reg) (a b : ℕ) (v : View) → IsSeen v → Same (sum_step t r a b (seen v)) (sum_step t r a b v)
  unfolding sum_step
  totals r a b v e = rw e (sets r _ v e)

  shared : (r : Reg) (a b : ℕ) (ps : List ℕ) (v : View) → IsSeen v → Same (sum_step t r a b (shares t ps (seen v))) (sum_step t r a b (shares t ps v))
  unfolding shares
  shared r a b ps v e = totals r a b (shares t ps v) (seen_shares ps v e)

  -- a sum, where a page may be locked
  sum_waits : (r : Reg) (a b : ℕ) (o : Option ℕ) (v : View) → IsSeen v → Same (sum_or_waits t r a b o (seen v)) (sum_or_waits t r a b o v)
  unfolding sum_or_waits
  sum_waits r a b (Some p) v e = rests v (outcome.Waits p)
  sum_waits r a b None v e = shared r a b (range_pages v.me.lows a b) v e

  -- a sum, where a page may be away
  sum_asks : (r : Reg) (a b : ℕ) (o : Option ℕ) (v : View) → IsSeen v → Same (sum_or_asks t r a b o (seen v)) (sum_or_asks t r a b o v)
  unfolding sum_or_asks
  sum_asks r a b (Some p) v e = absent p v e
  sum_asks r a b None v e = sum_waits r a b _ v e

  -- a sum
  sums : (r : Reg) (a b : ℕ) (v : View) → IsSeen v → Same (range_step t r a b (seen v)) (range_step t r a b v)
  unfolding range_step
  sums r a b v e =
      both (nat_lt b a) _ _ _ _ (sets r 0 v e)
      (both (nat_lt max_key b) _ _ _ _ (aborts why.BadKey v e) (sum_asks r a b _ v e))

  -- it commits
  commits_seen : (v : View) → IsSeen v → Same (quiet (committed t (seen v)) (outcome.Committed (length v.commits + 1))) (quiet (committed t v) (outcome.Committed (length v.commits + 1)))
  unfolding committed
  commits_seen v e = rw e (
      let x = txn_at v t in
      ap (λ (ys : List Txn). quiet (record v {
        me = unlocked t (with_installed x.rows v.me);
        txns = ys;
        commits = v.commits ++ record { txn = t; done = x.done + 1 } ∷ [];
      }) (outcome.Committed (length v.commits + 1)))
      (set_same v.txns t (record x { status = Committed; rows = []; done = x.done + 1 })))

  commits : (o : Option ℕ) (v : View) → IsSeen v → Same (commit_or_gone t o (seen v)) (commit_or_gone t o v)
  unfolding commit_or_gone
  commits (Some p) v e = aborts (why.Gone p) v e
  commits None v e = commits_seen v e

  ends : (v : View) → IsSeen v → Same (commit_step t (seen v)) (commit_step t v)
  unfolding commit_step
  ends v e = rw e (commits _ v e)

  -- an effect
  effects : (sc : Scenario) (f : Effect) (v : View) → IsSeen v → Same (effect_step sc t f (seen v)) (effect_step sc t f v)
  unfolding effect_step
  effects sc (Sets r x) v e = sets r x v e
  effects sc (Jumps taken to) v e = jumps taken to v e
  effects sc (Accesses i k) v e = on_key sc i k v e
  effects sc (Sums r a b) v e = sums r a b v e
  effects sc Commits v e = ends v e
  effects sc Aborts v e = aborts why.Own v e

  -- an instruction
  instr : (sc : Scenario) (o : Option Instr) (regs : List ℕ) (v : View) → IsSeen v → Same (instr_step sc t o regs (seen v)) (instr_step sc t o regs v)
  unfolding instr_step
  instr sc None regs v e = rests v outcome.Idle
  instr sc (Some i) regs v e = effects sc (effect_of i regs) v e

  -- one that is active runs
  runs_active : (sc : Scenario) (n : Node) (v : View) → (b : Bool) → is_active (txn_at v t).status ≡ b → Same (run_step sc n t (seen v)) (run_step sc n t v)
  unfolding run_step
  runs_active sc n v true e = rw (seen_active v t e) (
      both (not (is_active (txn_at v t).status)) _ _ _ _ (rests v outcome.Idle)
      (both (not (same_node (txn_at v t).node n)) _ _ _ _ (rests v outcome.Elsewhere)
      (both (is_waiting v.me.mode) _ _ _ _ (rests v outcome.NotYet) (instr sc _ _ v (seen_active v t e)))))
  runs_active sc n v false e = rw (seen_status v t, e) (rests v outcome.Idle)

  runs : (sc : Scenario) (n : Node) (v : View) → Same (run_step sc n t (seen v)) (run_step sc n t v)
  runs sc n v = runs_active sc n v (is_active (txn_at v t).status) refl

-- ---- the client

-- a migration starts
starts : (v : View) → Same (start_step (seen v)) (start_step v)
unfolding start_step
starts v =
    both (may_start v.me.mode v.them.mode) _ _ _ _
    (posts (post (Wire v.me.lows) (turns SInit v)) outcome.Started kind.Wire)
    (rests v outcome.BadMode)

-- a transaction begins at a node, if there is one
begins_at : (o : Option Node) (t : ℕ) (v : View) → Same (begin_at o t (seen v)) (begin_at o t v)
unfolding begin_at begun
begins_at None t v = rests v outcome.Idle
begins_at (Some n) t v = hush _ _ (outcome.Began n) (seen_with t (record nobody { status = Active; node = n }) v)

-- a transaction begins
begins : (t : ℕ) (v : View) → Same (begin_step t (seen v)) (begin_step t v)
unfolding begin_step
begins t v = rw (seen_status v t) (both (is_new (txn_at v t).status) _ _ _ _ (begins_at _ t v) (rests v outcome.Idle))

-- one is killed
kills_active : (t : ℕ) (v : View) → (b : Bool) → is_active (txn_at v t).status ≡ b → Same (kill_step t (seen v)) (kill_step t v)
unfolding kill_step
kills_active t v true e =
    rw (seen_status v t) (both (is_active (txn_at v t).status) _ _ _ _
    (hush _ _ _ (dropped t why.Killed v (seen_active v t e)))
    (rests v outcome.Idle))
kills_active t v false e = rw (seen_status v t, e) (rests v outcome.Idle)

kills : (t : ℕ) (v : View) → Same (kill_step t (seen v)) (kill_step t v)
kills t v = kills_active t v (is_active (txn_at v t).status) refl

-- ---- take, finish, push

-- a message is taken, or is stray
takes_arrival : (line : MessageLine) (m : Message) (v r : View) → Same (arrival_step line m (seen v) (seen r)) (arrival_step line m v r)
unfolding arrival_step
takes_arrival Stray m v r = rests v outcome.Stray
takes_arrival (Turns mode sent) m v r =
    ap (λ (ys : List Txn). arrival_step (Turns mode sent) m v (record r { txns = ys })) (all_twice r.txns)

-- a page is asked for
takes_pull : (sc : Scenario) (p : ℕ) (row : MessageLine) (v r : View) → Same (pull_step sc p row (seen v) (seen r)) (pull_step sc p row v r)
unfolding pull_step leaves
takes_pull sc p Stray v r = rests v outcome.Stray
takes_pull sc p (Turns mode sent) v r =
    both (not (owns v.me.pages p)) _ _ _ _ (rests r (outcome.Stale p))
    (both (is_held sc.rule && is_locked v.me.locks p) _ _ _ _ (rests v (outcome.Held p)) (posts (leaves p r) (outcome.GotPull p) kind.Page))

-- any message
takes_message : (sc : Scenario) (m : Message) (v r : View) → Same (message_step sc m (seen v) (seen r)) (message_step sc m v r)
unfolding message_step
takes_message sc (Wire lows) v r = takes_arrival _ (Wire lows) v r
takes_message sc Ready v r = takes_arrival _ Ready v r
takes_message sc Dual v r = takes_arrival _ Dual v r
takes_message sc (Pull p) v r = takes_pull sc p _ v r
takes_message sc (Page leaf) v r = takes_arrival _ (Page leaf) v r
takes_message sc Finish v r = takes_arrival _ Finish v r
takes_message sc Done v r = takes_arrival _ Done v r

-- the first message, if there is one
takes_front : (sc : Scenario) (ms : List Message) (v : View) → Same (front_step sc ms (seen v)) (front_step sc ms v)
unfolding front_step
takes_front sc [] v = rests v outcome.NoMessage
takes_front sc (m ∷ ms) v = takes_message sc m v (record v { inbox = ms })

-- a node takes
takes : (sc : Scenario) (v : View) → Same (take_step sc (seen v)) (take_step sc v)
unfolding take_step
takes sc v = takes_front sc v.inbox v

-- whether one is active at a node
active_here : (n : Node) (x : Txn) → (b : Bool) → is_active x.status ≡ b
    → (is_active (live_txn x).status && same_node (live_txn x).node n) ≡ (is_active x.status && same_node x.node n)
active_here n x true e = ap (λ (y : Txn). is_active y.status && same_node y.node n) (live_active x e)
active_here n x false e = rw (live_status x, e) refl

-- the lowest that is
active_same : (n : Node) (t : ℕ) (xs : List Txn) → active_from n t (map live_txn xs) ≡ active_from n t xs
active_same n t [] = refl
active_same n t (x ∷ xs) =
    ap (λ (b : Bool). cond b (Some t) (active_from n (t + 1) (map live_txn xs))) (active_here n x (is_active x.status) refl)
    ∙ ap (λ (o : Option ℕ). cond (is_active x.status && same_node x.node n) (Some t) o) (active_same n (t + 1) xs)

-- a node ends its part, if it may
finishes_if : (row : FinishLine) (t : ℕ) (v : View) → Same (finish_if row t (seen v)) (finish_if row t v)
unfolding finish_if
finishes_if fin.BadMode t v = rests v outcome.BadMode
finishes_if fin.Active t v = rests v (outcome.Active t)
finishes_if fin.Finishing t v = posts (post Finish (turns SFinish v)) outcome.Finishing kind.Finish

-- a node ends its part
finishes : (n : Node) (v : View) → Same (finish_step n (seen v)) (finish_step n v)
unfolding finish_step
finishes n v = rw (active_same n 0 v.txns) (finishes_if _ _ v)

-- a node pushes a page, if it has one
pushes_if : (o : Option ℕ) (v : View) → Same (push_if o (seen v)) (push_if o v)
unfolding push_if leaves
pushes_if None v = rests v outcome.NoPush
pushes_if (Some p) v = posts (leaves p v) (outcome.Pushed p) kind.Page

-- a node pushes
pushes : (v : View) → Same (push_step (seen v)) (push_step v)
unfolding push_step
pushes v = both (may_push v.me.mode) _ _ _ _ (pushes_if _ v) (rests v outcome.BadMode)

-- any choice, seen from a node
moves : (sc : Scenario) (c : Choice) (v : View) → Same (move sc c (seen v)) (move sc c v)
unfolding move
moves sc Start v = starts v
moves sc (Begin t) v = begins t v
moves sc (Kill t) v = kills t v
moves sc (Run m t) v = runs t sc m v
moves sc (Take m) v = takes sc v
moves sc (Finish_at m) v = finishes m v
moves sc (Push m) v = pushes v

-- ---- states

-- a step, or what is live after it
abbrev told_step : StatePart → Step → Step
told_step part x = record x { after = part_of part x.after }

-- a move of a node's, as a step
one_side : (n : Node) (x y : Move) → Same x y → told_step Live (as_step n x) ≡ told_step Live (as_step n y)
one_side A x y e = ap (as_step A) e
one_side B x y e = ap (as_step B) e

-- one that is not active is not killed, from whatever side it is read
not_killed : (sc : Scenario) (t : ℕ) (n : Node) (x : State) → is_active (txn_or (slice_get x.txns t)).status ≡ false
    → as_step n (move sc (Kill t) (facing n x)) ≡ record { after = x; outcome = outcome.Idle; sent = None }
unfolding move kill_step txn_at
not_killed sc t A x e = rw e refl
not_killed sc t B x e = rw e refl

module _ (sc : Scenario) (s : State) where
  abbrev live : State
  live = part_of Live s

  -- a choice, read from one side
  at_side : (c : Choice) (n : Node) → told_step Live (as_step n (move sc c (facing n live))) ≡ told_step Live (as_step n (move sc c (facing n s)))
  at_side c A = one_side A _ _ (moves sc c (facing A s))
  at_side c B = one_side B _ _ (moves sc c (facing B s))

  -- the status of a transaction
  here_status : (t : ℕ) → (txn_or (slice_get live.txns t)).status ≡ (txn_or (slice_get s.txns t)).status
  here_status t = ap (λ (x : Txn). x.status) (live_at s.txns t) ∙ live_status (txn_or (slice_get s.txns t))

  -- a kill, where it may be read from two sides
  kill_sides : (t : ℕ) → (b : Bool) → is_active (txn_or (slice_get s.txns t)).status ≡ b → told_step Live (step sc (Kill t) live) ≡ told_step Live (step sc (Kill t) s)
  unfolding step
  kill_sides t true e =
      let x = txn_or (slice_get s.txns t) in
      let side : side_of sc (Kill t) live ≡ side_of sc (Kill t) s = ap (λ (y : Txn). y.node) (live_at s.txns t ∙ live_active x e) in
      ap (λ (n : Node). told_step Live (as_step n (move sc (Kill t) (facing n live)))) side ∙ at_side (Kill t) (side_of sc (Kill t) s)
  kill_sides t false e =
      ap (told_step Live) (not_killed sc t (side_of sc (Kill t) live) live (ap is_active (here_status t) ∙ e))
      ∙ (ap (λ (ys : List Txn). record { after = record s { txns = ys }; outcome = outcome.Idle; sent = None }) (all_twice s.txns)
      ∙ sym (ap (told_step Live) (not_killed sc t (side_of sc (Kill t) s) s e)))

  -- any choice
  step_live : (c : Choice) → told_step Live (step sc c live) ≡ told_step Live (step sc c s)
  unfolding step
  step_live Start = at_side Start (side_of sc Start s)
  step_live (Begin t) = at_side (Begin t) A
  step_live (Kill t) = kill_sides t (is_active (txn_or (slice_get s.txns t)).status) refl
  step_live (Run n t) = at_side (Run n t) n
  step_live (Take n) = at_side (Take n) n
  step_live (Finish_at n) = at_side (Finish_at n) n
  step_live (Push n) = at_side (Push n) n

-- it has one outcome
pub live_outcome : (sc : Scenario) (s : State) (c : Choice) → (step sc c (part_of Live s)).outcome ≡ (step sc c s).outcome
live_outcome sc s c = ap (λ (x : Step). x.outcome) (step_live sc s c)

-- whichever part counts
step_part : (part : StatePart) (sc : Scenario) (c : Choice) (s : State) → told_step part (step sc c (part_of part s)) ≡ told_step part (step sc c s)
step_part Whole sc c s = refl
step_part Live sc c s = step_live sc s c

-- ---- two states that are alike

module _ (part : StatePart) (sc : Scenario) (c : Choice) (s t : State) (e : Alike part s t) where
  -- they step alike
  steps_alike : told_step part (step sc c s) ≡ told_step part (step sc c t)
  steps_alike = sym (step_part part sc c s) ∙ (ap (λ (x : State). told_step part (step sc c x)) e ∙ step_part part sc c t)

  -- with one outcome
  pub alike_outcome : (step sc c s).outcome ≡ (step sc c t).outcome
  alike_outcome = ap (λ (x : Step). x.outcome) steps_alike

  -- one kind of message
  pub alike_sent : (step sc c s).sent ≡ (step sc c t).sent
  alike_sent = ap (λ (x : Step). x.sent) steps_alike

  -- and states that are alike
  pub alike_after : Alike part (step sc c s).after (step sc c t).after
  alike_after = ap (λ (x : Step). x.after) steps_alike

-- so do lists of choices
pub alike_play : (part : StatePart) (sc : Scenario) (cs : List Choice) (s t : State) → Alike part s t → Alike part (play sc s cs) (play sc t cs)
alike_play part sc [] s t e = e
alike_play part sc (c ∷ cs) s t e = alike_play part sc cs (step sc c s).after (step sc c t).after (alike_after part sc c s t e)
