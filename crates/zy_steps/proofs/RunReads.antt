-- A run reads its node and its transaction, and puts messages and commits behind those that are there: line by line.
use Rattle.std.proofs.Common.{◌≡◌, ◌∙◌, ℕ, ◌+◌, ◌++◌, List, [], ◌∷◌, length, sym, ap, true, false, not, nat_lt}
use Rattle.std.proofs.Common.{nat_le, Bool, Option, Some, None, cond, append_assoc}
use Rattle.std.specs.Prelude.{slice_set}
use Rattle.zy_isa.specs.Limits.{max_key}
use Rattle.zy_isa.specs.declared.node.Node.{Node}
use Rattle.zy_isa.specs.declared.row.Row.{Row}
use Rattle.zy_isa.specs.declared.instr.Reg.{Reg}
use Rattle.zy_isa.specs.declared.instr.Instr.{Instr}
use Rattle.zy_isa.specs.Scenario.{Scenario}
use Rattle.zy_model.specs.Locks.{conflict}
use Rattle.zy_model.specs.Messages.{Message, Pull}
use Rattle.zy_model.specs.declared.kind.Kind.{Kind}
use Rattle.zy_model.specs.declared.kind.Kind.TheVariants as kind
use Rattle.zy_model.specs.Table.{may_split, may_pull, is_waiting}
use Rattle.zy_table.specs.declared.access.Access.{Access}
use Rattle.zy_table.specs.declared.access.Access.TheVariants.{Reads, Writes, Inserts}
use Rattle.zy_table.specs.declared.effect.Effect.{Effect}
use Rattle.zy_table.specs.declared.effect.Effect.TheVariants.{Sets, Jumps, Accesses, Sums, Commits, Aborts}
use Rattle.zy_table.specs.declared.entry.CommitRecord.{CommitRecord}
use Rattle.zy_table.specs.declared.outcome.Why.{Why}
use Rattle.zy_table.specs.declared.outcome.Why.TheVariants as why
use Rattle.zy_table.specs.declared.outcome.Outcome.{Outcome}
use Rattle.zy_table.specs.declared.outcome.Outcome.TheVariants as outcome
use Rattle.zy_table.specs.State.{View, NodeState, Move, Txn, with_me, post}
use Rattle.zy_table.specs.Keys.{put_key}
use Rattle.zy_table.specs.Numbers.{has}
use Rattle.zy_table.specs.Pages.{owns}
use Rattle.zy_table.specs.Ranges.{range_pages}
use Rattle.zy_table.specs.Change.{quiet, sends, txn_at, did, aborted, committed, locked, shares, asks, cut, cut_page}
use Rattle.zy_table.specs.Effects.{effect_of}
use Rattle.zy_table.specs.Client.{is_active}
use Rattle.zy_table.specs.Run.{same_node, abort_step, set_step, jump_step, commit_or_gone, commit_step, absent_step, read_step, is_there, write_step}
use Rattle.zy_table.specs.Run.{has_room, boundary, full_step, split_step, insert_step, lock_of, access_step, page_step, key_step, sum_step, sum_or_waits}
use Rattle.zy_table.specs.Run.{sum_or_asks, range_step, effect_step, instr_step, run_step}
use Rattle.zy_steps.specs.Reads.{uncounted}
use Rattle.zy_steps.proofs.SetTxns.{set_own, set_in}

-- a move, but for the number of its commit
abbrev pub bare : Move → Move
bare m = record m { outcome = uncounted m.outcome }

-- Transaction t, and what a run of it does not look at: the other node, the links, the transactions but t, the commits.
module _ (t : ℕ) (far : NodeState) (inbox box : List Message) (ys : List Txn) (ds : List CommitRecord) where
  -- a view with these, its own messages and commits behind them
  abbrev pub over : View → View
  over v = record v { them = far; inbox = inbox; outbox = box ++ v.outbox; txns = ys; commits = ds ++ v.commits }

  -- there are as many transactions, and t is the same
  abbrev pub IsLike : View → Type 0
  IsLike v = (length v.txns ≡ length ys) × (txn_at (over v) t ≡ txn_at v t)

  -- a move with these, but t as it is after it
  abbrev pub laid : Move → Move
  laid m = record (bare m) { after = record (over m.after) { txns = slice_set ys t (txn_at m.after t) } }

  -- a move from a view with these is that from the view, with these
  abbrev pub IsLaid : Move → Move → Type 0
  IsLaid x z = bare x ≡ laid z

  -- two moves by one test
  both : (b : Bool) (x y z w : Move) → IsLaid x z → IsLaid y w → IsLaid (cond b x y) (cond b z w)
  both true x y z w p q = p
  both false x y z w p q = q

  -- t is set to what it is
  kept : (v : View) → IsLike v → ys ≡ slice_set ys t (txn_at v t)
  unfolding txn_at
  kept v e = sym (set_own ys t) ∙ ap (slice_set ys t) e.1

  -- nothing changes
  rests : (v : View) (o : Outcome) → IsLike v → IsLaid (quiet (over v) o) (quiet v o)
  rests v o e = ap (λ (zs : List Txn). bare (quiet (record (over v) { txns = zs }) o)) (kept v e)

  -- a message is sent
  posts : (m : Message) (v : View) (o : Outcome) (k : Kind) → IsLike v → IsLaid (sends (post m (over v)) o k) (sends (post m v) o k)
  unfolding txn_at
  posts m v o k e =
      ap (λ (zs : List Txn). bare (sends (record (post m (over v)) { txns = zs }) o k)) (kept v e)
      ∙ ap (λ (ms : List Message). bare (sends (record (over v) { outbox = ms; txns = slice_set ys t (txn_at v t) }) o k))
      (append_assoc box v.outbox (m ∷ []))

  -- another node of its own is none of the transactions
  like_me : (y : NodeState) (v : View) → IsLike v → IsLike (with_me y v)
  unfolding txn_at
  like_me y v e = e

  -- t is set, and the node and the commits may be others
  sets_one : (x : Txn) (y : NodeState) (cs : List CommitRecord) (v : View) (o : Outcome) → length v.txns ≡ length ys
      → IsLaid (quiet (record (over v) { me = y; txns = slice_set ys t x; commits = ds ++ cs }) o)
      (quiet (record v { me = y; txns = slice_set v.txns t x; commits = cs }) o)
  unfolding txn_at
  sets_one x y cs v o h =
      ap (λ (zs : List Txn). bare (quiet (record (over v) { me = y; txns = zs; commits = ds ++ cs }) o)) (set_in v.txns ys t x h)

  -- t did an instruction
  does : (pc : ℕ) (regs : List ℕ) (rows : List Row) (v : View) (o : Outcome) → IsLike v
      → IsLaid (quiet (did t pc regs rows (over v)) o) (quiet (did t pc regs rows v) o)
  unfolding did
  does pc regs rows v o e = rw e.1 (sets_one _ v.me v.commits v o e.0)

  -- an abort
  aborts : (w : Why) (v : View) → IsLike v → IsLaid (abort_step t w (over v)) (abort_step t w v)
  unfolding abort_step aborted
  aborts w v e = rw e.1 (sets_one _ _ v.commits v (outcome.Aborted w) e.0)

  -- a register is set
  sets : (r : Reg) (x : ℕ) (v : View) → IsLike v → IsLaid (set_step t r x (over v)) (set_step t r x v)
  unfolding set_step
  sets r x v e = rw e.1 (does _ _ _ v outcome.Did e)

  -- a jump
  jumps : (taken : Bool) (to : ℕ) (v : View) → IsLike v → IsLaid (jump_step t taken to (over v)) (jump_step t taken to v)
  unfolding jump_step
  jumps taken to v e = rw e.1 (does _ _ _ v outcome.Did e)

  -- a row is read
  reads : (r : Reg) (k p : ℕ) (v : View) → IsLike v → IsLaid (read_step t r k p (over v)) (read_step t r k p v)
  unfolding read_step
  reads r k p v e = rw e.1 (does _ _ _ v outcome.Did e)

  -- a row is written
  writes : (k x p : ℕ) (v : View) → IsLike v → IsLaid (write_step t k x p (over v)) (write_step t k x p v)
  unfolding write_step
  writes k x p v e = rw e.1 (both (is_there k p v.me (txn_at v t)) _ _ _ _ (does _ _ _ v outcome.Did e) (aborts why.Missing v e))

  -- a page is split
  splits : (sc : Scenario) (k p : ℕ) (v : View) → IsLike v → IsLaid (split_step sc t k p (over v)) (split_step sc t k p v)
  unfolding split_step cut
  splits sc k p v e = rw e.1 (
      let b = boundary sc k p v.me (txn_at v t) in
      let y = cut_page t p b v.me in
      rests (with_me y v) (outcome.Split p (length v.me.lows) b) (like_me y v e))

  -- a row on a full page
  full : (sc : Scenario) (k p : ℕ) (v : View) → IsLike v → IsLaid (full_step sc t k p (over v)) (full_step sc t k p v)
  unfolding full_step
  full sc k p v e =
      both (not (may_split v.me.mode)) _ _ _ _ (aborts (why.Frozen p) v e)
      (both (nat_le sc.pages (length v.me.lows)) _ _ _ _ (aborts why.NoPage v e) (splits sc k p v e))

  -- a row is inserted
  inserts : (sc : Scenario) (k x p : ℕ) (v : View) → IsLike v → IsLaid (insert_step sc t k x p (over v)) (insert_step sc t k x p v)
  unfolding insert_step
  inserts sc k x p v e = rw e.1 (
      both (is_there k p v.me (txn_at v t)) _ _ _ _ (aborts why.Duplicate v e)
      (both (has_room sc p v.me (txn_at v t)) _ _ _ _ (does _ _ _ v outcome.Did e) (full sc k p v e)))

  -- a page that is here and free is accessed
  accesses : (sc : Scenario) (i : Access) (k p : ℕ) (v : View) → IsLike v → IsLaid (access_step sc t i k p (over v)) (access_step sc t i k p v)
  unfolding access_step
  accesses sc (Reads r) k p v e = reads r k p v e
  accesses sc (Writes x) k p v e = writes k x p v e
  accesses sc (Inserts x) k p v e = inserts sc k x p v e

  -- a page that is not here
  absent : (p : ℕ) (v : View) → IsLike v → IsLaid (absent_step t p (over v)) (absent_step t p v)
  unfolding absent_step asks txn_at
  absent p v e =
      both (not (may_pull v.me.mode)) _ _ _ _ (aborts (why.Gone p) v e)
      (both (has v.me.asked p) _ _ _ _ (rests v (outcome.Awaits p) e)
      (let y = record v.me { asked = put_key p v.me.asked } in posts (Pull p) (with_me y v) (outcome.Pulls p) kind.Pull (like_me y v e)))

  -- one is accessed with a lock more
  locks : (sc : Scenario) (i : Access) (k p : ℕ) (v : View) → IsLike v
      → IsLaid (access_step sc t i k p (locked t p (lock_of i) (over v))) (access_step sc t i k p (locked t p (lock_of i) v))
  unfolding locked
  locks sc i k p v e = accesses sc i k p (locked t p (lock_of i) v) (like_me _ v e)

  -- an access to a page
  on_page : (sc : Scenario) (i : Access) (k p : ℕ) (v : View) → IsLike v → IsLaid (page_step sc t i k p (over v)) (page_step sc t i k p v)
  unfolding page_step
  on_page sc i k p v e =
      both (not (owns v.me.pages p)) _ _ _ _ (absent p v e)
      (both (conflict v.me.locks p t (lock_of i)) _ _ _ _ (rests v (outcome.Waits p) e) (locks sc i k p v e))

  -- an access by key
  on_key : (sc : Scenario) (i : Access) (k : ℕ) (v : View) → IsLike v → IsLaid (key_step sc t i k (over v)) (key_step sc t i k v)
  unfolding key_step
  on_key sc i k v e = both (nat_lt max_key k) _ _ _ _ (aborts why.BadKey v e) (on_page sc i k _ v e)

  -- a sum over pages that are here and free
  totals : (r : Reg) (a b : ℕ) (v : View) → IsLike v → IsLaid (sum_step t r a b (over v)) (sum_step t r a b v)
  unfolding sum_step
  totals r a b v e = rw e.1 (sets r _ v e)

  shared : (r : Reg) (a b : ℕ) (ps : List ℕ) (v : View) → IsLike v → IsLaid (sum_step t r a b (shares t ps (over v))) (sum_step t r a b (shares t ps v))
  unfolding shares
  shared r a b ps v e = totals r a b (shares t ps v) (like_me _ v e)

  -- a sum, where a page may be locked
  sum_waits : (r : Reg) (a b : ℕ) (o : Option ℕ) (v : View) → IsLike v → IsLaid (sum_or_waits t r a b o (over v)) (sum_or_waits t r a b o v)
  unfolding sum_or_waits
  sum_waits r a b (Some p) v e = rests v (outcome.Waits p) e
  sum_waits r a b None v e = shared r a b (range_pages v.me.lows a b) v e

  -- a sum, where a page may be away
  sum_asks : (r : Reg) (a b : ℕ) (o : Option ℕ) (v : View) → IsLike v → IsLaid (sum_or_asks t r a b o (over v)) (sum_or_asks t r a b o v)
  unfolding sum_or_asks
  sum_asks r a b (Some p) v e = absent p v e
  sum_asks r a b None v e = sum_waits r a b _ v e

  -- a sum
  sums : (r : Reg) (a b : ℕ) (v : View) → IsLike v → IsLaid (range_step t r a b (over v)) (range_step t r a b v)
  unfolding range_step
  sums r a b v e =
      both (nat_lt b a) _ _ _ _ (sets r 0 v e)
      (both (nat_lt max_key b) _ _ _ _ (aborts why.BadKey v e) (sum_asks r a b _ v e))

  -- t is set, and there is a commit more, whatever its number
  commits_one : (x : Txn) (y : NodeState) (c : CommitRecord) (v : View) → length v.txns ≡ length ys
      → IsLaid (quiet (record (over v) { me = y; txns = slice_set ys t x; commits = (ds ++ v.commits) ++ c ∷ [] }) (outcome.Committed 0))
      (quiet (record v { me = y; txns = slice_set v.txns t x; commits = v.commits ++ c ∷ [] }) (outcome.Committed 0))
  commits_one x y c v h =
      ap (λ (cs : List CommitRecord). bare (quiet (record (over v) { me = y; txns = slice_set ys t x; commits = cs }) (outcome.Committed 0)))
      (append_assoc ds v.commits (c ∷ []))
      ∙ sets_one x y (v.commits ++ c ∷ []) v (outcome.Committed 0) h

  -- a commit, where no page has gone
  commits_here : (v : View) → IsLike v
      → IsLaid (quiet (committed t (over v)) (outcome.Committed (length (ds ++ v.commits) + 1)))
      (quiet (committed t v) (outcome.Committed (length v.commits + 1)))
  unfolding committed
  commits_here v e = rw e.1 (commits_one _ _ _ v e.0)

  -- a commit, by the lowest page that has gone
  commits : (o : Option ℕ) (v : View) → IsLike v → IsLaid (commit_or_gone t o (over v)) (commit_or_gone t o v)
  unfolding commit_or_gone
  commits (Some p) v e = aborts (why.Gone p) v e
  commits None v e = commits_here v e

  -- a commit
  ends : (v : View) → IsLike v → IsLaid (commit_step t (over v)) (commit_step t v)
  unfolding commit_step
  ends v e = rw e.1 (commits _ v e)

  -- an effect
  effects : (sc : Scenario) (f : Effect) (v : View) → IsLike v → IsLaid (effect_step sc t f (over v)) (effect_step sc t f v)
  unfolding effect_step
  effects sc (Sets r x) v e = sets r x v e
  effects sc (Jumps taken to) v e = jumps taken to v e
  effects sc (Accesses i k) v e = on_key sc i k v e
  effects sc (Sums r a b) v e = sums r a b v e
  effects sc Commits v e = ends v e
  effects sc Aborts v e = aborts why.Own v e

  -- an instruction
  instr : (sc : Scenario) (o : Option Instr) (regs : List ℕ) (v : View) → IsLike v → IsLaid (instr_step sc t o regs (over v)) (instr_step sc t o regs v)
  unfolding instr_step
  instr sc None regs v e = rests v outcome.Idle e
  instr sc (Some i) regs v e = effects sc (effect_of i regs) v e

  -- a node runs t
  pub runs : (sc : Scenario) (n : Node) (v : View) → IsLike v → IsLaid (run_step sc n t (over v)) (run_step sc n t v)
  unfolding run_step
  runs sc n v e = rw e.1 (
      both (not (is_active (txn_at v t).status)) _ _ _ _ (rests v outcome.Idle e)
      (both (not (same_node (txn_at v t).node n)) _ _ _ _ (rests v outcome.Elsewhere e)
      (both (is_waiting v.me.mode) _ _ _ _ (rests v outcome.NotYet e) (instr sc _ _ v e))))
