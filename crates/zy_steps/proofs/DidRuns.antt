-- A run whose outcome is `did`, with the mode and the locks of its node as they are and after something that is fair to it:
-- line by line.
use Rattle.std.proofs.Common.{◌≡◌, ◌∙◌, ℕ, ◌+◌, List, refl, sym, ap, subst, Bool, true, false, not, nat_lt, nat_le, cond, Option, Some, None, length}
use Rattle.std.specs.Prelude.{slice_get}
use Rattle.std.proofs.lemmas.Bool.{cond_both, false≢true, not-false}
use Rattle.zy_isa.specs.Limits.{max_key}
use Rattle.zy_isa.specs.declared.node.Node.{Node}
use Rattle.zy_isa.specs.declared.row.Row.{Row}
use Rattle.zy_isa.specs.declared.instr.Reg.{Reg}
use Rattle.zy_isa.specs.declared.instr.Instr.{Instr}
use Rattle.zy_isa.specs.Scenario.{Scenario}
use Rattle.zy_model.specs.declared.lock.Lock.{Lock}
use Rattle.zy_model.specs.Locks.{add_lock, conflict}
use Rattle.zy_model.specs.declared.mode.NodeMode.{NodeMode}
use Rattle.zy_model.specs.Order.{LocksRise}
use Rattle.zy_model.specs.Table.{may_split, may_pull, is_waiting}
use Rattle.zy_table.specs.declared.access.Access.{Access}
use Rattle.zy_table.specs.declared.access.Access.TheVariants.{Reads, Writes, Inserts}
use Rattle.zy_table.specs.declared.effect.Effect.{Effect}
use Rattle.zy_table.specs.declared.effect.Effect.TheVariants.{Sets, Jumps, Accesses, Sums, Commits, Aborts}
use Rattle.zy_table.specs.declared.outcome.Why.{Why}
use Rattle.zy_table.specs.declared.outcome.Outcome.{Outcome}
use Rattle.zy_table.specs.declared.outcome.Outcome.TheVariants.{Did}
use Rattle.zy_table.specs.State.{View, Move, Txn}
use Rattle.zy_table.specs.Numbers.{has}
use Rattle.zy_table.specs.Pages.{owns}
use Rattle.zy_table.specs.Ranges.{range_pages}
use Rattle.zy_table.specs.Change.{quiet, txn_at, with_txn, did, locked, share_all, shares}
use Rattle.zy_table.specs.Effects.{effect_of}
use Rattle.zy_table.specs.Client.{is_active}
use Rattle.zy_table.specs.Run.{same_node, abort_step, set_step, jump_step, commit_or_gone, commit_step, absent_step, read_step, is_there, write_step}
use Rattle.zy_table.specs.Run.{has_room, full_step, split_step, insert_step, lock_of, access_step, page_step, key_step, sum_step, sum_or_waits}
use Rattle.zy_table.specs.Run.{sum_or_asks, range_step, effect_step, instr_step, run_step}
use Rattle.zy_steps.proofs.SetTwo.{Stays}
use Rattle.zy_steps.proofs.FewerLocks.{IsFair, shares_fair, free_fair}

-- whether an outcome is `did`
abbrev is_did : Outcome → Bool
is_did Did = true
is_did o = false

-- it is not
never : {X : Type 0} → false ≡ true → X
never e = absurd (false≢true e)

-- a view with other locks of its node
abbrev pub relocked : List Lock → View → View
relocked ls v = record v { me = record v.me { locks = ls } }

-- a view with another transaction t and other locks of its node
abbrev pub put : ℕ → Txn → List Lock → View → View
put t y ls v = with_txn t y (relocked ls v)

-- a view in another mode of its node
abbrev pub moded : NodeMode → View → View
moded mode v = record v { me = record v.me { mode = mode } }

-- Two moves of t, one from a view and one from it in another mode and with other locks: both did an instruction, and no
-- more than set t and take locks.
pub record Went (t : ℕ) (f : List Lock → List Lock) (mode : NodeMode) (v : View) (m k : Move) : Type 0 where
  pub txn : Txn
  pub locks : List Lock
  pub stays : Stays (txn_at v t) txn
  pub first : m ≡ quiet (put t txn locks v) Did
  pub second : k ≡ quiet (put t txn (f locks) (moded mode v)) Did

-- an insert on a full page does no instruction
full_never : {X : Type 0} (sc : Scenario) (t k p : ℕ) (v : View) → is_did (full_step sc t k p v).outcome ≡ true → X
unfolding full_step split_step abort_step
full_never {X} sc t k p v =
    cond_both (not (may_split v.me.mode)) _ _ (λ (m : Move). is_did m.outcome ≡ true → X)
    (λ _. never)
    (λ _. cond_both (nat_le sc.pages (length v.me.lows)) _ _ (λ (m : Move). is_did m.outcome ≡ true → X) (λ _. never) (λ _. never))

-- nor does an access to a page that is not here
absent_never : {X : Type 0} (t p : ℕ) (v : View) → is_did (absent_step t p v).outcome ≡ true → X
unfolding absent_step abort_step
absent_never {X} t p v =
    cond_both (not (may_pull v.me.mode)) _ _ (λ (m : Move). is_did m.outcome ≡ true → X)
    (λ _. never)
    (λ _. cond_both (has v.me.asked p) _ _ (λ (m : Move). is_did m.outcome ≡ true → X) (λ _. never) (λ _. never))

-- Transaction t of a view, whose locks may be others by now, what is fair to it, and a mode in which it runs.
module _ (t : ℕ) (f : List Lock → List Lock) (fair : IsFair t f) (mode : NodeMode) (awake : is_waiting mode ≡ false) (v : View) (rise : LocksRise v.me.locks) where
  -- the view after what is fair, with locks
  abbrev after : List Lock → View
  after ls = relocked ls (moded mode v)

  -- where the first of two moves did an instruction, so did the second
  abbrev Follows : Move → Move → Type 0
  Follows m k = is_did m.outcome ≡ true → Went t f mode v m k

  -- two moves by one test
  both : (b : Bool) (x y z w : Move) → Follows x z → Follows y w → Follows (cond b x y) (cond b z w)
  both true x y z w p q = p
  both false x y z w p q = q

  -- two moves by two tests, of which the second fails where the first does
  freed : (b c : Bool) (x y z w : Move) → is_did x.outcome ≡ false → (b ≡ false → c ≡ false) → Follows y w → Follows (cond b x y) (cond c z w)
  freed true c x y z w waits free go h = never (sym waits ∙ h)
  freed false c x y z w waits free go h = rw (free refl) (go h)

  -- t did an instruction
  does : (pc : ℕ) (regs : List ℕ) (rows : List Row) (ls : List Lock)
      → Went t f mode v (quiet (did t pc regs rows (relocked ls v)) Did) (quiet (did t pc regs rows (after (f ls))) Did)
  unfolding did txn_at
  does pc regs rows ls = record {
    txn = record (txn_at v t) { pc = pc; regs = regs; rows = rows; done = (txn_at v t).done + 1 };
    locks = ls;
    stays = record { status = refl; node = refl };
    first = refl;
    second = refl;
  }

  -- an abort
  aborts : (w : Why) (ls zs : List Lock) → Follows (abort_step t w (relocked ls v)) (abort_step t w (after zs))
  unfolding abort_step
  aborts w ls zs = never

  -- a register is set
  sets : (r : Reg) (x : ℕ) (ls : List Lock) → Follows (set_step t r x (relocked ls v)) (set_step t r x (after (f ls)))
  unfolding set_step txn_at
  sets r x ls _ = does _ _ _ ls

  -- a jump
  jumps : (taken : Bool) (to : ℕ) (ls : List Lock) → Follows (jump_step t taken to (relocked ls v)) (jump_step t taken to (after (f ls)))
  unfolding jump_step txn_at
  jumps taken to ls _ = does _ _ _ ls

  -- a row is inserted
  inserts : (sc : Scenario) (k x p : ℕ) (ls : List Lock) → Follows (insert_step sc t k x p (relocked ls v)) (insert_step sc t k x p (after (f ls)))
  unfolding insert_step txn_at
  inserts sc k x p ls =
      both (is_there k p v.me (txn_at v t)) _ _ _ _ (aborts _ ls (f ls))
      (both (has_room sc p v.me (txn_at v t)) _ _ _ _ (λ _. does _ _ _ ls) (full_never sc t k p (relocked ls v)))

  -- a row is written
  writes : (k x p : ℕ) (ls : List Lock) → Follows (write_step t k x p (relocked ls v)) (write_step t k x p (after (f ls)))
  unfolding write_step txn_at
  writes k x p ls = both (is_there k p v.me (txn_at v t)) _ _ _ _ (λ _. does _ _ _ ls) (aborts _ ls (f ls))

  -- a page that is here and free is accessed
  accesses : (sc : Scenario) (x : Access) (k p : ℕ) (ls : List Lock) → Follows (access_step sc t x k p (relocked ls v)) (access_step sc t x k p (after (f ls)))
  unfolding access_step read_step txn_at
  accesses sc (Reads r) k p ls = λ _. does _ _ _ ls
  accesses sc (Writes x) k p ls = writes k x p ls
  accesses sc (Inserts x) k p ls = inserts sc k x p ls

  -- one is accessed with a lock more
  locks : (sc : Scenario) (x : Access) (k p : ℕ) → Follows (access_step sc t x k p (locked t p (lock_of x) v))
      (access_step sc t x k p (locked t p (lock_of x) (after (f v.me.locks))))
  unfolding locked
  locks sc x k p =
      let kind = lock_of x in
      subst (λ (zs : List Lock). Follows (access_step sc t x k p (relocked (add_lock p t kind v.me.locks) v)) (access_step sc t x k p (after zs)))
      (fair.adds v.me.locks p kind rise) (accesses sc x k p (add_lock p t kind v.me.locks))

  -- an access to a page
  on_page : (sc : Scenario) (x : Access) (k p : ℕ) → Follows (page_step sc t x k p v) (page_step sc t x k p (after (f v.me.locks)))
  unfolding page_step
  on_page sc x k p =
      both (not (owns v.me.pages p)) _ _ _ _ (absent_never t p v)
      (freed (conflict v.me.locks p t (lock_of x)) (conflict (f v.me.locks) p t (lock_of x)) _ _ _ _ refl (fair.free v.me.locks p (lock_of x)) (locks sc x k p))

  -- an access by key
  on_key : (sc : Scenario) (x : Access) (k : ℕ) → Follows (key_step sc t x k v) (key_step sc t x k (after (f v.me.locks)))
  unfolding key_step
  on_key sc x k = both (nat_lt max_key k) _ _ _ _ (aborts _ v.me.locks (f v.me.locks)) (on_page sc x k _)

  -- a sum over pages that are here and free
  totals : (r : Reg) (a b : ℕ) (ls : List Lock) → Follows (sum_step t r a b (relocked ls v)) (sum_step t r a b (after (f ls)))
  unfolding sum_step txn_at
  totals r a b ls = sets r _ ls

  -- they are shared
  shared : (r : Reg) (a b : ℕ) (ps : List ℕ) → Follows (sum_step t r a b (shares t ps v)) (sum_step t r a b (shares t ps (after (f v.me.locks))))
  unfolding shares
  shared r a b ps =
      subst (λ (zs : List Lock). Follows (sum_step t r a b (relocked (share_all ps t v.me.locks) v)) (sum_step t r a b (after zs)))
      (shares_fair t f fair ps v.me.locks rise) (totals r a b (share_all ps t v.me.locks))

  -- a sum, where a page may be locked
  sum_waits : (r : Reg) (a b : ℕ) (o u : Option ℕ) → (o ≡ None → u ≡ None) → Follows (sum_or_waits t r a b o v) (sum_or_waits t r a b u (after (f v.me.locks)))
  unfolding sum_or_waits
  sum_waits r a b (Some p) u free h = never h
  sum_waits r a b None u free h = rw (free refl) (shared r a b (range_pages v.me.lows a b) h)

  -- a sum, where a page may be away
  sum_asks : (r : Reg) (a b : ℕ) (o : Option ℕ) → Follows (sum_or_asks t r a b o v) (sum_or_asks t r a b o (after (f v.me.locks)))
  unfolding sum_or_asks
  sum_asks r a b (Some p) = absent_never t p v
  sum_asks r a b None = sum_waits r a b _ _ (free_fair t f fair (range_pages v.me.lows a b) v.me.locks)

  -- a sum
  sums : (r : Reg) (a b : ℕ) → Follows (range_step t r a b v) (range_step t r a b (after (f v.me.locks)))
  unfolding range_step
  sums r a b =
      both (nat_lt b a) _ _ _ _ (sets r 0 v.me.locks)
      (both (nat_lt max_key b) _ _ _ _ (aborts _ v.me.locks (f v.me.locks)) (sum_asks r a b _))

  -- a commit
  commits : (o : Option ℕ) (u : Option ℕ) → Follows (commit_or_gone t o v) (commit_or_gone t u (after (f v.me.locks)))
  unfolding commit_or_gone abort_step
  commits (Some p) u = never
  commits None u = never

  -- an effect
  effects : (sc : Scenario) (e : Effect) → Follows (effect_step sc t e v) (effect_step sc t e (after (f v.me.locks)))
  unfolding effect_step commit_step
  effects sc (Sets r x) = sets r x v.me.locks
  effects sc (Jumps taken to) = jumps taken to v.me.locks
  effects sc (Accesses i k) = on_key sc i k
  effects sc (Sums r a b) = sums r a b
  effects sc Commits = commits _ _
  effects sc Aborts = aborts _ v.me.locks (f v.me.locks)

  -- an instruction
  instr : (sc : Scenario) (o : Option Instr) (regs : List ℕ) → Follows (instr_step sc t o regs v) (instr_step sc t o regs (after (f v.me.locks)))
  unfolding instr_step
  instr sc None regs = never
  instr sc (Some i) regs = effects sc (effect_of i regs)

  -- a node runs t
  runs : (sc : Scenario) (n : Node) → Follows (run_step sc n t v) (run_step sc n t (after (f v.me.locks)))
  unfolding run_step txn_at
  runs sc n =
      both (not (is_active (txn_at v t).status)) _ _ _ _ never
      (both (not (same_node (txn_at v t).node n)) _ _ _ _ never
      (freed (is_waiting v.me.mode) (is_waiting mode) _ _ _ _ refl (λ _. awake)
      (instr sc (slice_get _ (txn_at v t).pc) (txn_at v t).regs)))

  -- so where the first run's outcome is `did`
  pub did_went : (sc : Scenario) (n : Node) → (run_step sc n t v).outcome ≡ Did
      → Went t f mode v (run_step sc n t v) (run_step sc n t (after (f v.me.locks)))
  did_went sc n e = runs sc n (ap is_did e)

-- t is active at n, where transactions run
pub record IsRunning (n : Node) (t : ℕ) (v : View) : Type 0 where
  pub active : is_active (txn_at v t).status ≡ true
  pub here : same_node (txn_at v t).node n ≡ true
  pub awake : is_waiting v.me.mode ≡ false

-- a transaction that did an instruction is active at the node that ran it
pub stands : (sc : Scenario) (n : Node) (t : ℕ) (v : View) → (run_step sc n t v).outcome ≡ Did → IsRunning n t v
unfolding run_step
stands sc n t v e =
    let x = txn_at v t in
    cond_both (not (is_active x.status)) _ _ (λ (m : Move). is_did m.outcome ≡ true → IsRunning n t v)
    (λ _. never)
    (λ on. cond_both (not (same_node x.node n)) _ _ (λ (m : Move). is_did m.outcome ≡ true → IsRunning n t v)
    (λ _. never)
    (λ here. cond_both (is_waiting v.me.mode) _ _ (λ (m : Move). is_did m.outcome ≡ true → IsRunning n t v)
    (λ _. never)
    (λ awake _. record { active = not-false _ on; here = not-false _ here; awake = awake })))
    (ap is_did e)
