-- A run whose outcome is `did` or an abort: line by line.
use Rattle.std.proofs.Common.{◌≡◌, ◌∙◌, ℕ, zero, suc, List, [], ◌∷◌, refl, sym, ap, subst, true, false, not, nat_lt, nat_le, Option, Some, None, length}
use Rattle.std.specs.Prelude.{slice_get, slice_set}
use Rattle.std.proofs.lemmas.Bool.{cond_both, false≢true}
use Rattle.zy_isa.specs.Limits.{max_key}
use Rattle.zy_isa.specs.declared.node.Node.{Node}
use Rattle.zy_isa.specs.declared.instr.Reg.{Reg}
use Rattle.zy_isa.specs.declared.instr.Instr.{Instr}
use Rattle.zy_isa.specs.declared.choice.Choice.TheVariants.{Run}
use Rattle.zy_isa.specs.Scenario.{Scenario}
use Rattle.zy_model.specs.declared.lock.Lock.{Lock}
use Rattle.zy_model.specs.Locks.{conflict}
use Rattle.zy_model.specs.Table.{may_split, may_pull, is_waiting}
use Rattle.zy_table.specs.declared.access.Access.{Access}
use Rattle.zy_table.specs.declared.access.Access.TheVariants.{Reads, Writes, Inserts}
use Rattle.zy_table.specs.declared.effect.Effect.{Effect}
use Rattle.zy_table.specs.declared.effect.Effect.TheVariants.{Sets, Jumps, Accesses, Sums, Commits, Aborts}
use Rattle.zy_table.specs.declared.outcome.Why.{Why}
use Rattle.zy_table.specs.State.{State, View, Move, Txn, facing, with_me}
use Rattle.zy_table.specs.Numbers.{has}
use Rattle.zy_table.specs.Pages.{owns}
use Rattle.zy_table.specs.Change.{txn_at, txn_or, did, aborted, locked, shares}
use Rattle.zy_table.specs.Effects.{effect_of}
use Rattle.zy_table.specs.Client.{is_active}
use Rattle.zy_table.specs.Run.{same_node, abort_step, set_step, jump_step, commit_or_gone, commit_step, absent_step, read_step, is_there, write_step}
use Rattle.zy_table.specs.Run.{has_room, full_step, split_step, insert_step, lock_of, access_step, page_step, key_step, sum_step, sum_or_waits}
use Rattle.zy_table.specs.Run.{sum_or_asks, range_step, effect_step, instr_step, run_step}
use Rattle.zy_table.specs.Play.{move, step}
use Rattle.zy_steps.specs.Frames.{TxnAndLocks, is_by_itself, taken_back}
use Rattle.zy_steps.proofs.Rest.{face}

-- a move of t from v that is by itself changes t and locks
abbrev Keeps : ℕ → View → Move → Type 0
Keeps t v m = is_by_itself m.outcome ≡ true → TxnAndLocks t v m.after

-- it is not by itself
never : {X : Type 0} → false ≡ true → X
never e = absurd (false≢true e)

-- the view with other locks
abbrev relocked : List Lock → View → View
relocked ls v = with_me (record v.me { locks = ls }) v

-- Transaction t of a view, whose locks may be others by now.
module _ (t : ℕ) (v : View) where
  -- an abort
  aborts : (w : Why) (ls : List Lock) → Keeps t v (abort_step t w (relocked ls v))
  unfolding abort_step aborted
  aborts w ls _ = (_, _, refl)

  -- a register is set
  sets : (r : Reg) (x : ℕ) (ls : List Lock) → Keeps t v (set_step t r x (relocked ls v))
  unfolding set_step did
  sets r x ls _ = (_, ls, refl)

  -- a row on a full page
  full : (sc : Scenario) (k p : ℕ) (ls : List Lock) → Keeps t v (full_step sc t k p (relocked ls v))
  unfolding full_step split_step
  full sc k p ls =
      cond_both (not (may_split v.me.mode)) _ _ (Keeps t v)
      (λ _. aborts _ ls)
      (λ _. cond_both (nat_le sc.pages (length v.me.lows)) _ _ (Keeps t v)
      (λ _. aborts _ ls)
      (λ _. never))

  -- a row is inserted
  inserts : (sc : Scenario) (k x p : ℕ) (ls : List Lock) → Keeps t v (insert_step sc t k x p (relocked ls v))
  unfolding insert_step did
  inserts sc k x p ls =
      let s = relocked ls v in
      cond_both (is_there k p s.me (txn_at s t)) _ _ (Keeps t v)
      (λ _. aborts _ ls)
      (λ _. cond_both (has_room sc p s.me (txn_at s t)) _ _ (Keeps t v)
      (λ _ _. (_, ls, refl))
      (λ _. full sc k p ls))

  -- a row is written
  writes : (k x p : ℕ) (ls : List Lock) → Keeps t v (write_step t k x p (relocked ls v))
  unfolding write_step did
  writes k x p ls =
      let s = relocked ls v in
      cond_both (is_there k p s.me (txn_at s t)) _ _ (Keeps t v)
      (λ _ _. (_, ls, refl))
      (λ _. aborts _ ls)

  -- a page that is here and free is accessed
  accesses : (sc : Scenario) (x : Access) (k p : ℕ) (ls : List Lock) → Keeps t v (access_step sc t x k p (relocked ls v))
  unfolding access_step read_step did
  accesses sc (Reads r) k p ls = λ _. (_, ls, refl)
  accesses sc (Writes x) k p ls = writes k x p ls
  accesses sc (Inserts x) k p ls = inserts sc k x p ls

  -- a page that is not here
  absent : (p : ℕ) → Keeps t v (absent_step t p v)
  unfolding absent_step
  absent p =
      cond_both (not (may_pull v.me.mode)) _ _ (Keeps t v)
      (λ _. aborts _ v.me.locks)
      (λ _. cond_both (has v.me.asked p) _ _ (Keeps t v)
      (λ _. never)
      (λ _. never))

  -- an access to a page
  on_page : (sc : Scenario) (x : Access) (k p : ℕ) → Keeps t v (page_step sc t x k p v)
  unfolding page_step locked
  on_page sc x k p =
      cond_both (not (owns v.me.pages p)) _ _ (Keeps t v)
      (λ _. absent p)
      (λ _. cond_both (conflict v.me.locks p t (lock_of x)) _ _ (Keeps t v)
      (λ _. never)
      (λ _. accesses sc x k p _))

  -- an access by key
  on_key : (sc : Scenario) (x : Access) (k : ℕ) → Keeps t v (key_step sc t x k v)
  unfolding key_step
  on_key sc x k =
      cond_both (nat_lt max_key k) _ _ (Keeps t v)
      (λ _. aborts _ v.me.locks)
      (λ _. on_page sc x k _)

  -- a sum, where a page may be locked
  sum_waits : (r : Reg) (a b : ℕ) (o : Option ℕ) → Keeps t v (sum_or_waits t r a b o v)
  unfolding sum_or_waits sum_step shares
  sum_waits r a b (Some p) = never
  sum_waits r a b None = sets r _ _

  -- a sum, where a page may be away
  sum_asks : (r : Reg) (a b : ℕ) (o : Option ℕ) → Keeps t v (sum_or_asks t r a b o v)
  unfolding sum_or_asks
  sum_asks r a b (Some p) = absent p
  sum_asks r a b None = sum_waits r a b _

  -- a sum
  sums : (r : Reg) (a b : ℕ) → Keeps t v (range_step t r a b v)
  unfolding range_step
  sums r a b =
      cond_both (nat_lt b a) _ _ (Keeps t v)
      (λ _. sets r 0 v.me.locks)
      (λ _. cond_both (nat_lt max_key b) _ _ (Keeps t v)
      (λ _. aborts _ v.me.locks)
      (λ _. sum_asks r a b _))

  -- a commit
  commits : (o : Option ℕ) → Keeps t v (commit_or_gone t o v)
  unfolding commit_or_gone
  commits (Some p) = aborts _ v.me.locks
  commits None = never

  -- an effect
  effects : (sc : Scenario) (e : Effect) → Keeps t v (effect_step sc t e v)
  unfolding effect_step jump_step commit_step did
  effects sc (Sets r x) = sets r x v.me.locks
  effects sc (Jumps taken to) = λ _. (_, v.me.locks, refl)
  effects sc (Accesses i k) = on_key sc i k
  effects sc (Sums r a b) = sums r a b
  effects sc Commits = commits _
  effects sc Aborts = aborts _ v.me.locks

  -- an instruction
  instr : (sc : Scenario) (o : Option Instr) (regs : List ℕ) → Keeps t v (instr_step sc t o regs v)
  unfolding instr_step
  instr sc None regs = never
  instr sc (Some i) regs = effects sc (effect_of i regs)

  -- a node runs t
  runs : (sc : Scenario) (n : Node) → Keeps t v (run_step sc n t v)
  unfolding run_step
  runs sc n =
      cond_both (not (is_active (txn_at v t).status)) _ _ (Keeps t v)
      (λ _. never)
      (λ _. cond_both (not (same_node (txn_at v t).node n)) _ _ (Keeps t v)
      (λ _. never)
      (λ _. cond_both (is_waiting v.me.mode) _ _ (Keeps t v)
      (λ _. never)
      (λ _. instr sc _ _)))

-- a run from any state
pub run_keeps : (sc : Scenario) (n : Node) (t : ℕ) (s : State) → is_by_itself (step sc (Run n t) s).outcome ≡ true
    → TxnAndLocks t (facing n s) (facing n (step sc (Run n t) s).after)
unfolding step move
run_keeps sc n t s h = subst (λ w. TxnAndLocks t (facing n s) w) (sym (face n _)) (runs t (facing n s) sc n h)

-- a transaction that was set is set to what it was
set_back : (t : ℕ) (x : Txn) (xs : List Txn) → slice_set (slice_set xs t x) t (txn_or (slice_get xs t)) ≡ xs
set_back t x [] = refl
set_back zero x (y ∷ ys) = refl
set_back (suc t) x (y ∷ ys) = ap (λ zs. y ∷ zs) (set_back t x ys)

-- a run is taken back
pub run_taken_back : (sc : Scenario) (n : Node) (t : ℕ) (s : State) → is_by_itself (step sc (Run n t) s).outcome ≡ true
    → taken_back t (facing n s) (facing n (step sc (Run n t) s).after) ≡ facing n s
unfolding txn_at
run_taken_back sc n t s h =
    let v = facing n s in
    let k = run_keeps sc n t s h in
    ap (λ w. taken_back t v w) k.2 ∙ ap (λ xs. record v { txns = xs }) (set_back t k.0 v.txns)
