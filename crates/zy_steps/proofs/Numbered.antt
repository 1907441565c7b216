-- The number of a commit is how many commits there are with it: each run, line by line.
use Rattle.std.proofs.Common.{◌≡◌, ◌∙◌, ℕ, ◌+◌, ◌++◌, List, [], ◌∷◌, length, length-append, refl, sym, ap, arith, not, nat_lt, nat_le, Option, Some, None}
use Rattle.std.specs.Prelude.{slice_get}
use Rattle.std.proofs.lemmas.Bool.{cond_both}
use Rattle.zy_isa.specs.Limits.{max_key}
use Rattle.zy_isa.specs.declared.node.Node.{Node}
use Rattle.zy_isa.specs.declared.instr.Reg.{Reg}
use Rattle.zy_isa.specs.declared.instr.Instr.{Instr}
use Rattle.zy_isa.specs.Scenario.{Scenario}
use Rattle.zy_model.specs.Locks.{conflict}
use Rattle.zy_model.specs.Table.{may_split, may_pull, is_waiting}
use Rattle.zy_table.specs.declared.access.Access.{Access}
use Rattle.zy_table.specs.declared.access.Access.TheVariants.{Reads, Writes, Inserts}
use Rattle.zy_table.specs.declared.effect.Effect.{Effect}
use Rattle.zy_table.specs.declared.effect.Effect.TheVariants.{Sets, Jumps, Accesses, Sums, Commits, Aborts}
use Rattle.zy_table.specs.declared.entry.CommitRecord.{CommitRecord}
use Rattle.zy_table.specs.declared.outcome.Outcome.{Outcome}
use Rattle.zy_table.specs.declared.outcome.Outcome.TheVariants as outcome
use Rattle.zy_table.specs.State.{View, Move}
use Rattle.zy_table.specs.Numbers.{has}
use Rattle.zy_table.specs.Pages.{owns}
use Rattle.zy_table.specs.Change.{txn_at, committed, locked}
use Rattle.zy_table.specs.Effects.{effect_of}
use Rattle.zy_table.specs.Client.{is_active}
use Rattle.zy_table.specs.Run.{same_node, abort_step, set_step, jump_step, commit_or_gone, commit_step, absent_step, read_step, is_there, write_step}
use Rattle.zy_table.specs.Run.{has_room, full_step, split_step, insert_step, lock_of, access_step, page_step, key_step, sum_step, sum_or_waits}
use Rattle.zy_table.specs.Run.{sum_or_asks, range_step, effect_step, instr_step, run_step}
use Rattle.zy_steps.specs.Reads.{uncounted}

-- an outcome with this number, if it is a commit
abbrev numbered : ℕ → Outcome → Outcome
numbered k (outcome.Committed i) = outcome.Committed k
numbered k o = o

-- a commit has as its number how many commits there are after it
abbrev IsNumbered : Move → Type 0
IsNumbered m = m.outcome ≡ numbered (length m.after.commits) m.outcome

module _ (sc : Scenario) (t : ℕ) where
  -- a row is written
  writes : (k x p : ℕ) (v : View) → IsNumbered (write_step t k x p v)
  unfolding write_step abort_step
  writes k x p v = cond_both (is_there k p v.me (txn_at v t)) _ _ IsNumbered (λ _. refl) (λ _. refl)

  -- a row on a full page
  full : (k p : ℕ) (v : View) → IsNumbered (full_step sc t k p v)
  unfolding full_step split_step abort_step
  full k p v =
      cond_both (not (may_split v.me.mode)) _ _ IsNumbered (λ _. refl)
      (λ _. cond_both (nat_le sc.pages (length v.me.lows)) _ _ IsNumbered (λ _. refl) (λ _. refl))

  -- a row is inserted
  inserts : (k x p : ℕ) (v : View) → IsNumbered (insert_step sc t k x p v)
  unfolding insert_step abort_step
  inserts k x p v =
      cond_both (is_there k p v.me (txn_at v t)) _ _ IsNumbered (λ _. refl)
      (λ _. cond_both (has_room sc p v.me (txn_at v t)) _ _ IsNumbered (λ _. refl) (λ _. full k p v))

  -- a page that is here and free is accessed
  accesses : (i : Access) (k p : ℕ) (v : View) → IsNumbered (access_step sc t i k p v)
  unfolding access_step read_step
  accesses (Reads r) k p v = refl
  accesses (Writes x) k p v = writes k x p v
  accesses (Inserts x) k p v = inserts k x p v

  -- a page that is not here
  absent : (p : ℕ) (v : View) → IsNumbered (absent_step t p v)
  unfolding absent_step abort_step
  absent p v =
      cond_both (not (may_pull v.me.mode)) _ _ IsNumbered (λ _. refl)
      (λ _. cond_both (has v.me.asked p) _ _ IsNumbered (λ _. refl) (λ _. refl))

  -- an access to a page
  on_page : (i : Access) (k p : ℕ) (v : View) → IsNumbered (page_step sc t i k p v)
  unfolding page_step
  on_page i k p v =
      cond_both (not (owns v.me.pages p)) _ _ IsNumbered (λ _. absent p v)
      (λ _. cond_both (conflict v.me.locks p t (lock_of i)) _ _ IsNumbered (λ _. refl) (λ _. accesses i k p (locked t p (lock_of i) v)))

  -- an access by key
  on_key : (i : Access) (k : ℕ) (v : View) → IsNumbered (key_step sc t i k v)
  unfolding key_step abort_step
  on_key i k v = cond_both (nat_lt max_key k) _ _ IsNumbered (λ _. refl) (λ _. on_page i k _ v)

  -- a sum, where a page may be locked
  sum_waits : (r : Reg) (a b : ℕ) (o : Option ℕ) (v : View) → IsNumbered (sum_or_waits t r a b o v)
  unfolding sum_or_waits sum_step set_step
  sum_waits r a b (Some p) v = refl
  sum_waits r a b None v = refl

  -- a sum, where a page may be away
  sum_asks : (r : Reg) (a b : ℕ) (o : Option ℕ) (v : View) → IsNumbered (sum_or_asks t r a b o v)
  unfolding sum_or_asks
  sum_asks r a b (Some p) v = absent p v
  sum_asks r a b None v = sum_waits r a b _ v

  -- a sum
  sums : (r : Reg) (a b : ℕ) (v : View) → IsNumbered (range_step t r a b v)
  unfolding range_step set_step abort_step
  sums r a b v =
      cond_both (nat_lt b a) _ _ IsNumbered (λ _. refl)
      (λ _. cond_both (nat_lt max_key b) _ _ IsNumbered (λ _. refl) (λ _. sum_asks r a b _ v))

  -- one commit more
  one_more : (cs : List CommitRecord) (c : CommitRecord) → length cs + 1 ≡ length (cs ++ c ∷ [])
  one_more cs c = omega (arith, length-append cs (c ∷ []))

  -- a commit
  commits : (o : Option ℕ) (v : View) → IsNumbered (commit_or_gone t o v)
  unfolding commit_or_gone abort_step committed
  commits (Some p) v = refl
  commits None v = ap outcome.Committed (one_more v.commits _)

  -- an effect
  effects : (e : Effect) (v : View) → IsNumbered (effect_step sc t e v)
  unfolding effect_step set_step jump_step abort_step commit_step
  effects (Sets r x) v = refl
  effects (Jumps taken to) v = refl
  effects (Accesses i k) v = on_key i k v
  effects (Sums r a b) v = sums r a b v
  effects Commits v = commits _ v
  effects Aborts v = refl

  -- an instruction
  instr : (o : Option Instr) (regs : List ℕ) (v : View) → IsNumbered (instr_step sc t o regs v)
  unfolding instr_step
  instr None regs v = refl
  instr (Some i) regs v = effects (effect_of i regs) v

  -- a node runs t
  runs : (n : Node) (v : View) → IsNumbered (run_step sc n t v)
  unfolding run_step
  runs n v =
      cond_both (not (is_active (txn_at v t).status)) _ _ IsNumbered (λ _. refl)
      (λ _. cond_both (not (same_node (txn_at v t).node n)) _ _ IsNumbered (λ _. refl)
      (λ _. cond_both (is_waiting v.me.mode) _ _ IsNumbered (λ _. refl)
      (λ _. instr (slice_get _ (txn_at v t).pc) (txn_at v t).regs v)))

-- a number in place of another
renumbered : (k : ℕ) (o : Outcome) → numbered k (uncounted o) ≡ numbered k o
renumbered k (outcome.Committed i) = refl
renumbered k o = refl

-- two runs have the same outcome, if it is the same but for the number, and there are as many commits after both
pub same_outcome : (sc : Scenario) (n m : Node) (t u : ℕ) (v w : View) → uncounted (run_step sc n t v).outcome ≡ uncounted (run_step sc m u w).outcome
    → (run_step sc n t v).after.commits ≡ (run_step sc m u w).after.commits → (run_step sc n t v).outcome ≡ (run_step sc m u w).outcome
same_outcome sc n m t u v w e f =
    let x = run_step sc n t v in
    let y = run_step sc m u w in
    let k = length y.after.commits in
    runs sc t n v
    ∙ (ap (λ (cs : List CommitRecord). numbered (length cs) x.outcome) f
    ∙ (sym (renumbered k x.outcome)
    ∙ (ap (numbered k) e
    ∙ (renumbered k y.outcome
    ∙ sym (runs sc u m w)))))
