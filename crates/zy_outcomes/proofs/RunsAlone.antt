-- What a run of an active transaction comes to; and where it alone is active, it waits for no lock, and no lock at the other node holds a page back.
use Rattle.std.proofs.Common.{◌≡◌, ◌<◌, ℕ, zero, suc, List, [], ◌∷◌, length, true, false, refl, sym, ap, arith, ◌∙◌, subst, inl, inr}
use Rattle.std.specs.Prelude.{◌==◌, ◌&&◌, Some, not, slice_get}
use Rattle.std.proofs.lemmas.Bool.{and_parts, eq-eqb, false≢true, not-true, or_cases, or_left, or_right}
use Rattle.zy_isa.specs.Scenario.{IsScenario, Scenario}
use Rattle.zy_isa.specs.declared.choice.Choice.{Choice}
use Rattle.zy_isa.specs.declared.choice.Choice.TheVariants.{Run, Take}
use Rattle.zy_isa.specs.declared.instr.Instr.{Instr}
use Rattle.zy_isa.specs.declared.node.Node.{Node}
use Rattle.zy_model.specs.Locks.{clashes, conflict, holds, is_shared}
use Rattle.zy_model.specs.declared.lock.Lock.{Lock}
use Rattle.zy_model.specs.declared.lock.LockKind.{LockKind}
use Rattle.zy_table.specs.Change.{txn_or}
use Rattle.zy_table.specs.Client.{is_active}
use Rattle.zy_table.specs.Holders.{HoldersActive}
use Rattle.zy_table.specs.Play.{move, opening, play, step}
use Rattle.zy_table.specs.Run.{program_of}
use Rattle.zy_table.specs.State.{State, Txn, facing}
use Rattle.zy_table.specs.declared.outcome.Outcome.TheVariants.{Held, Waits}
use Rattle.zy_laws.proofs.counts.SafeCounts.{safe}
use Rattle.zy_laws.proofs.locks.Reached.{holders_active}
use Rattle.zy_laws.proofs.walk.Txns.{at_side}
use Rattle.zy_outcomes.proofs.LockedHere.{holder_of}
use Rattle.zy_outcomes.proofs.Runs.{HasNext, run_tells}
use Rattle.zy_outcomes.proofs.Steps.{step_reason}
use Rattle.zy_outcomes.specs.Accounts.{is_of_run, txn_of}
use Rattle.zy_outcomes.specs.Reasons.{HasReason, IsAlone}

-- a list has an element at each index below its length
slice_get_some : (xs : List Instr) (i : ℕ) → i < length xs → (x : Instr) × (slice_get xs i ≡ Some x)
slice_get_some [] i h = absurd (omega arith)
slice_get_some (x ∷ xs) zero h = (x, refl)
slice_get_some (x ∷ xs) (suc i) h = slice_get_some xs i (omega arith)

-- a lock in the way is held by another
clash_holder : (xs : List Lock) (p t : ℕ) (kind : LockKind) → conflict xs p t kind ≡ true → (u : ℕ) × (holds xs p u ≡ true) × ((u == t) ≡ false)
clash_holder [] p t kind h = absurd (false≢true h)
clash_holder (x ∷ xs) p t kind h = elim (or_cases (clashes p t kind x) (conflict xs p t kind) h) [
  | inl here ↦
      let parts = and_parts (x.page == p) (not (x.txn == t) && not (is_shared x.kind && is_shared kind)) here in
      let other = and_parts (not (x.txn == t)) (not (is_shared x.kind && is_shared kind)) parts.1 in
      let it : ((x.page == p) && (x.txn == x.txn)) ≡ true = rw (parts.0, eq-eqb x.txn x.txn refl) refl in
      (x.txn, or_left _ _ it, not-true _ other.0)
  | inr more ↦ let k = clash_holder xs p t kind more in (k.0, or_right _ _ k.1, k.2)
]

-- who has a lock is t, which is at that node
pub holder_alone : (n : Node) (s : State) (t p u : ℕ) → HoldersActive s → IsAlone s t → holds (facing n s).me.locks p u ≡ true
    → (u ≡ t) × ((txn_of s t).node ≡ n)
holder_alone n s t p u holders alone h =
    let k = holders n p u h in
    let same = alone u (ap (λ (x : Txn). is_active x.status) (sym (at_side n s u)) ∙ k.0) in
    (same, ap (λ z. (txn_of s z).node) (sym same) ∙ ap (λ (x : Txn). x.node) (sym (at_side n s u)) ∙ k.1)

-- it waits for no lock
pub waits_for_none : (sc : Scenario) (s : State) (t p : ℕ) (n : Node) → HoldersActive s → IsAlone s t → (step sc (Run n t) s).outcome ≡ Waits p → ⊥
waits_for_none sc s t p n holders alone said =
    let r = subst (HasReason sc n (facing n s) (Run n t)) said (step_reason sc (Run n t) s) in
    let mine : r.0 ≡ t = let e = r.2.run in cc in
    let c = clash_holder (facing n s).me.locks p r.0 r.1 r.4 in
    let k = holder_alone n s t p c.0 holders alone c.1 in
    false≢true (sym c.2 ∙ eq-eqb _ _ (k.0 ∙ sym mine))

-- a page is held back at its own node alone
held_at_its_node : (sc : Scenario) (s : State) (t p : ℕ) (n : Node) → HoldersActive s → IsAlone s t → (step sc (Take n) s).outcome ≡ Held p
    → (txn_of s t).node ≡ n
held_at_its_node sc s t p n holders alone said =
    let r = subst (HasReason sc n (facing n s) (Take n)) said (step_reason sc (Take n) s) in
    let h = holder_of (facing n s).me.locks p r.4 in
    (holder_alone n s t p h.0 holders alone h.1).1

-- the law: who runs alone waits for no lock
pub alone_waits_for_no_lock : (sc : Scenario) → IsScenario sc → (cs : List Choice) (t p : ℕ) (n : Node) → let s = play sc (opening sc) cs in IsAlone s t
    → ((step sc (Run n t) s).outcome ≡ Waits p → ⊥) × ((step sc (Take n) s).outcome ≡ Held p → (txn_of s t).node ≡ n)
alone_waits_for_no_lock sc ok cs t p n alone =
    let s = play sc (opening sc) cs in
    let holders = holders_active sc ok cs in
    (waits_for_none sc s t p n holders alone, held_at_its_node sc s t p n holders alone)

-- who is active is a transaction of the state
active_within : (xs : List Txn) (t : ℕ) → is_active (txn_or (slice_get xs t)).status ≡ true → t < length xs
active_within [] t h = absurd (false≢true h)
active_within (x ∷ xs) zero h = omega arith
active_within (x ∷ xs) (suc t) h = let k = active_within xs t h in omega (arith, k)

-- the law: a run of an active transaction at its node gets on, or waits for something
pub a_run_gets_on_or_waits : (sc : Scenario) → IsScenario sc → (cs : List Choice) (t : ℕ) → let s = play sc (opening sc) cs in
    is_active (txn_of s t).status ≡ true → is_of_run (step sc (Run (txn_of s t).node t) s).outcome ≡ true
unfolding step move
a_run_gets_on_or_waits sc ok cs t active =
    let s = play sc (opening sc) cs in
    let n = (txn_of s t).node in
    let v = facing n s in
    let x = at_side n s t in
    let safe_all = safe sc ok cs in
    let within = subst (λ m. t < m) safe_all.txns (active_within s.txns t active) in
    let pc = (safe_all.each t within).pc in
    let next : HasNext sc t v = subst (λ (y : Txn). (i : Instr) × (slice_get (program_of sc t) y.pc ≡ Some i)) (sym x) (slice_get_some (program_of sc t) (txn_of s t).pc pc) in
    (run_tells sc n t v).runs (ap (λ (y : Txn). is_active y.status) x ∙ active, ap (λ (y : Txn). y.node) x) next
