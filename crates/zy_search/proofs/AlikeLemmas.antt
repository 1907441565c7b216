-- States that are alike show the same.
use Rattle.std.proofs.Common.{◌≡◌, ◌∙◌, ◌&&◌, ◌==◌, ℕ, zero, suc, List, length, slice_get, not, Bool, true, false, Option, None, Some}
use Rattle.std.proofs.Common.{refl, sym, ap, filter}
use Rattle.std.proofs.Math.Path.{fun_ext}
use Rattle.std.proofs.lemmas.List.{length-map}
use Rattle.std.specs.List.{list_any, list_all}
use Rattle.zy_isa.specs.declared.node.Node.{Node}
use Rattle.zy_isa.specs.declared.node.Node.TheVariants.{A, B}
use Rattle.zy_isa.specs.declared.choice.Choice.{Choice}
use Rattle.zy_isa.specs.declared.choice.Choice.TheVariants.{Run}
use Rattle.zy_isa.specs.Scenario.{Scenario}
use Rattle.zy_model.specs.declared.lock.Lock.{Lock}
use Rattle.zy_model.specs.Locks.{holds}
use Rattle.zy_table.specs.declared.outcome.Outcome.{Outcome}
use Rattle.zy_table.specs.declared.outcome.Outcome.TheVariants as outcome
use Rattle.zy_table.specs.State.{State, Txn, facing}
use Rattle.zy_table.specs.Change.{txn_or, txn_at}
use Rattle.zy_table.specs.Client.{is_active}
use Rattle.zy_table.specs.Database.{database}
use Rattle.zy_table.specs.Run.{run_step}
use Rattle.zy_table.specs.Play.{move, step, play}
use Rattle.zy_serial.specs.SameMaps.{is_serial}
use Rattle.zy_steps.specs.declared.part.StatePart.TheVariants.{Live}
use Rattle.zy_steps.specs.Alike.{live_txn, part_of, Alike}
use Rattle.zy_goals.specs.declared.goal.Selector.TheVariants as selector
use Rattle.zy_goals.specs.declared.goal.TxnProperty.TheVariants as property
use Rattle.zy_patterns.specs.declared.patterns.OutcomePattern.{OutcomePattern}
use Rattle.zy_goals.specs.Txns.{selected_have}
use Rattle.zy_goals.specs.Goals.{Context, meets}
use Rattle.zy_goals.specs.Footprints.{reads_ended}
use Rattle.zy_patterns.specs.Patterns.{matches}
use Rattle.zy_steps.proofs.LiveLemmas.{live_status, live_at}
use Rattle.zy_goals.proofs.FootprintLemmas.{live_selected, live_goal}
use Rattle.zy_search.specs.declared.kinds.ChoiceKinds.{ChoiceKinds}
use Rattle.zy_search.specs.declared.sought.Sought.{Sought}
use Rattle.zy_search.specs.declared.deadlock.Wait.{Wait}
use Rattle.zy_search.specs.Choices.{considered}
use Rattle.zy_search.specs.Stuck.{is_still, is_stuck}
use Rattle.zy_search.specs.Deadlocks.{node_of, wait_in, wait_of, with_wait, waits_below, is_for, kept, left, is_deadlocked}
use Rattle.zy_search.specs.Searches.{context_of, may_follow, shows, Shows}
use Rattle.zy_search.specs.Visits.{counted_if, counted}
use Rattle.zy_steps.proofs.AlikeSteps.{live_active, live_outcome, alike_play}

-- ---- what is live of a state

abbrev context : Bool → Bool → Bool → Context
context differs stuck deadlock = record { differs = differs; stuck = stuck; deadlock = deadlock }

module _ (sc : Scenario) (s : State) where
  abbrev live : State
  live = part_of Live s

  -- the outcomes of the choices in a state
  abbrev outcomes_in : State → Choice → Outcome
  outcomes_in x c = (step sc c x).outcome

  -- each choice has one outcome in both
  outcomes : outcomes_in live ≡ outcomes_in s
  outcomes = fun_ext (live_outcome sc s)

  -- the serial run leaves the same rows
  live_serial : is_serial sc live ≡ is_serial sc s
  unfolding database
  live_serial = refl

  -- both are stuck or neither is
  live_stuck : (kinds : ChoiceKinds) → is_stuck sc kinds live ≡ is_stuck sc kinds s
  live_stuck kinds =
      let cs = considered kinds (length sc.programs) in
      ap (λ b. b && list_all (λ c. is_still (step sc c live).outcome) cs) (live_selected selector.Any property.Active s.txns refl)
      ∙ ap (λ (out : Choice → Outcome). selected_have selector.Any property.Active s.txns && list_all (λ c. is_still (out c)) cs) outcomes

  -- a choice may have an outcome in both or in neither
  live_follows : (kinds : ChoiceKinds) (o : Option OutcomePattern) → may_follow sc kinds o live ≡ may_follow sc kinds o s
  live_follows kinds None = refl
  live_follows kinds (Some x) =
      ap (λ (out : Choice → Outcome). list_any (λ c. matches x (out c)) (considered kinds (length sc.programs))) outcomes

  -- ---- waits

  -- a run of one that is not active is idle, at whichever node
  idle : (x : State) (t : ℕ) (n : Node) → is_active (txn_or (slice_get x.txns t)).status ≡ false → (step sc (Run n t) x).outcome ≡ outcome.Idle
  unfolding step move run_step txn_at
  idle x t A e = rw e refl
  idle x t B e = rw e refl

  -- so it does not wait
  no_wait : (x : State) (t : ℕ) → is_active (txn_or (slice_get x.txns t)).status ≡ false → wait_of sc x t ≡ None
  no_wait x t e = ap (wait_in t (node_of x t)) (idle x t (node_of x t) e)

  -- t waits alike
  live_wait_if : (t : ℕ) (b : Bool) → is_active (txn_or (slice_get s.txns t)).status ≡ b → wait_of sc live t ≡ wait_of sc s t
  live_wait_if t true e =
      let x = txn_or (slice_get s.txns t) in
      let node : node_of live t ≡ node_of s t = ap (λ (y : Txn). y.node) (live_at s.txns t ∙ live_active x e) in
      ap (λ (n : Node). wait_in t n (step sc (Run n t) live).outcome) node ∙ ap (wait_in t (node_of s t)) (live_outcome sc s (Run (node_of s t) t))
  live_wait_if t false e =
      let x = txn_or (slice_get s.txns t) in
      let status = ap (λ (y : Txn). y.status) (live_at s.txns t) ∙ live_status x in
      no_wait live t (ap is_active status ∙ e) ∙ sym (no_wait s t e)

  live_wait : (t : ℕ) → wait_of sc live t ≡ wait_of sc s t
  live_wait t = live_wait_if t (is_active (txn_or (slice_get s.txns t)).status) refl

  -- so do all
  live_waits : (n : ℕ) → waits_below sc live n ≡ waits_below sc s n
  live_waits zero = refl
  live_waits (suc n) = ap (λ ws. with_wait ws (wait_of sc live n)) (live_waits n) ∙ ap (with_wait (waits_below sc s n)) (live_wait n)

  -- the locks are the same
  live_locks : (n : Node) → (facing n live).me.locks ≡ (facing n s).me.locks
  live_locks A = refl
  live_locks B = refl

  -- they wait for the same ones
  live_for : is_for live ≡ is_for s
  live_for = fun_ext (λ w. fun_ext (λ x. ap (λ (locks : List Lock). not (x.txn == w.txn) && holds locks w.page x.txn) (live_locks w.node)))

  -- the same ones are left
  live_left : (ws : List Wait) (n : ℕ) → left live ws n ≡ left s ws n
  live_left ws zero = refl
  live_left ws (suc n) =
      ap (λ (is : Wait → Wait → Bool). filter (λ (w : Wait). list_any (λ (x : Wait). is w x) (left live ws n)) (left live ws n)) live_for
      ∙ ap (kept s) (live_left ws n)

  -- some wait in a cycle in both or in neither
  live_deadlock : is_deadlocked sc live ≡ is_deadlocked sc s
  live_deadlock =
      let waits = ap (waits_below sc live) (length-map s.txns live_txn) ∙ live_waits (length s.txns) in
      ap (λ (ws : List Wait). not (length (left live ws (length ws)) == 0)) waits
      ∙ (let ws = waits_below sc s (length s.txns) in ap (λ (l : List Wait). not (length l == 0)) (live_left ws (length ws)))

  -- ---- what is looked for

  live_context : (kinds : ChoiceKinds) → context_of sc kinds live ≡ context_of sc kinds s
  live_context kinds =
      ap (λ (b : Bool). context (not b) (is_stuck sc kinds live) (is_deadlocked sc live)) live_serial
      ∙ (ap (λ (b : Bool). context (not (is_serial sc s)) b (is_deadlocked sc live)) (live_stuck kinds)
      ∙ ap (context (not (is_serial sc s)) (is_stuck sc kinds s)) live_deadlock)

  -- where the goal reads nothing of what ended transactions had
  live_shows : (q : Sought) → reads_ended q.goal ≡ false → shows sc q live ≡ shows sc q s
  live_shows q e =
      ap (λ (x : Context). meets x q.goal live && may_follow sc q.kinds q.then live) (live_context q.kinds)
      ∙ (ap (λ b. b && may_follow sc q.kinds q.then live) (live_goal s (context_of sc q.kinds s) q.goal e)
      ∙ ap (λ b. meets (context_of sc q.kinds s) q.goal s && b) (live_follows q.kinds q.then))

-- ---- what counts of a state

-- it shows what the state does
shows_if : (sc : Scenario) (q : Sought) (s : State) (b : Bool) → reads_ended q.goal ≡ b → shows sc q (part_of (counted_if b) s) ≡ shows sc q s
shows_if sc q s true e = refl
shows_if sc q s false e = live_shows sc s q e

shows_counted : (sc : Scenario) (q : Sought) (s : State) → shows sc q (part_of (counted q) s) ≡ shows sc q s
shows_counted sc q s = shows_if sc q s (reads_ended q.goal) refl

-- so alike states show the same
pub alike_shows : (sc : Scenario) (q : Sought) (s t : State) → Alike (counted q) s t → Shows sc q s → Shows sc q t
alike_shows sc q s t e shown = sym (shows_counted sc q t) ∙ (ap (shows sc q) (sym e) ∙ (shows_counted sc q s ∙ shown))

-- and the same choices lead from them to states that do
pub alike_leads : (sc : Scenario) (q : Sought) (s t : State) (cs : List Choice) → Alike (counted q) s t → Shows sc q (play sc s cs)
    → Shows sc q (play sc t cs)
alike_leads sc q s t cs e shown = alike_shows sc q (play sc s cs) (play sc t cs) (alike_play (counted q) sc cs s t e) shown
