-- What a step gives, its choice can give: a walk over the lines of the step table.
use Rattle.std.proofs.Common.{◌≡◌, ℕ, List, [], ◌∷◌, length, true, not, nat_lt, nat_le, ◌&&◌, ◌||◌, Option, Some, None, refl}
use Rattle.std.proofs.lemmas.Bool.{cond_both, or_left, or_right, false≢true}
use Rattle.zy_isa.specs.Limits.{max_key}
use Rattle.zy_isa.specs.declared.node.Node.{Node}
use Rattle.zy_isa.specs.declared.instr.Reg.{Reg}
use Rattle.zy_isa.specs.declared.instr.Instr.{Instr}
use Rattle.zy_isa.specs.declared.choice.Choice.{Choice}
use Rattle.zy_isa.specs.declared.choice.Choice.TheVariants.{Start, Begin, Kill, Run, Take, Finish as Finish_at, Push}
use Rattle.zy_isa.specs.Scenario.{Scenario}
use Rattle.zy_model.specs.Locks.{conflict, is_locked}
use Rattle.zy_model.specs.Messages.{Message, Wire, Ready, Dual, Pull, Page, Finish, Done}
use Rattle.zy_model.specs.declared.table.MessageLine.{MessageLine}
use Rattle.zy_model.specs.declared.table.MessageLine.TheVariants.{Stray, Turns}
use Rattle.zy_model.specs.declared.table.FinishLine.{FinishLine}
use Rattle.zy_model.specs.declared.table.FinishLine.TheVariants as fin
use Rattle.zy_model.specs.Table.{may_start, may_split, may_pull, may_push, is_waiting}
use Rattle.zy_table.specs.declared.access.Access.{Access}
use Rattle.zy_table.specs.declared.access.Access.TheVariants.{Reads, Writes, Inserts}
use Rattle.zy_table.specs.declared.effect.Effect.{Effect}
use Rattle.zy_table.specs.declared.effect.Effect.TheVariants.{Sets, Jumps, Accesses, Sums, Commits, Aborts}
use Rattle.zy_table.specs.declared.outcome.Why.{Why}
use Rattle.zy_table.specs.declared.outcome.Why.TheVariants as why
use Rattle.zy_table.specs.declared.outcome.Outcome.{Outcome}
use Rattle.zy_table.specs.declared.outcome.Outcome.TheVariants as outcome
use Rattle.zy_table.specs.State.{State, View, Move, facing}
use Rattle.zy_table.specs.Numbers.{has}
use Rattle.zy_table.specs.Pages.{owns}
use Rattle.zy_table.specs.Change.{txn_at, locked}
use Rattle.zy_table.specs.Effects.{effect_of}
use Rattle.zy_table.specs.Client.{is_new, is_active, start_step, begin_at, begin_step, kill_step}
use Rattle.zy_table.specs.Push.{finish_if, finish_step, push_if, push_step}
use Rattle.zy_table.specs.Run.{same_node, abort_step, set_step, jump_step, commit_or_gone, commit_step, absent_step, read_step, is_there, write_step, has_room}
use Rattle.zy_table.specs.Run.{split_step, full_step, insert_step, lock_of, access_step, page_step, key_step, sum_step, sum_or_waits, sum_or_asks, range_step}
use Rattle.zy_table.specs.Run.{effect_step, instr_step, run_step}
use Rattle.zy_table.specs.Take.{is_held, outcome_of, arrival_step, pull_step, message_step, front_step, take_step}
use Rattle.zy_table.specs.Play.{move, side_of, step}
use Rattle.zy_patterns.specs.declared.patterns.ReasonPattern.{ReasonPattern}
use Rattle.zy_patterns.specs.declared.patterns.ReasonPattern.TheVariants as reason
use Rattle.zy_patterns.specs.declared.patterns.OutcomePattern.{OutcomePattern}
use Rattle.zy_patterns.specs.declared.patterns.OutcomePattern.TheVariants as pattern
use Rattle.zy_patterns.specs.Patterns.{matches, matches_reason, exactly, exactly_reason}
use Rattle.zy_logs.specs.Possible.{is_kill, is_run, can_abort, can_give}

-- ---- what a line gives

-- a choice can give an outcome
abbrev Gives : Choice → Outcome → Type 0
Gives c o = can_give c (exactly o) ≡ true

-- ---- what a line gives of it, as far as it does

reason_told : (c : Choice) (r : ReasonPattern) (w : Why) → matches_reason r w ≡ true → can_abort c (exactly_reason w) ≡ true → can_abort c r ≡ true
reason_told c reason.Own why.Own e g = g
reason_told c reason.Killed why.Killed e g = g
reason_told c reason.BadKey why.BadKey e g = g
reason_told c reason.Missing why.Missing e g = g
reason_told c reason.Duplicate why.Duplicate e g = g
reason_told c (reason.Frozen page) (why.Frozen p) e g = g
reason_told c reason.NoPage why.NoPage e g = g
reason_told c (reason.Gone page) (why.Gone p) e g = g
reason_told c r w e g = absurd (false≢true e)

-- a reason that is left out
any_reason : (c : Choice) (r : ReasonPattern) → can_abort c r ≡ true → (is_kill c || is_run c) ≡ true
any_reason c reason.Killed e = or_left (is_kill c) (is_run c) e
any_reason c reason.Own e = or_right (is_kill c) (is_run c) e
any_reason c reason.BadKey e = or_right (is_kill c) (is_run c) e
any_reason c reason.Missing e = or_right (is_kill c) (is_run c) e
any_reason c reason.Duplicate e = or_right (is_kill c) (is_run c) e
any_reason c (reason.Frozen page) e = or_right (is_kill c) (is_run c) e
any_reason c reason.NoPage e = or_right (is_kill c) (is_run c) e
any_reason c (reason.Gone page) e = or_right (is_kill c) (is_run c) e

-- whatever is told of an outcome that a choice can give, it can give
told_possible : (c : Choice) (t : OutcomePattern) (o : Outcome) → matches t o ≡ true → Gives c o → can_give c t ≡ true
told_possible c pattern.Started outcome.Started e g = g
told_possible c pattern.BadMode outcome.BadMode e g = g
told_possible c (pattern.Began asked) (outcome.Began n) e g = g
told_possible c pattern.Idle outcome.Idle e g = g
told_possible c pattern.Elsewhere outcome.Elsewhere e g = g
told_possible c pattern.NotYet outcome.NotYet e g = g
told_possible c pattern.Did outcome.Did e g = g
told_possible c (pattern.Split page new_page boundary) (outcome.Split p q k) e g = g
told_possible c (pattern.Aborted None) (outcome.Aborted w) e g = any_reason c (exactly_reason w) g
told_possible c (pattern.Aborted (Some r)) (outcome.Aborted w) e g = reason_told c r w e g
told_possible c (pattern.Committed place) (outcome.Committed i) e g = g
told_possible c (pattern.Waits page) (outcome.Waits p) e g = g
told_possible c (pattern.Pulls page) (outcome.Pulls p) e g = g
told_possible c (pattern.Awaits page) (outcome.Awaits p) e g = g
told_possible c pattern.NoMessage outcome.NoMessage e g = g
told_possible c pattern.GotWire outcome.GotWire e g = g
told_possible c pattern.GotReady outcome.GotReady e g = g
told_possible c pattern.GotDual outcome.GotDual e g = g
told_possible c (pattern.Stale page) (outcome.Stale p) e g = g
told_possible c (pattern.Held page) (outcome.Held p) e g = g
told_possible c (pattern.GotPull page) (outcome.GotPull p) e g = g
told_possible c (pattern.GotPage page) (outcome.GotPage p) e g = g
told_possible c pattern.GotFinish outcome.GotFinish e g = g
told_possible c pattern.GotDone outcome.GotDone e g = g
told_possible c pattern.Stray outcome.Stray e g = g
told_possible c pattern.Finishing outcome.Finishing e g = g
told_possible c (pattern.Active txn) (outcome.Active t) e g = g
told_possible c (pattern.Pushed page) (outcome.Pushed p) e g = g
told_possible c pattern.NoPush outcome.NoPush e g = g
told_possible c t o e g = absurd (false≢true e)

-- ---- run

module _ (n : Node) (t : ℕ) where
  -- a move of a run
  abbrev IsRun : Move → Type 0
  IsRun m = Gives (Run n t) m.outcome

  -- a row on a full page
  full : (sc : Scenario) (k p : ℕ) (s : View) → IsRun (full_step sc t k p s)
  unfolding full_step split_step abort_step
  full sc k p s =
      cond_both (not (may_split s.me.mode)) _ _ IsRun
      (λ _. refl)
      (λ _. cond_both (nat_le sc.pages (length s.me.lows)) _ _ IsRun
      (λ _. refl)
      (λ _. refl))

  -- a row is inserted
  inserts : (sc : Scenario) (k x p : ℕ) (s : View) → IsRun (insert_step sc t k x p s)
  unfolding insert_step abort_step
  inserts sc k x p s =
      cond_both (is_there k p s.me (txn_at s t)) _ _ IsRun
      (λ _. refl)
      (λ _. cond_both (has_room sc p s.me (txn_at s t)) _ _ IsRun
      (λ _. refl)
      (λ _. full sc k p s))

  -- a row is written
  writes : (k x p : ℕ) (s : View) → IsRun (write_step t k x p s)
  unfolding write_step abort_step
  writes k x p s =
      cond_both (is_there k p s.me (txn_at s t)) _ _ IsRun
      (λ _. refl)
      (λ _. refl)

  -- a page that is here and free is accessed
  accesses : (sc : Scenario) (x : Access) (k p : ℕ) (s : View) → IsRun (access_step sc t x k p s)
  unfolding access_step read_step
  accesses sc (Reads r) k p s = refl
  accesses sc (Writes x) k p s = writes k x p s
  accesses sc (Inserts x) k p s = inserts sc k x p s

  -- a page that is not here
  absent : (p : ℕ) (s : View) → IsRun (absent_step t p s)
  unfolding absent_step abort_step
  absent p s =
      cond_both (not (may_pull s.me.mode)) _ _ IsRun
      (λ _. refl)
      (λ _. cond_both (has s.me.asked p) _ _ IsRun
      (λ _. refl)
      (λ _. refl))

  -- an access to a page
  on_page : (sc : Scenario) (x : Access) (k p : ℕ) (s : View) → IsRun (page_step sc t x k p s)
  unfolding page_step
  on_page sc x k p s =
      cond_both (not (owns s.me.pages p)) _ _ IsRun
      (λ _. absent p s)
      (λ _. cond_both (conflict s.me.locks p t (lock_of x)) _ _ IsRun
      (λ _. refl)
      (λ _. accesses sc x k p (locked t p (lock_of x) s)))

  -- an access by key
  on_key : (sc : Scenario) (x : Access) (k : ℕ) (s : View) → IsRun (key_step sc t x k s)
  unfolding key_step abort_step
  on_key sc x k s =
      cond_both (nat_lt max_key k) _ _ IsRun
      (λ _. refl)
      (λ _. on_page sc x k _ s)

  -- a sum, where a page may be locked
  sum_waits : (r : Reg) (a b : ℕ) (o : Option ℕ) (s : View) → IsRun (sum_or_waits t r a b o s)
  unfolding sum_or_waits sum_step set_step
  sum_waits r a b (Some p) s = refl
  sum_waits r a b None s = refl

  -- a sum, where a page may be away
  sum_asks : (r : Reg) (a b : ℕ) (o : Option ℕ) (s : View) → IsRun (sum_or_asks t r a b o s)
  unfolding sum_or_asks
  sum_asks r a b (Some p) s = absent p s
  sum_asks r a b None s = sum_waits r a b _ s

  -- a sum
  sums : (r : Reg) (a b : ℕ) (s : View) → IsRun (range_step t r a b s)
  unfolding range_step set_step abort_step
  sums r a b s =
      cond_both (nat_lt b a) _ _ IsRun
      (λ _. refl)
      (λ _. cond_both (nat_lt max_key b) _ _ IsRun
      (λ _. refl)
      (λ _. sum_asks r a b _ s))

  -- a commit
  commits : (o : Option ℕ) (s : View) → IsRun (commit_or_gone t o s)
  unfolding commit_or_gone abort_step
  commits (Some p) s = refl
  commits None s = refl

  -- an effect
  effects : (sc : Scenario) (e : Effect) (s : View) → IsRun (effect_step sc t e s)
  unfolding effect_step set_step jump_step commit_step abort_step
  effects sc (Sets r x) s = refl
  effects sc (Jumps taken to) s = refl
  effects sc (Accesses x k) s = on_key sc x k s
  effects sc (Sums r a b) s = sums r a b s
  effects sc Commits s = commits _ s
  effects sc Aborts s = refl

  -- an instruction
  instr : (sc : Scenario) (o : Option Instr) (regs : List ℕ) (s : View) → IsRun (instr_step sc t o regs s)
  unfolding instr_step
  instr sc None regs s = refl
  instr sc (Some i) regs s = effects sc (effect_of i regs) s

  -- a node runs a transaction
  runs : (sc : Scenario) (s : View) → IsRun (run_step sc n t s)
  unfolding run_step
  runs sc s =
      cond_both (not (is_active (txn_at s t).status)) _ _ IsRun
      (λ _. refl)
      (λ _. cond_both (not (same_node (txn_at s t).node n)) _ _ IsRun
      (λ _. refl)
      (λ _. cond_both (is_waiting s.me.mode) _ _ IsRun
      (λ _. refl)
      (λ _. instr sc _ _ s)))

-- ---- the client

-- a migration starts
starts : (s : View) → Gives Start (start_step s).outcome
unfolding start_step
starts s =
    cond_both (may_start s.me.mode s.them.mode) _ _ (λ (m : Move). Gives Start m.outcome)
    (λ _. refl)
    (λ _. refl)

-- a transaction begins at a node, if there is one
begins_at : (o : Option Node) (t : ℕ) (s : View) → Gives (Begin t) (begin_at o t s).outcome
unfolding begin_at
begins_at None t s = refl
begins_at (Some n) t s = refl

-- a transaction begins
begins : (t : ℕ) (s : View) → Gives (Begin t) (begin_step t s).outcome
unfolding begin_step
begins t s =
    cond_both (is_new (txn_at s t).status) _ _ (λ (m : Move). Gives (Begin t) m.outcome)
    (λ _. begins_at _ t s)
    (λ _. refl)

-- one is killed
kills : (t : ℕ) (s : View) → Gives (Kill t) (kill_step t s).outcome
unfolding kill_step
kills t s =
    cond_both (is_active (txn_at s t).status) _ _ (λ (m : Move). Gives (Kill t) m.outcome)
    (λ _. refl)
    (λ _. refl)

-- ---- take

module _ (n : Node) where
  -- a move of a take
  abbrev IsTake : Move → Type 0
  IsTake m = Gives (Take n) m.outcome

  -- the outcome of a message that the mode knows
  got : (m : Message) → Gives (Take n) (outcome_of m)
  got (Wire lows) = refl
  got Ready = refl
  got Dual = refl
  got (Pull p) = refl
  got (Page leaf) = refl
  got Finish = refl
  got Done = refl

  -- a message is taken, or is stray
  takes_arrival : (line : MessageLine) (m : Message) (s r : View) → IsTake (arrival_step line m s r)
  unfolding arrival_step
  takes_arrival Stray m s r = refl
  takes_arrival (Turns mode sent) m s r = got m

  -- a page is asked for
  takes_pull : (sc : Scenario) (p : ℕ) (line : MessageLine) (s r : View) → IsTake (pull_step sc p line s r)
  unfolding pull_step
  takes_pull sc p Stray s r = refl
  takes_pull sc p (Turns mode sent) s r =
      cond_both (not (owns s.me.pages p)) _ _ IsTake
      (λ _. refl)
      (λ _. cond_both (is_held sc.rule && is_locked s.me.locks p) _ _ IsTake
      (λ _. refl)
      (λ _. refl))

  -- any message
  takes_message : (sc : Scenario) (m : Message) (s r : View) → IsTake (message_step sc m s r)
  unfolding message_step
  takes_message sc (Wire lows) s r = takes_arrival _ (Wire lows) s r
  takes_message sc Ready s r = takes_arrival _ Ready s r
  takes_message sc Dual s r = takes_arrival _ Dual s r
  takes_message sc (Pull p) s r = takes_pull sc p _ s r
  takes_message sc (Page leaf) s r = takes_arrival _ (Page leaf) s r
  takes_message sc Finish s r = takes_arrival _ Finish s r
  takes_message sc Done s r = takes_arrival _ Done s r

  -- the first message, if there is one
  takes_front : (sc : Scenario) (ms : List Message) (s : View) → IsTake (front_step sc ms s)
  unfolding front_step
  takes_front sc [] s = refl
  takes_front sc (m ∷ ms) s = takes_message sc m s (record s { inbox = ms })

  -- a node takes
  takes : (sc : Scenario) (s : View) → IsTake (take_step sc s)
  unfolding take_step
  takes sc s = takes_front sc s.inbox s

-- ---- finish, push

-- a node ends its part, if it may
finishes_if : (n : Node) (line : FinishLine) (t : ℕ) (s : View) → Gives (Finish_at n) (finish_if line t s).outcome
unfolding finish_if
finishes_if n fin.BadMode t s = refl
finishes_if n fin.Active t s = refl
finishes_if n fin.Finishing t s = refl

-- a node ends its part
finishes : (n : Node) (s : View) → Gives (Finish_at n) (finish_step n s).outcome
unfolding finish_step
finishes n s = finishes_if n _ _ s

-- a node pushes a page, if it has one
pushes_if : (n : Node) (o : Option ℕ) (s : View) → Gives (Push n) (push_if o s).outcome
unfolding push_if
pushes_if n None s = refl
pushes_if n (Some p) s = refl

-- a node pushes
pushes : (n : Node) (s : View) → Gives (Push n) (push_step s).outcome
unfolding push_step
pushes n s =
    cond_both (may_push s.me.mode) _ _ (λ (m : Move). Gives (Push n) m.outcome)
    (λ _. pushes_if n _ s)
    (λ _. refl)

-- ---- any choice

-- seen from a node
moves : (sc : Scenario) (c : Choice) (s : View) → Gives c (move sc c s).outcome
unfolding move
moves sc Start s = starts s
moves sc (Begin t) s = begins t s
moves sc (Kill t) s = kills t s
moves sc (Run n t) s = runs n t sc s
moves sc (Take n) s = takes n sc s
moves sc (Finish_at n) s = finishes n s
moves sc (Push n) s = pushes n s

-- whatever is told of the outcome of a step, its choice can give
pub step_possible : (sc : Scenario) (c : Choice) (s : State) (t : OutcomePattern) → matches t (step sc c s).outcome ≡ true → can_give c t ≡ true
unfolding step
step_possible sc c s t e = told_possible c t (step sc c s).outcome e (moves sc c (facing (side_of sc c s) s))

-- so it can give all of it
pub step_exactly : (sc : Scenario) (c : Choice) (s : State) → can_give c (exactly (step sc c s).outcome) ≡ true
unfolding step
step_exactly sc c s = moves sc c (facing (side_of sc c s) s)
