-- Where nothing comes of a step the state is as it was.
use Rattle.std.proofs.Common.{◌≡◌, ◌∙◌, ℕ, List, [], ◌∷◌, ◌++◌, length, length-append, ◌<◌, arith, true, false, not, nat_lt, nat_le, ◌&&◌, Option, Some}
use Rattle.std.proofs.Common.{None, refl, sym, ap}
use Rattle.zy_table.specs.declared.entry.Entry.{Entry}
use Rattle.std.proofs.lemmas.Bool.{cond_both, false≢true}
use Rattle.zy_isa.specs.declared.node.Node.{Node}
use Rattle.zy_isa.specs.declared.node.Node.TheVariants.{A, B}
use Rattle.zy_isa.specs.declared.instr.Reg.{Reg}
use Rattle.zy_isa.specs.declared.instr.Instr.{Instr}
use Rattle.zy_isa.specs.declared.choice.Choice.{Choice}
use Rattle.zy_isa.specs.declared.choice.Choice.TheVariants.{Start, Begin, Kill, Run, Take, Finish as Finish_at, Push}
use Rattle.zy_isa.specs.Scenario.{Scenario}
use Rattle.zy_model.specs.Locks.{conflict, is_locked}
use Rattle.zy_model.specs.Messages.{Message, Wire, Ready, Dual, Pull, Page, Finish, Done}
use Rattle.zy_model.specs.declared.table.MessageLine.{MessageLine}
use Rattle.zy_model.specs.declared.table.MessageLine.TheVariants.{Stray, Turns}
use Rattle.zy_model.specs.declared.table.FinishLine.{FinishLine}
use Rattle.zy_model.specs.declared.table.FinishLine.TheVariants as fin
use Rattle.zy_model.specs.Table.{may_start, may_split, may_pull, may_push, is_waiting}
use Rattle.zy_table.specs.declared.access.Access.{Access}
use Rattle.zy_table.specs.declared.access.Access.TheVariants.{Reads, Writes, Inserts}
use Rattle.zy_table.specs.declared.outcome.Why.{Why}
use Rattle.zy_table.specs.State.{State, View, Move, facing, seen_from}
use Rattle.zy_table.specs.Numbers.{has}
use Rattle.zy_table.specs.Pages.{owns}
use Rattle.zy_table.specs.Change.{txn_at, locked}
use Rattle.zy_table.specs.declared.effect.Effect.{Effect}
use Rattle.zy_table.specs.declared.effect.Effect.TheVariants.{Sets, Jumps, Accesses, Sums, Commits, Aborts}
use Rattle.zy_table.specs.Effects.{effect_of}
use Rattle.zy_table.specs.Client.{is_new, is_active, start_step, begin_at, begin_step, kill_step}
use Rattle.zy_table.specs.Push.{finish_if, finish_step, push_if, push_step}
use Rattle.zy_table.specs.Run.{same_node, abort_step, set_step, jump_step, commit_or_gone, commit_step, absent_step, read_step, is_there, write_step, has_room}
use Rattle.zy_table.specs.Run.{split_step, full_step, insert_step, lock_of, access_step, page_step, key_step, sum_step, sum_or_waits, sum_or_asks, range_step}
use Rattle.zy_table.specs.Run.{effect_step, instr_step, run_step}
use Rattle.zy_table.specs.Take.{is_held, outcome_of, arrival_step, pull_step, message_step, front_step, take_step}
use Rattle.zy_table.specs.Play.{move, side_of, step}
use Rattle.zy_machine.specs.Histories.{History}
use Rattle.zy_search.specs.Stuck.{is_still}
use Rattle.zy_search.specs.Visits.{IsTwin}
use Rattle.zy_isa.specs.Limits.{max_key}

-- where nothing comes of a move it leaves the view as it was
abbrev Stays : View → Move → Type 0
Stays v m = is_still m.outcome ≡ true → m.after ≡ v

-- something comes of it
never : {X : Type 0} → false ≡ true → X
never e = absurd (false≢true e)

-- an abort
aborts : (t : ℕ) (w : Why) (s v : View) → Stays v (abort_step t w s)
unfolding abort_step
aborts t w s v = never

-- a register is set
sets : (t : ℕ) (r : Reg) (x : ℕ) (s v : View) → Stays v (set_step t r x s)
unfolding set_step
sets t r x s v = never

-- ---- run

-- a row on a full page
full : (sc : Scenario) (t k p : ℕ) (s v : View) → Stays v (full_step sc t k p s)
unfolding full_step split_step
full sc t k p s v =
    cond_both (not (may_split s.me.mode)) _ _ (Stays v)
    (λ _. aborts t _ s v)
    (λ _. cond_both (nat_le sc.pages (length s.me.lows)) _ _ (Stays v)
    (λ _. aborts t _ s v)
    (λ _. never))

-- a row is inserted
inserts : (sc : Scenario) (t k x p : ℕ) (s v : View) → Stays v (insert_step sc t k x p s)
unfolding insert_step
inserts sc t k x p s v =
    cond_both (is_there k p s.me (txn_at s t)) _ _ (Stays v)
    (λ _. aborts t _ s v)
    (λ _. cond_both (has_room sc p s.me (txn_at s t)) _ _ (Stays v)
    (λ _. never)
    (λ _. full sc t k p s v))

-- a row is written
writes : (t k x p : ℕ) (s v : View) → Stays v (write_step t k x p s)
unfolding write_step
writes t k x p s v =
    cond_both (is_there k p s.me (txn_at s t)) _ _ (Stays v)
    (λ _. never)
    (λ _. aborts t _ s v)

-- a page that is here and free is accessed
accesses : (sc : Scenario) (t : ℕ) (x : Access) (k p : ℕ) (s v : View) → Stays v (access_step sc t x k p s)
unfolding access_step read_step
accesses sc t (Reads r) k p s v = never
accesses sc t (Writes x) k p s v = writes t k x p s v
accesses sc t (Inserts x) k p s v = inserts sc t k x p s v

-- a page that is not here
absent : (t p : ℕ) (v : View) → Stays v (absent_step t p v)
unfolding absent_step
absent t p v =
    cond_both (not (may_pull v.me.mode)) _ _ (Stays v)
    (λ _. aborts t _ v v)
    (λ _. cond_both (has v.me.asked p) _ _ (Stays v)
    (λ _ _. refl)
    (λ _. never))

-- an access to a page
on_page : (sc : Scenario) (t : ℕ) (x : Access) (k p : ℕ) (v : View) → Stays v (page_step sc t x k p v)
unfolding page_step
on_page sc t x k p v =
    cond_both (not (owns v.me.pages p)) _ _ (Stays v)
    (λ _. absent t p v)
    (λ _. cond_both (conflict v.me.locks p t (lock_of x)) _ _ (Stays v)
    (λ _ _. refl)
    (λ _. accesses sc t x k p (locked t p (lock_of x) v) v))

-- an access by key
on_key : (sc : Scenario) (t : ℕ) (x : Access) (k : ℕ) (v : View) → Stays v (key_step sc t x k v)
unfolding key_step
on_key sc t x k v =
    cond_both (nat_lt max_key k) _ _ (Stays v)
    (λ _. aborts t _ v v)
    (λ _. on_page sc t x k _ v)

-- a sum, where a page may be locked
sum_waits : (t : ℕ) (r : Reg) (a b : ℕ) (o : Option ℕ) (v : View) → Stays v (sum_or_waits t r a b o v)
unfolding sum_or_waits sum_step
sum_waits t r a b (Some p) v = λ _. refl
sum_waits t r a b None v = sets t r _ _ v

-- a sum, where a page may be away
sum_asks : (t : ℕ) (r : Reg) (a b : ℕ) (o : Option ℕ) (v : View) → Stays v (sum_or_asks t r a b o v)
unfolding sum_or_asks
sum_asks t r a b (Some p) v = absent t p v
sum_asks t r a b None v = sum_waits t r a b _ v

-- a sum
sums : (t : ℕ) (r : Reg) (a b : ℕ) (v : View) → Stays v (range_step t r a b v)
unfolding range_step
sums t r a b v =
    cond_both (nat_lt b a) _ _ (Stays v)
    (λ _. sets t r 0 v v)
    (λ _. cond_both (nat_lt max_key b) _ _ (Stays v)
    (λ _. aborts t _ v v)
    (λ _. sum_asks t r a b _ v))

-- a commit
commits : (t : ℕ) (o : Option ℕ) (v : View) → Stays v (commit_or_gone t o v)
unfolding commit_or_gone
commits t (Some p) v = aborts t _ v v
commits t None v = never

-- an effect
effects : (sc : Scenario) (t : ℕ) (e : Effect) (v : View) → Stays v (effect_step sc t e v)
unfolding effect_step jump_step commit_step
effects sc t (Sets r x) v = sets t r x v v
effects sc t (Jumps taken to) v = never
effects sc t (Accesses i k) v = on_key sc t i k v
effects sc t (Sums r a b) v = sums t r a b v
effects sc t Commits v = commits t _ v
effects sc t Aborts v = aborts t _ v v

-- an instruction
instr : (sc : Scenario) (t : ℕ) (o : Option Instr) (regs : List ℕ) (v : View) → Stays v (instr_step sc t o regs v)
unfolding instr_step
instr sc t None regs v = λ _. refl
instr sc t (Some i) regs v = effects sc t (effect_of i regs) v

-- a node runs a transaction
runs : (sc : Scenario) (n : Node) (t : ℕ) (v : View) → Stays v (run_step sc n t v)
unfolding run_step
runs sc n t v =
    cond_both (not (is_active (txn_at v t).status)) _ _ (Stays v)
    (λ _ _. refl)
    (λ _. cond_both (not (same_node (txn_at v t).node n)) _ _ (Stays v)
    (λ _ _. refl)
    (λ _. cond_both (is_waiting v.me.mode) _ _ (Stays v)
    (λ _ _. refl)
    (λ _. instr sc t _ _ v)))

-- ---- the client

-- a migration starts
starts : (v : View) → Stays v (start_step v)
unfolding start_step
starts v =
    cond_both (may_start v.me.mode v.them.mode) _ _ (Stays v)
    (λ _. never)
    (λ _ _. refl)

-- a transaction begins at a node, if there is one
begins_at : (o : Option Node) (t : ℕ) (v : View) → Stays v (begin_at o t v)
unfolding begin_at
begins_at None t v = λ _. refl
begins_at (Some n) t v = never

-- a transaction begins
begins : (t : ℕ) (v : View) → Stays v (begin_step t v)
unfolding begin_step
begins t v =
    cond_both (is_new (txn_at v t).status) _ _ (Stays v)
    (λ _. begins_at _ t v)
    (λ _ _. refl)

-- one is killed
kills : (t : ℕ) (v : View) → Stays v (kill_step t v)
unfolding kill_step
kills t v =
    cond_both (is_active (txn_at v t).status) _ _ (Stays v)
    (λ _. never)
    (λ _ _. refl)

-- ---- take, finish, push

-- a message that is taken is something
got_is_no_rest : (m : Message) → is_still (outcome_of m) ≡ false
got_is_no_rest (Wire lows) = refl
got_is_no_rest Ready = refl
got_is_no_rest Dual = refl
got_is_no_rest (Pull p) = refl
got_is_no_rest (Page leaf) = refl
got_is_no_rest Finish = refl
got_is_no_rest Done = refl

-- a message is taken, or is stray
takes_arrival : (line : MessageLine) (m : Message) (v r : View) → Stays v (arrival_step line m v r)
unfolding arrival_step
takes_arrival Stray m v r = λ _. refl
takes_arrival (Turns mode sent) m v r = λ e. never (sym (got_is_no_rest m) ∙ e)

-- a page is asked for
takes_pull : (sc : Scenario) (p : ℕ) (row : MessageLine) (v r : View) → Stays v (pull_step sc p row v r)
unfolding pull_step
takes_pull sc p Stray v r = λ _. refl
takes_pull sc p (Turns mode sent) v r =
    cond_both (not (owns v.me.pages p)) _ _ (Stays v)
    (λ _. never)
    (λ _. cond_both (is_held sc.rule && is_locked v.me.locks p) _ _ (Stays v)
    (λ _ _. refl)
    (λ _. never))

-- any message
takes_message : (sc : Scenario) (m : Message) (v r : View) → Stays v (message_step sc m v r)
unfolding message_step
takes_message sc (Wire lows) v r = takes_arrival _ (Wire lows) v r
takes_message sc Ready v r = takes_arrival _ Ready v r
takes_message sc Dual v r = takes_arrival _ Dual v r
takes_message sc (Pull p) v r = takes_pull sc p _ v r
takes_message sc (Page leaf) v r = takes_arrival _ (Page leaf) v r
takes_message sc Finish v r = takes_arrival _ Finish v r
takes_message sc Done v r = takes_arrival _ Done v r

-- the first message, if there is one
takes_front : (sc : Scenario) (ms : List Message) (v : View) → Stays v (front_step sc ms v)
unfolding front_step
takes_front sc [] v = λ _. refl
takes_front sc (m ∷ ms) v = takes_message sc m v (record v { inbox = ms })

-- a node takes
takes : (sc : Scenario) (v : View) → Stays v (take_step sc v)
unfolding take_step
takes sc v = takes_front sc v.inbox v

-- a node ends its part, if it may
finishes_if : (row : FinishLine) (t : ℕ) (v : View) → Stays v (finish_if row t v)
unfolding finish_if
finishes_if fin.BadMode t v = λ _. refl
finishes_if fin.Active t v = λ _. refl
finishes_if fin.Finishing t v = never

-- a node ends its part
finishes : (n : Node) (v : View) → Stays v (finish_step n v)
unfolding finish_step
finishes n v = finishes_if _ _ v

-- a node pushes a page, if it has one
pushes_if : (o : Option ℕ) (v : View) → Stays v (push_if o v)
unfolding push_if
pushes_if None v = λ _. refl
pushes_if (Some p) v = never

-- a node pushes
pushes : (v : View) → Stays v (push_step v)
unfolding push_step
pushes v =
    cond_both (may_push v.me.mode) _ _ (Stays v)
    (λ _. pushes_if _ v)
    (λ _ _. refl)

-- any choice, seen from a node
moves : (sc : Scenario) (c : Choice) (n : Node) (v : View) → Stays v (move sc c v)
unfolding move
moves sc Start n v = starts v
moves sc (Begin t) n v = begins t v
moves sc (Kill t) n v = kills t v
moves sc (Run m t) n v = runs sc m t v
moves sc (Take m) n v = takes sc v
moves sc (Finish_at m) n v = finishes m v
moves sc (Push m) n v = pushes v

-- a state seen from a node is that state
back : (n : Node) (s : State) → seen_from n (facing n s) ≡ s
back A s = refl
back B s = refl

-- any choice
pub still_stays : (sc : Scenario) (c : Choice) (s : State) → is_still (step sc c s).outcome ≡ true → (step sc c s).after ≡ s
unfolding step
still_stays sc c s e =
    let n = side_of sc c s in
    ap (seen_from n) (moves sc c n (facing n s) e) ∙ back n s

-- a history with an entry more
pub longer_by : (old new : List Entry) (e : Entry) → new ≡ old ++ e ∷ [] → length old < length new
longer_by old new e is = omega (arith, ap (λ (es : List Entry). length es) is, length-append old (e ∷ []))

-- a step that nothing comes of, on a twin: it stays one
pub twin_still : (m old new : History) (c : Choice) → IsTwin m old → new.scenario ≡ old.scenario → new.state ≡ (step old.scenario c old.state).after
    → length old.entries < length new.entries
    → is_still (step old.scenario c old.state).outcome ≡ true → IsTwin m new
twin_still m old new c t e f longer still = record {
  scenario = e ∙ t.scenario;
  state = f ∙ (still_stays old.scenario c old.state still ∙ t.state);
  entries = omega (arith, t.entries, longer);
}
