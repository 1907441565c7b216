-- What a step did: one case for each line of the table that changes something, with what its conditions say.
use Rattle.std.proofs.Common.{◌≡◌, ℕ, ◌+◌, ◌%◌, ◌^◌, List, [], ◌∷◌, ◌++◌, length, true, false, refl, sym, ap, ◌∙◌, subst, inl, inr}
use Rattle.std.specs.Prelude.{◌⊎◌, Bool, if◌then◌else◌, ◌==◌, ◌&&◌, nat_lt, nat_le, not, Some, None, Option, slice_get, is_some}
use Rattle.std.proofs.lemmas.Bool.{cond_both, false≢true, not-false, not-true, cases_Bool, eq-eqb}
use Rattle.zy_isa.specs.declared.version.Version.TheVariants.{One}
use Rattle.zy_model.specs.Families.{is_sending}
use Rattle.zy_isa.specs.declared.node.Node.{Node}
use Rattle.zy_isa.specs.declared.node.Node.TheVariants.{A, B}
use Rattle.zy_isa.specs.declared.choice.Choice.{Choice}
use Rattle.zy_isa.specs.declared.choice.Choice.TheVariants.{Start, Begin, Kill, Run, Take, Finish as Finish_at, Push}
use Rattle.zy_isa.specs.declared.row.Row.{Row}
use Rattle.zy_isa.specs.declared.instr.Reg.{Reg}
use Rattle.zy_isa.specs.declared.instr.Instr.{Instr}
use Rattle.zy_isa.specs.Rows.{get_row}
use Rattle.zy_isa.specs.Scenario.{Scenario}
use Rattle.zy_model.specs.declared.lock.LockKind.{LockKind}
use Rattle.zy_model.specs.declared.lock.LockKind.TheVariants.{Shared, Exclusive}
use Rattle.zy_model.specs.Locks.{conflict, is_locked}
use Rattle.zy_model.specs.declared.mode.NodeMode.{NodeMode}
use Rattle.zy_model.specs.declared.mode.NodeMode.TheVariants.{Empty, Normal, SInit, SDual, SFinish, DInit, DDual, DFinish}
use Rattle.zy_model.specs.declared.kind.Kind.TheVariants as kind
use Rattle.zy_model.specs.declared.table.MessageLine.{MessageLine}
use Rattle.zy_model.specs.declared.table.MessageLine.TheVariants.{Stray, Turns}
use Rattle.zy_model.specs.Table.{may_start, on_finish, home_of, may_split, may_pull, may_push, is_waiting}
use Rattle.zy_model.specs.Messages.{Wire, Ready, Dual, Pull, Page, Finish, Done}
use Rattle.zy_table.specs.declared.outcome.Why.{Why}
use Rattle.zy_table.specs.declared.outcome.Why.TheVariants as why
use Rattle.zy_table.specs.declared.outcome.Outcome.{Outcome}
use Rattle.zy_table.specs.declared.outcome.Outcome.TheVariants as outcome
use Rattle.zy_table.specs.State.{State, View, Move, NodeState, Leaf, Message, facing, post, with_me}
use Rattle.zy_model.specs.Wireframe.{page_of}
use Rattle.zy_table.specs.Numbers.{has, least}
use Rattle.zy_table.specs.Pages.{owns, numbers}
use Rattle.zy_table.specs.Change.{quiet, begun, aborted, did, txn_at, locked, shares, committed, cut, with_reg, txn_or, asks, leaves, turns}
use Rattle.zy_table.specs.Change.{with_lows}
use Rattle.zy_table.specs.Client.{is_new, is_active, start_step, begin_step, begin_at, kill_step}
use Rattle.zy_table.specs.declared.access.Access.TheVariants as access
use Rattle.zy_table.specs.declared.effect.Effect.TheVariants as effect
use Rattle.zy_table.specs.declared.effect.Effect.{Effect}
use Rattle.zy_table.specs.Effects.{effect_of}
use Rattle.zy_table.specs.Run.{boundary, same_node, abort_step, set_step, jump_step, gone_pages, commit_or_gone, commit_step, absent_step}
use Rattle.zy_table.specs.Run.{read_step, write_step, full_step, split_step, insert_step, lock_of, is_there, has_room, access_step, page_step, key_step}
use Rattle.zy_table.specs.Run.{first_absent, first_taken, sum_step, sum_or_waits, sum_or_asks, range_step, effect_step, instr_step, run_step}
use Rattle.zy_table.specs.Ranges.{range_pages}
use Rattle.zy_table.specs.declared.access.Access.{Access}
use Rattle.zy_table.specs.declared.access.Access.TheVariants.{Reads}
use Rattle.zy_table.specs.Take.{is_held, all_here, with_brought, arrival_step, pull_step, mode_line, message_step, front_step, take_step}
use Rattle.zy_table.specs.Push.{active_from, finish_if, finish_step, push_if, push_step}
use Rattle.zy_laws.specs.Journey.{is_gone, is_stray}
use Rattle.zy_table.specs.Play.{move, side_of}
use Rattle.zy_laws.proofs.walk.ModeLines.{wire_line, ready_line, dual_line, pull_line, page_line, finish_line, done_line}
use Rattle.zy_laws.proofs.walk.ModeLines.{starts_at_a, starts_from, pushes_in_finish}
use Rattle.zy_table.proofs.PageLists.{least-owns}
use Rattle.zy_table.proofs.RangeLists.{found_has, key_of_page, none_passes}
use Rattle.zy_table.proofs.AbortedLocks.{aborted-locked}
use Rattle.zy_isa.specs.Limits.{max_key}
use Rattle.zy_laws.proofs.walk.Conditions.{Runs, Leads, BySet, ByJump, BySum, Free, has_lock, page, puts, value_at, FreeRange, has_locks, sum_at, rest, arrived}
use Rattle.zy_laws.proofs.walk.Conditions.{Beginning, Aborting, Going, Getting, Summing, Writing, Inserting, Placing, Splitting, Committing, Asking, Starting}
use Rattle.zy_laws.proofs.walk.Conditions.{Front, Taking, Wired, Pulled, Giving, Paged, PagedLast, FinishedPart, FinishedWhole, EndingDual, Pushing}

-- what a step of n's side did: w is v after one line of the table, whose conditions held
pub data Event (sc : Scenario) (n : Node) (v w : View) : Type 0 where
  Rests : w ≡ v → Event sc n v w
  Begins : (line : Beginning n v) → w ≡ begun line.home line.txn v → Event sc n v w
  Aborts : (line : Aborting n v) → w ≡ aborted line.txn line.cause v → Event sc n v w
  GoesOn : (line : Going sc n v) → w ≡ did line.txn line.pc line.regs (txn_at v line.txn).rows v → Event sc n v w
  Gets : (line : Getting sc n v)
      → w ≡ did line.txn ((txn_at v line.txn).pc + 1) (with_reg line.register (value_at line.txn line.key v) (txn_at v line.txn).regs)
      (txn_at v line.txn).rows (has_lock line.txn line.key Shared v) → Event sc n v w
  SumsUp : (line : Summing sc n v)
      → w ≡ did line.txn ((txn_at v line.txn).pc + 1)
      (with_reg line.register (sum_at line.txn line.first line.last v % 2 ^ 32) (txn_at v line.txn).regs)
      (txn_at v line.txn).rows (has_locks line.txn line.first line.last v) → Event sc n v w
  Writes : (line : Writing sc n v) → w ≡ puts line.txn line.key line.value v → Event sc n v w
  Inserts : (line : Placing sc n v) → w ≡ puts line.txn line.key line.value v → Event sc n v w
  Splits : (line : Splitting sc n v)
      → w ≡ cut line.txn (page line.key v) (boundary sc line.key (page line.key v) v.me (txn_at v line.txn)) (has_lock line.txn line.key Exclusive v)
      → Event sc n v w
  Commits : (line : Committing sc n v) → w ≡ committed line.txn v → Event sc n v w
  Asks : (line : Asking v) → w ≡ asks line.page v → Event sc n v w
  Starts : (line : Starting sc n v) → w ≡ post (Wire v.me.lows) (turns SInit v) → Event sc n v w
  GotWire : (line : Wired v) → w ≡ post Ready (turns DInit (with_me (with_lows line.lows v.me) (rest v line.after))) → Event sc n v w
  GotReady : (line : Taking Ready SInit v) → w ≡ post Dual (turns SDual (rest v line.after)) → Event sc n v w
  GotDual : (line : Taking Dual DInit v) → w ≡ turns DDual (rest v line.after) → Event sc n v w
  IsStale : (line : Pulled v) → w ≡ rest v line.after → Event sc n v w
  Gives : (line : Giving sc v) → w ≡ leaves line.page (rest v line.after) → Event sc n v w
  GotPage : (line : Paged v) → w ≡ arrived line.leaf (rest v line.after) → Event sc n v w
  GotLast : (line : PagedLast v) → w ≡ post Done (turns Normal (arrived line.leaf (rest v line.after))) → Event sc n v w
  GotFinish : (line : FinishedPart v) → w ≡ turns DFinish (rest v line.after) → Event sc n v w
  GotAll : (line : FinishedWhole v) → w ≡ post Done (turns Normal (rest v line.after)) → Event sc n v w
  GotDone : (line : Taking Done SFinish v) → w ≡ turns Empty (with_me (with_lows [] v.me) (rest v line.after)) → Event sc n v w
  Finishes : (line : EndingDual n v) → w ≡ post Finish (turns SFinish v) → Event sc n v w
  Pushes : (line : Pushing v) → w ≡ leaves line.page v → Event sc n v w

-- the newest low keys after a step: a split alone adds one
abbrev pub lows_after : (sc : Scenario) (n : Node) (v w : View) (lows : List ℕ) → Event sc n v w → List ℕ
lows_after sc n v w lows (Splits line e) = lows ++ boundary sc line.key (page line.key v) v.me (txn_at v line.txn) ∷ []
lows_after sc n v w lows e = lows

-- t aborts since a key's page is gone: the page is not here, and cannot be asked for, or the key is a private row's
pub record Lost (n : Node) (v : View) : Type 0 where
  pub txn : ℕ
  pub key : ℕ
  pub active : is_active (txn_at v txn).status ≡ true
  pub here : (txn_at v txn).node ≡ n
  pub begun : is_waiting v.me.mode ≡ false
  pub gone : owns v.me.pages (page_of v.me.lows key) ≡ false
  pub cause : (may_pull v.me.mode ≡ false) ⊎ (is_some (get_row (txn_at v txn).rows key) ≡ true)

-- the front of the inbox is a message that the mode does not know
pub record Strange (v : View) : Type 0 where
  pub message : Message
  pub taken : Front message v
  pub open taken use *
  pub line : mode_line message v ≡ Stray

-- a split's outcome has the number of the new page, a start's that it acted; and a page that is asked for is that of a key
abbrev pub Told : {sc : Scenario} {n : Node} {v w : View} → Event sc n v w → Outcome → Type 0
Told {v = v} (Splits line e) o = (p b : ℕ) × (o ≡ outcome.Split p (length v.me.lows) b)
Told (Starts line e) o = o ≡ outcome.Started
Told {v = v} (Asks line e) o = (k : ℕ) × (line.page ≡ page_of v.me.lows k)
Told e o = Unit {0}

-- a move is an event, its outcome says what the event did, and it is gone or stray only for the cause shown
pub record Happens (sc : Scenario) (n : Node) (v : View) (m : Move) : Type 0 where
  pub event : Event sc n v m.after
  pub told : Told event m.outcome
  pub lost : is_gone m.outcome ≡ true → Lost n v
  pub strange : is_stray m.outcome ≡ true → Strange v

-- from an outcome that is not of a kind, anything
never : {X : Type 0} → false ≡ true → X
never e = absurd (false≢true e)

-- a page that has gone has a private row
gone_key : (x : NodeState) (rows all : List Row) → ((k : ℕ) → is_some (get_row rows k) ≡ true → is_some (get_row all k) ≡ true) → (p : ℕ)
    → least (gone_pages x rows) ≡ Some p
    → (k : ℕ) × (is_some (get_row all k) ≡ true) × (owns x.pages (page_of x.lows k) ≡ false)
gone_key x [] all sub p e = cc
gone_key x (r ∷ rows) all sub p e =
    elim (cases_Bool (owns x.pages (page_of x.lows r.key))) [
      | inl own ↦ gone_key x rows all (λ k h. sub k (cond_both (r.key == k) (Some r.value) (get_row rows k) (λ o. is_some o ≡ true) (λ _. refl) (λ _. h))) p
          (sym (ap (λ b. least (if b then gone_pages x rows else page_of x.lows r.key ∷ gone_pages x rows)) own) ∙ e)
      | inr gone ↦ (r.key, sub r.key (ap (λ b. is_some (if b then Some r.value else get_row rows r.key)) (eq-eqb r.key r.key refl)), gone)
    ]

-- the test of equal nodes is right
pub same_node-true : (a b : Node) → same_node a b ≡ true → a ≡ b
same_node-true A A e = refl
same_node-true A B e = absurd (false≢true e)
same_node-true B A e = absurd (false≢true e)
same_node-true B B e = refl

-- what each line of a node does, seen from that node
module _ (sc : Scenario) (n : Node) where
  -- a step that gives neither of these outcomes
  plain : (v : View) (m : Move) (e : Event sc n v m.after) → is_gone m.outcome ≡ false → is_stray m.outcome ≡ false → Told e m.outcome
      → Happens sc n v m
  plain v m e g s told = record { event = e; told = told; lost = λ h. never (sym g ∙ h); strange = λ h. never (sym s ∙ h) }

  -- a line that changes nothing
  rests : (v : View) (o : Outcome) → is_gone o ≡ false → is_stray o ≡ false → Happens sc n v (quiet v o)
  rests v o g s = plain v (quiet v o) (Rests refl) g s tt

  -- the lines of run
  aborts : (t : ℕ) (y : Why) (v : View) → is_active (txn_at v t).status ≡ true → (txn_at v t).node ≡ n
      → (is_gone (outcome.Aborted y) ≡ true → Lost n v) → Happens sc n v (abort_step t y v)
  unfolding abort_step
  aborts t y v a h lost = record { event = Aborts (record { txn = t; cause = y; active = a; here = h }) refl; told = tt; lost = lost; strange = λ e. never e }

  -- the same with the page's lock taken
  aborts_locked : (t p : ℕ) (kind : LockKind) (y : Why) (v : View) → is_active (txn_at v t).status ≡ true
      → (txn_at v t).node ≡ n → is_gone (outcome.Aborted y) ≡ false → Happens sc n v (abort_step t y (locked t p kind v))
  unfolding abort_step
  aborts_locked t p kind y v a h g = plain v _ (Aborts (record { txn = t; cause = y; active = a; here = h }) (aborted-locked t p kind y v)) g refl tt

  -- an effect that needs no page
  goes_on : (t : ℕ) (e : Effect) (pc : ℕ) (regs : List ℕ) (v : View) → Runs sc n t e v → Leads e (txn_at v t) pc regs
      → Happens sc n v (quiet (did t pc regs (txn_at v t).rows v) outcome.Did)
  goes_on t e pc regs v runs leads = plain v _ (GoesOn (record { txn = t; act = e; pc = pc; regs = regs; runs = runs; leads = leads }) refl) refl refl tt

  -- the line of an insert on a full page: it splits where the mode allows, and else aborts
  full_happens : (v : View) (i : Inserting sc n v) → has_room sc (page i.key v) v.me (txn_at v i.txn) ≡ false
      → Happens sc n v (full_step sc i.txn i.key (page i.key v) (has_lock i.txn i.key Exclusive v))
  unfolding full_step split_step locked txn_at
  full_happens v i full =
      cond_both (not (may_split v.me.mode)) _ _ (Happens sc n v)
      (λ _. aborts_locked i.txn (page i.key v) Exclusive _ v i.runs.active i.runs.here refl)
      (λ normal. cond_both (nat_le sc.pages (length v.me.lows)) _ _ (Happens sc n v)
      (λ _. aborts_locked i.txn (page i.key v) Exclusive _ v i.runs.active i.runs.here refl)
      (λ more. plain v _ (Splits (record { insert = i; full = full; normal = not-false _ normal; pages = more }) refl) refl refl (_, _, refl)))

  -- the line of an insert under its lock: the row is there, the page is full, or it has room
  insert_happens : (t k x : ℕ) (v : View) → Runs sc n t (effect.Accesses (access.Inserts x) k) v → Free t k Exclusive v
      → Happens sc n v (insert_step sc t k x (page k v) (has_lock t k Exclusive v))
  unfolding insert_step locked txn_at
  insert_happens t k x v runs f =
      cond_both (is_there k (page k v) v.me (txn_at v t)) _ _ (Happens sc n v)
      (λ _. aborts_locked t (page k v) Exclusive _ v runs.active runs.here refl)
      (λ new. let i : Inserting sc n v = record { txn = t; key = k; value = x; runs = runs; free = f; absent = new } in
      cond_both (has_room sc (page k v) v.me (txn_at v t)) _ _ (Happens sc n v)
      (λ room. plain v _ (Inserts (record { insert = i; room = room }) refl) refl refl tt)
      (λ full. full_happens v i full))

  -- the line of a write under its lock
  write_happens : (t k x : ℕ) (v : View) → Runs sc n t (effect.Accesses (access.Writes x) k) v → Free t k Exclusive v
      → Happens sc n v (write_step t k x (page k v) (has_lock t k Exclusive v))
  unfolding write_step locked txn_at
  write_happens t k x v runs f =
      cond_both (is_there k (page k v) v.me (txn_at v t)) _ _ (Happens sc n v)
      (λ there. plain v _ (Writes (record { txn = t; key = k; value = x; runs = runs; free = f; there = there }) refl) refl refl tt)
      (λ _. aborts_locked t (page k v) Exclusive _ v runs.active runs.here refl)

  -- the line of a read under its lock
  read_happens : (t : ℕ) (r : Reg) (k : ℕ) (v : View) → Runs sc n t (effect.Accesses (Reads r) k) v → Free t k Shared v
      → Happens sc n v (read_step t r k (page k v) (has_lock t k Shared v))
  unfolding read_step locked txn_at
  read_happens t r k v runs f = plain v _ (Gets (record { txn = t; register = r; key = k; runs = runs; free = f }) refl) refl refl tt

  -- an access that has its lock
  access_happens : (t k : ℕ) (i : Access) (v : View) → Runs sc n t (effect.Accesses i k) v → Free t k (lock_of i) v
      → Happens sc n v (access_step sc t i k (page k v) (has_lock t k (lock_of i) v))
  unfolding access_step
  access_happens t k (Reads r) v runs f = read_happens t r k v runs f
  access_happens t k (access.Writes x) v runs f = write_happens t k x v runs f
  access_happens t k (access.Inserts x) v runs f = insert_happens t k x v runs f

  -- a page that is not here
  absent_happens : (t k : ℕ) (e : Effect) (v : View) → Runs sc n t e v → owns v.me.pages (page_of v.me.lows k) ≡ false
      → Happens sc n v (absent_step t (page_of v.me.lows k) v)
  unfolding absent_step
  absent_happens t k e v r gone =
      cond_both (not (may_pull v.me.mode)) _ _ (Happens sc n v)
      (λ s. aborts t _ v r.active r.here (λ _. record {
        txn = t;
        key = k;
        active = r.active;
        here = r.here;
        begun = r.begun;
        gone = gone;
        cause = inl (not-true _ s);
      }))
      (λ s. cond_both (has v.me.asked (page_of v.me.lows k)) _ _ (Happens sc n v)
      (λ _. rests v _ refl refl)
      (λ h. plain v _ (Asks (record { page = page_of v.me.lows k; gone = gone; pulls = not-false _ s; unasked = h }) refl) refl refl (k, refl)))

  -- an access by its key and its page
  key_happens : (t k : ℕ) (i : Access) (v : View) → Runs sc n t (effect.Accesses i k) v → Happens sc n v (key_step sc t i k v)
  unfolding key_step page_step
  key_happens t k i v runs =
      cond_both (nat_lt max_key k) _ _ (Happens sc n v)
      (λ _. aborts t _ v runs.active runs.here (λ e. never e))
      (λ small. cond_both (not (owns v.me.pages (page_of v.me.lows k))) _ _ (Happens sc n v)
      (λ gone. absent_happens t k (effect.Accesses i k) v runs (not-true _ gone))
      (λ here. cond_both (conflict v.me.locks (page_of v.me.lows k) t (lock_of i)) _ _ (Happens sc n v)
      (λ _. rests v _ refl refl)
      (λ free. access_happens t k i v runs (record { small = small; here = not-false _ here; free = free }))))

  -- the first of a sum's pages that is not here
  sum_absent : (t a b p : ℕ) (i : Effect) (v : View) → Runs sc n t i v → first_absent v.me.pages (range_pages v.me.lows a b) ≡ Some p
      → Happens sc n v (absent_step t p v)
  sum_absent t a b p i v runs e =
      let f = found_has (λ (z : ℕ). not (owns v.me.pages z)) (range_pages v.me.lows a b) p e in
      let k = key_of_page v.me.lows a b p f.0 in
      subst (λ z. Happens sc n v (absent_step t z v)) k.1 (absent_happens t k.0 i v runs (ap (owns v.me.pages) k.1 ∙ not-true _ f.1))

  -- the line of a sum whose pages are all here: it waits for another's lock, or adds up
  sum_waits_happens : (t : ℕ) (r : Reg) (a b : ℕ) (o : Option ℕ) (v : View) → o ≡ first_taken v.me.locks t (range_pages v.me.lows a b)
      → Runs sc n t (effect.Sums r a b) v → nat_lt b a ≡ false → nat_lt max_key b ≡ false
      → ((p : ℕ) → has (range_pages v.me.lows a b) p ≡ true → owns v.me.pages p ≡ true)
      → Happens sc n v (sum_or_waits t r a b o v)
  unfolding sum_or_waits sum_step set_step shares txn_at
  sum_waits_happens t r a b (Some p) v e runs rises small here = rests v _ refl refl
  sum_waits_happens t r a b None v e runs rises small here =
      let taken : ℕ → Bool = λ z. conflict v.me.locks z t Shared in
      let free : FreeRange t a b v = record {
        rises = rises;
        small = small;
        here = here;
        free = λ p h. none_passes taken (range_pages v.me.lows a b) p (sym e) h;
      } in
      plain v _ (SumsUp (record { txn = t; register = r; first = a; last = b; runs = runs; free = free }) refl) refl refl tt

  -- the line of a sum with keys: it asks for a page that is not here, or goes on to the locks
  sum_asks_happens : (t : ℕ) (r : Reg) (a b : ℕ) (o : Option ℕ) (v : View) → o ≡ first_absent v.me.pages (range_pages v.me.lows a b)
      → Runs sc n t (effect.Sums r a b) v → nat_lt b a ≡ false → nat_lt max_key b ≡ false
      → Happens sc n v (sum_or_asks t r a b o v)
  unfolding sum_or_asks
  sum_asks_happens t r a b (Some p) v e runs rises small = sum_absent t a b p (effect.Sums r a b) v runs (sym e)
  sum_asks_happens t r a b None v e runs rises small =
      let absent : ℕ → Bool = λ z. not (owns v.me.pages z) in
      sum_waits_happens t r a b _ v refl runs rises small (λ p h. not-false _ (none_passes absent (range_pages v.me.lows a b) p (sym e) h))

  -- the lines of a sum
  range_happens : (t : ℕ) (r : Reg) (a b : ℕ) (v : View) → Runs sc n t (effect.Sums r a b) v → Happens sc n v (range_step t r a b v)
  unfolding range_step set_step
  range_happens t r a b v runs =
      cond_both (nat_lt b a) _ _ (Happens sc n v)
      (λ none. goes_on t (effect.Sums r a b) ((txn_at v t).pc + 1) (with_reg r 0 (txn_at v t).regs) v runs (BySum r a b refl none refl refl))
      (λ rises. cond_both (nat_lt max_key b) _ _ (Happens sc n v)
      (λ _. aborts t _ v runs.active runs.here (λ e. never e))
      (λ small. sum_asks_happens t r a b _ v refl runs rises small))

  -- the line of a commit: it aborts where a page of a private row has gone, and else lays the rows down
  commit_happens : (t : ℕ) (o : Option ℕ) (v : View) → o ≡ least (gone_pages v.me (txn_at v t).rows) → Runs sc n t effect.Commits v
      → Happens sc n v (commit_or_gone t o v)
  unfolding commit_or_gone
  commit_happens t (Some p) v e r =
      aborts t (why.Gone p) v r.active r.here (λ _.
      let l = gone_key v.me (txn_at v t).rows (txn_at v t).rows (λ k h. h) p (sym e) in
      record { txn = t; key = l.0; active = r.active; here = r.here; begun = r.begun; gone = l.2; cause = inr l.1 })
  commit_happens t None v e r = plain v _ (Commits (record { txn = t; runs = r; none_gone = sym e }) refl) refl refl tt

  -- the lines of each effect
  effect_happens : (t : ℕ) (e : Effect) (v : View) → Runs sc n t e v → Happens sc n v (effect_step sc t e v)
  unfolding effect_step set_step jump_step commit_step
  effect_happens t (effect.Sets r x) v runs =
      goes_on t (effect.Sets r x) ((txn_at v t).pc + 1) (with_reg r x (txn_at v t).regs) v runs (BySet r x refl refl refl)
  effect_happens t (effect.Jumps taken to) v runs =
      goes_on t (effect.Jumps taken to) (if taken then to else (txn_at v t).pc + 1) (txn_at v t).regs v runs (ByJump taken to refl refl refl)
  effect_happens t (effect.Accesses i k) v runs = key_happens t k i v runs
  effect_happens t (effect.Sums r a b) v runs = range_happens t r a b v runs
  effect_happens t effect.Commits v runs = commit_happens t _ v refl runs
  effect_happens t effect.Aborts v runs = aborts t _ v runs.active runs.here (λ e. never e)

  -- the line of the next instruction, if the program has one
  instr_happens : (t : ℕ) (o : Option Instr) (v : View) → ((i : Instr) → o ≡ Some i → Runs sc n t (effect_of i (txn_at v t).regs) v)
      → Happens sc n v (instr_step sc t o (txn_at v t).regs v)
  unfolding instr_step
  instr_happens t None v r = rests v _ refl refl
  instr_happens t (Some i) v r = effect_happens t (effect_of i (txn_at v t).regs) v (r i refl)

  -- the lines of a run: of a transaction that is active, at n, whose node does not wait
  run_happens : (t : ℕ) (v : View) → Happens sc n v (run_step sc n t v)
  unfolding run_step
  run_happens t v =
      cond_both (not (is_active (txn_at v t).status)) _ _ (Happens sc n v)
      (λ _. rests v _ refl refl)
      (λ a. cond_both (not (same_node (txn_at v t).node n)) _ _ (Happens sc n v)
      (λ _. rests v _ refl refl)
      (λ h. cond_both (is_waiting v.me.mode) _ _ (Happens sc n v)
      (λ _. rests v _ refl refl)
      (λ b. instr_happens t _ v (λ i e.
      record { instr = i; active = not-false _ a; here = same_node-true _ _ (not-false _ h); begun = b; next = e; does = refl }))))

  -- the client's lines
  start_happens : (v : View) → (sc.version ≡ One → n ≡ A) → Happens sc n v (start_step v)
  unfolding start_step
  start_happens v at_a =
      cond_both (may_start v.me.mode v.them.mode) _ _ (Happens sc n v)
      (λ h. let modes = starts_from v.me.mode v.them.mode h in
      plain v _ (Starts (record { at_a = at_a; normal = modes.0; empty = modes.1 }) refl) refl refl refl)
      (λ _. rests v _ refl refl)

  -- the lines of a kill
  kill_happens : (t : ℕ) (v : View) → (txn_at v t).node ≡ n → Happens sc n v (kill_step t v)
  unfolding kill_step
  kill_happens t v h =
      cond_both (is_active (txn_at v t).status) _ _ (Happens sc n v)
      (λ a. plain v _ (Aborts (record { txn = t; cause = why.Killed; active = a; here = h }) refl) refl refl tt)
      (λ _. rests v _ refl refl)

  -- the lines of take, where the mode table has one
  strays : (m : Message) (v : View) (taken : Front m v) → mode_line m v ≡ Stray → Happens sc n v (arrival_step (mode_line m v) m v (rest v taken.after))
  unfolding arrival_step
  strays m v taken e =
      subst (λ y. Happens sc n v (arrival_step y m v (rest v taken.after))) (sym e)
      (record { event = Rests refl; told = tt; lost = λ h. never h; strange = λ _. record { message = m; taken = taken; line = e } })

  -- a message is taken as its line says
  by_line : (m : Message) (v : View) (taken : Front m v) (y : MessageLine) → mode_line m v ≡ y
      → Happens sc n v (arrival_step y m v (rest v taken.after)) → Happens sc n v (arrival_step (mode_line m v) m v (rest v taken.after))
  by_line m v taken y e h = subst (λ z. Happens sc n v (arrival_step z m v (rest v taken.after))) (sym e) h

  -- taking a wireframe
  wire_happens : (lows : List ℕ) (v : View) (taken : Front (Wire lows) v)
      → Happens sc n v (arrival_step (mode_line (Wire lows) v) (Wire lows) v (rest v taken.after))
  unfolding arrival_step
  wire_happens lows v taken =
      elim (wire_line v.me.mode (all_here (with_brought (Wire lows) v.me))) [
        | inl e ↦ strays (Wire lows) v taken e
        | inr h ↦ by_line (Wire lows) v taken _ h.1 (plain v _ (GotWire (record { lows = lows; taken = taken; empty = h.0 }) refl) refl refl tt)
      ]

  -- taking a ready
  ready_happens : (v : View) (taken : Front Ready v) → Happens sc n v (arrival_step (mode_line Ready v) Ready v (rest v taken.after))
  unfolding arrival_step
  ready_happens v taken =
      elim (ready_line v.me.mode (all_here (with_brought Ready v.me))) [
        | inl e ↦ strays Ready v taken e
        | inr h ↦ by_line Ready v taken _ h.1 (plain v _ (GotReady (record { taken = taken; mode = h.0 }) refl) refl refl tt)
      ]

  -- taking a dual
  dual_happens : (v : View) (taken : Front Dual v) → Happens sc n v (arrival_step (mode_line Dual v) Dual v (rest v taken.after))
  unfolding arrival_step
  dual_happens v taken =
      elim (dual_line v.me.mode (all_here (with_brought Dual v.me))) [
        | inl e ↦ strays Dual v taken e
        | inr h ↦ by_line Dual v taken _ h.1 (plain v _ (GotDual (record { taken = taken; mode = h.0 }) refl) refl refl tt)
      ]

  -- taking a page, the last one or one of more
  page_happens : (leaf : Leaf) (v : View) (taken : Front (Page leaf) v)
      → Happens sc n v (arrival_step (mode_line (Page leaf) v) (Page leaf) v (rest v taken.after))
  unfolding arrival_step
  page_happens leaf v taken =
      elim (page_line v.me.mode (all_here (with_brought (Page leaf) v.me))) [
        | inl e ↦ strays (Page leaf) v taken e
        | inr h ↦ elim h [
          | inl more ↦ by_line (Page leaf) v taken _ more.2 (plain v _ (GotPage (record { leaf = leaf; taken = taken; pulls = more.0; lacks = more.1 }) refl) refl refl tt)
          | inr last ↦ by_line (Page leaf) v taken _ last.2
              (plain v _ (GotLast (record { leaf = leaf; taken = taken; mode = last.0; all = last.1 }) refl) refl refl tt)
        ]
      ]

  -- taking a finish, with all pages here or not
  finish_taken : (v : View) (taken : Front Finish v) → Happens sc n v (arrival_step (mode_line Finish v) Finish v (rest v taken.after))
  unfolding arrival_step
  finish_taken v taken =
      elim (finish_line v.me.mode (all_here (with_brought Finish v.me))) [
        | inl e ↦ strays Finish v taken e
        | inr h ↦ let take : Taking Finish DDual v = record { taken = taken; mode = h.0 } in elim h.1 [
          | inl some ↦ by_line Finish v taken _ some.1 (plain v _ (GotFinish (record { take = take; lacks = some.0 }) refl) refl refl tt)
          | inr all ↦ by_line Finish v taken _ all.1 (plain v _ (GotAll (record { take = take; all = all.0 }) refl) refl refl tt)
        ]
      ]

  -- taking a done
  done_happens : (v : View) (taken : Front Done v) → Happens sc n v (arrival_step (mode_line Done v) Done v (rest v taken.after))
  unfolding arrival_step
  done_happens v taken =
      elim (done_line v.me.mode (all_here (with_brought Done v.me))) [
        | inl e ↦ strays Done v taken e
        | inr h ↦ by_line Done v taken _ h.1 (plain v _ (GotDone (record { taken = taken; mode = h.0 }) refl) refl refl tt)
      ]

  -- taking a pull in a mode that sends: it is stale, it waits for the lock, or the page leaves
  pull_turns : (v : View) (pull : Pulled v) (to : NodeMode) → is_sending v.me.mode ≡ true
      → Happens sc n v (pull_step sc pull.page (Turns to (Some kind.Page)) v (rest v pull.after))
  unfolding pull_step
  pull_turns v pull to sends =
      cond_both (not (owns v.me.pages pull.page)) _ _ (Happens sc n v)
      (λ _. plain v _ (IsStale pull refl) refl refl tt)
      (λ own. cond_both (is_held sc.rule && is_locked v.me.locks pull.page) _ _ (Happens sc n v)
      (λ _. rests v _ refl refl)
      (λ free. plain v _ (Gives (record { pull = pull; sends = sends; own = not-false _ own; free = free }) refl) refl refl tt))

  -- taking a pull
  pull_happens : (p : ℕ) (v : View) (taken : Front (Pull p) v) → Happens sc n v (pull_step sc p (mode_line (Pull p) v) v (rest v taken.after))
  unfolding pull_step
  pull_happens p v taken =
      elim (pull_line v.me.mode (all_here (with_brought (Pull p) v.me))) [
        | inl e ↦ subst (λ y. Happens sc n v (pull_step sc p y v (rest v taken.after))) (sym e)
            (record { event = Rests refl; told = tt; lost = λ h. never h; strange = λ _. record { message = Pull p; taken = taken; line = e } })
        | inr h ↦ subst (λ y. Happens sc n v (pull_step sc p y v (rest v taken.after))) (sym h.1.1)
            (pull_turns v (record { page = p; taken = taken }) h.1.0 h.0)
      ]

  -- taking a message of each kind
  message_happens : (m : Message) (v : View) (taken : Front m v) → Happens sc n v (message_step sc m v (rest v taken.after))
  unfolding message_step
  message_happens (Wire lows) v taken = wire_happens lows v taken
  message_happens Ready v taken = ready_happens v taken
  message_happens Dual v taken = dual_happens v taken
  message_happens (Pull p) v taken = pull_happens p v taken
  message_happens (Page leaf) v taken = page_happens leaf v taken
  message_happens Finish v taken = finish_taken v taken
  message_happens Done v taken = done_happens v taken

  -- taking the front of the link, if there is one
  front_happens : (ms : List Message) (v : View) → v.inbox ≡ ms → Happens sc n v (front_step sc ms v)
  unfolding front_step
  front_happens [] v f = rests v _ refl refl
  front_happens (m ∷ ms) v f = message_happens m v (record { after = ms; front = f })

  -- the lines of a take
  take_happens : (v : View) → Happens sc n v (take_step sc v)
  unfolding take_step
  take_happens v = front_happens v.inbox v refl

  -- the lines of finish and push
  finish_by : (mode : NodeMode) (o : Option ℕ) (t : ℕ) (v : View) → v.me.mode ≡ mode → active_from n 0 v.txns ≡ o
      → Happens sc n v (finish_if (on_finish mode (is_some o)) t v)
  unfolding finish_if
  finish_by SDual None t v m e = plain v _ (Finishes (record { dual = m; idle = e }) refl) refl refl tt
  finish_by mode o t v m e = rests v _ refl refl

  -- the lines of a finish
  finish_happens : (v : View) → Happens sc n v (finish_step n v)
  unfolding finish_step
  finish_happens v = finish_by v.me.mode (active_from n 0 v.txns) _ v refl refl

  -- the line of a push by the least page that is here
  push_by : (o : Option ℕ) (v : View) → o ≡ least (numbers v.me.pages) → v.me.mode ≡ SFinish → Happens sc n v (push_if o v)
  unfolding push_if
  push_by None v e m = rests v _ refl refl
  push_by (Some p) v e m = plain v _ (Pushes (record { page = p; finish = m; own = least-owns v.me.pages p (sym e) }) refl) refl refl tt

  -- the lines of a push
  push_happens : (v : View) → Happens sc n v (push_step v)
  unfolding push_step
  push_happens v =
      cond_both (may_push v.me.mode) _ _ (Happens sc n v)
      (λ h. push_by _ v refl (pushes_in_finish v.me.mode h))
      (λ _. rests v _ refl refl)

-- the line of a begin, at the node that is home
begin_at_happens : (sc : Scenario) (t : ℕ) (o : Option Node) (v : View) → o ≡ home_of v.me.mode v.them.mode → is_new (txn_at v t).status ≡ true
    → Happens sc A v (begin_at o t v)
unfolding begin_at
begin_at_happens sc t None v e s = rests sc A v _ refl refl
begin_at_happens sc t (Some h) v e s = plain sc A v _ (Begins (record { txn = t; home = h; at_a = refl; new = s; home_is = sym e }) refl) refl refl tt

-- the lines of a begin
begin_happens : (sc : Scenario) (t : ℕ) (v : View) → Happens sc A v (begin_step t v)
unfolding begin_step
begin_happens sc t v =
    cond_both (is_new (txn_at v t).status) _ _ (Happens sc A v)
    (λ s. begin_at_happens sc t _ v refl s)
    (λ _. rests sc A v _ refl refl)

-- a transaction's node is the same from either side
node_of : (n : Node) (t : ℕ) (s : State) → (txn_at (facing n s) t).node ≡ (txn_or (slice_get s.txns t)).node
unfolding txn_at
node_of A t s = refl
node_of B t s = refl

-- every step of the table, at the side that it is read from
pub step_happens : (sc : Scenario) (c : Choice) (s : State) → Happens sc (side_of sc c s) (facing (side_of sc c s) s) (move sc c (facing (side_of sc c s) s))
unfolding move
step_happens sc Start s = start_happens sc _ _ (starts_at_a s.a.mode s.b.mode sc.version)
step_happens sc (Begin t) s = begin_happens sc t _
step_happens sc (Kill t) s = kill_happens sc _ t _ (node_of (txn_or (slice_get s.txns t)).node t s)
step_happens sc (Run n t) s = run_happens sc n t _
step_happens sc (Take n) s = take_happens sc n _
step_happens sc (Finish_at n) s = finish_happens sc n _
step_happens sc (Push n) s = push_happens sc n _
