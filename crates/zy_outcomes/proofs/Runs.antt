-- What each line of a run tells: the reason of its outcome, what becomes of the transaction, and what is sent.
use Rattle.std.proofs.Common.{◌∙◌, ◌≡◌, ℕ, ◌+◌, ◌<◌, List, [], ◌∷◌, length, true, false, refl, sym, ap, subst, inl, inr, arith, length-append}
use Rattle.std.specs.Prelude.{if◌then◌else◌, ◌==◌, ◌||◌, nat_lt, nat_le, not, Some, None, Option, slice_get, slice_set, is_some}
use Rattle.std.proofs.lemmas.Bool.{cond_both, false≢true, not-false, not-true, cases_Bool, eq-eqb, eqb-true, leb-false, leb-true, or_cases, or_left, or_right}
use Rattle.zy_isa.specs.Limits.{max_key}
use Rattle.zy_isa.specs.Rows.{get_row}
use Rattle.zy_isa.specs.Scenario.{Scenario}
use Rattle.zy_isa.specs.declared.choice.Choice.TheVariants.{Run}
use Rattle.zy_isa.specs.declared.instr.Instr.{Instr}
use Rattle.zy_isa.specs.declared.instr.Reg.{Reg}
use Rattle.zy_isa.specs.declared.node.Node.{Node}
use Rattle.zy_isa.specs.declared.node.Node.TheVariants.{A, B}
use Rattle.zy_isa.specs.declared.row.Row.{Row}
use Rattle.zy_model.specs.Locks.{conflict}
use Rattle.zy_model.specs.Messages.{Pull}
use Rattle.zy_model.specs.Table.{is_waiting, may_pull, may_split}
use Rattle.zy_model.specs.Wireframe.{page_of}
use Rattle.zy_model.specs.declared.lock.LockKind.{LockKind}
use Rattle.zy_model.specs.declared.lock.LockKind.TheVariants.{Shared, Exclusive}
use Rattle.zy_model.specs.declared.mode.NodeMode.{NodeMode}
use Rattle.zy_model.specs.declared.mode.NodeMode.TheVariants.{DInit}
use Rattle.zy_table.proofs.AbortedLocks.{aborted-locked}
use Rattle.zy_table.proofs.PageLists.{owns-lowered, owns-with_page}
use Rattle.zy_table.proofs.RangeLists.{found_has, has-put_new, none_passes}
use Rattle.zy_table.specs.Change.{aborted, asks, committed, cut, did, locked, quiet, shares, txn_at, txn_or}
use Rattle.zy_table.specs.Client.{is_active}
use Rattle.zy_table.specs.Effects.{effect_of}
use Rattle.zy_table.specs.Numbers.{has, least, least_with}
use Rattle.zy_table.specs.Pages.{owns}
use Rattle.zy_table.specs.Ranges.{range_pages}
use Rattle.zy_table.specs.Run.{abort_step, absent_step, access_step, commit_or_gone, commit_step, effect_step, first_absent, first_taken, full_step, gone_pages}
use Rattle.zy_table.specs.Run.{has_room, insert_step, instr_step, is_there, jump_step, key_step, lock_of, page_step, program_of, range_step, read_step}
use Rattle.zy_table.specs.Run.{run_step, same_node, set_step, split_step, sum_or_asks, sum_or_waits, sum_step, write_step}
use Rattle.zy_table.specs.State.{Move, NodeState, Txn, View}
use Rattle.zy_table.specs.declared.access.Access.{Access}
use Rattle.zy_table.specs.declared.access.Access.TheVariants as access
use Rattle.zy_table.specs.declared.effect.Effect.{Effect}
use Rattle.zy_table.specs.declared.effect.Effect.TheVariants as effect
use Rattle.zy_table.specs.declared.outcome.Outcome.{Outcome}
use Rattle.zy_table.specs.declared.outcome.Outcome.TheVariants as outcome
use Rattle.zy_table.specs.declared.outcome.Why.{Why}
use Rattle.zy_table.specs.declared.outcome.Why.TheVariants as why
use Rattle.zy_table.specs.declared.status.Status.TheVariants.{Aborted}
use Rattle.zy_laws.proofs.walk.Events.{same_node-true}
use Rattle.zy_laws.proofs.walk.Txns.{at_self}
use Rattle.zy_outcomes.specs.Accounts.{IsNumbered, Says, counted, is_did, is_of_run}
use Rattle.zy_outcomes.specs.Coming.{IsAwaited}
use Rattle.zy_outcomes.specs.Reasons.{FindsFull, HasCause, HasReason, Next, RunsAt, Wants}

-- what becomes of transaction t where this is said: nothing, or it is set; what it did, and its registers
pub data Fares (t : ℕ) (o : Outcome) (v w : View) : Type 0 where
  Stays : w.txns ≡ v.txns → counted o ≡ 0 → Fares t o v w
  Goes : (y : Txn) → is_active (txn_at v t).status ≡ true → w.txns ≡ slice_set v.txns t y → y.done ≡ (txn_at v t).done + counted o
      → (is_did o ≡ false → y.regs ≡ (txn_at v t).regs) → Fares t o v w

-- t waits: its node has the mode, the wireframe and the pages that it had, and no transaction changed
pub record Waits (v w : View) : Type 0 where
  pub txns : w.txns ≡ v.txns
  pub mode : w.me.mode ≡ v.me.mode
  pub lows : w.me.lows ≡ v.me.lows
  pub pages : w.me.pages ≡ v.me.pages

-- it waits where nothing changes
waits_here : (v : View) → Waits v v
waits_here v = record { txns = refl; mode = refl; lows = refl; pages = refl }

-- t splits a page: its node has one page more, and no transaction changed
pub record Cuts (sc : Scenario) (v w : View) : Type 0 where
  pub txns : w.txns ≡ v.txns
  pub normal : may_split v.me.mode ≡ true
  pub mode : w.me.mode ≡ v.me.mode
  pub room : length v.me.lows < sc.pages
  pub lows : length w.me.lows ≡ length v.me.lows + 1
  pub new : owns w.me.pages (length v.me.lows) ≡ true
  pub kept : (p : ℕ) → owns v.me.pages p ≡ true → owns w.me.pages p ≡ true

-- what a run of t brings, if it aborts, splits a page, or waits for a page or for `dual`
abbrev pub Brings : Scenario → ℕ → Outcome → View → View → Type 0
Brings sc t (outcome.Aborted y) v w = (txn_at w t).status ≡ Aborted y
Brings sc t (outcome.Split p q b) v w = Cuts sc v w
Brings sc t (outcome.Pulls p) v w = Waits v w
Brings sc t (outcome.Awaits p) v w = Waits v w
Brings sc t outcome.NotYet v w = Waits v w
Brings sc t o v w = Unit {0}

-- which commits there are after a run of t at n: a new one is its own, and t ran there
abbrev pub Lists : Node → ℕ → Outcome → View → View → Type 0
Lists n t (outcome.Committed i) v w = RunsAt v t n × (w ≡ committed t v)
Lists n t o v w = w.commits ≡ v.commits

-- where nothing was done, there is no new one
lists_none : (n : Node) (t : ℕ) (o : Outcome) (v : View) → counted o ≡ 0 → Lists n t o v v
lists_none n t (outcome.Committed i) v e = cc
lists_none n t o v e = refl

-- equal nodes pass the test
pub same_node-same : (a b : Node) → a ≡ b → same_node a b ≡ true
same_node-same A A e = refl
same_node-same A B e = cc
same_node-same B A e = cc
same_node-same B B e = refl

-- the program of t has an instruction where it is
abbrev pub HasNext : Scenario → ℕ → View → Type 0
HasNext sc t v = (i : Instr) × (slice_get (program_of sc t) (txn_at v t).pc ≡ Some i)

-- a mode in which transactions wait is DInit
pub waits_in : (m : NodeMode) → is_waiting m ≡ true → m ≡ DInit
waits_in DInit h = refl
waits_in m h = absurd (false≢true h)

-- the least of a number and those of a list is the number or in the list
least_with-has : (x p : ℕ) (xs : List ℕ) → least_with x xs ≡ p → has (x ∷ xs) p ≡ true
least_with-has x p [] e = or_left _ _ (eq-eqb x p e)
least_with-has x p (y ∷ ys) e =
    let k = least_with-has (if nat_lt y x then y else x) p ys e in
    elim (or_cases ((if nat_lt y x then y else x) == p) (has ys p) k) [
      | inl h ↦
          cond_both (nat_lt y x) y x (λ z. (z == p) ≡ true → has (x ∷ y ∷ ys) p ≡ true)
          (λ _ e. or_right _ _ (or_left _ _ e))
          (λ _ e. or_left _ _ e) h
      | inr h ↦ or_right _ _ (or_right _ _ h)
    ]

-- the least number of a list is in the list
least-has : (xs : List ℕ) (p : ℕ) → least xs ≡ Some p → has xs p ≡ true
least-has [] p e = cc
least-has (x ∷ xs) p e = least_with-has x p xs (let k : least_with x xs ≡ p = cc in k)

-- a page of private rows that is not here has one of them
gone_row : (x : NodeState) (rows all : List Row) → ((k : ℕ) → is_some (get_row rows k) ≡ true → is_some (get_row all k) ≡ true) → (p : ℕ)
    → has (gone_pages x rows) p ≡ true
    → (owns x.pages p ≡ false) × (k : ℕ) × (is_some (get_row all k) ≡ true) × (page_of x.lows k ≡ p)
gone_row x [] all sub p h = absurd (false≢true h)
gone_row x (r ∷ rows) all sub p h =
    let later : (k : ℕ) → is_some (get_row rows k) ≡ true → is_some (get_row all k) ≡ true =
    λ k h. sub k (cond_both (r.key == k) (Some r.value) (get_row rows k) (λ o. is_some o ≡ true) (λ _. refl) (λ _. h)) in
    elim (cases_Bool (owns x.pages (page_of x.lows r.key))) [
      | inl own ↦ gone_row x rows all later p (subst (λ b. has (if b then gone_pages x rows else page_of x.lows r.key ∷ gone_pages x rows) p ≡ true) own h)
      | inr gone ↦
          let k : ((page_of x.lows r.key == p) || has (gone_pages x rows) p) ≡ true =
          subst (λ b. has (if b then gone_pages x rows else page_of x.lows r.key ∷ gone_pages x rows) p ≡ true) gone h in
          elim (or_cases (page_of x.lows r.key == p) (has (gone_pages x rows) p) k) [
            | inl same ↦
                let e = eqb-true _ _ same in
                (subst (λ q. owns x.pages q ≡ false) e gone, r.key, sub r.key (ap (λ b. is_some (if b then Some r.value else get_row rows r.key)) (eq-eqb r.key r.key refl)), e)
            | inr more ↦ gone_row x rows all later p more
          ]
    ]

-- the lines of a run of t at n
module _ (sc : Scenario) (n : Node) (t : ℕ) where
  -- what a line tells
  pub record Tells (v : View) (m : Move) : Type 0 where
    pub reason : HasReason sc n v (Run n t) m.outcome
    pub fares : Fares t m.outcome v m.after
    pub sent : Says m.sent v.outbox m.after.outbox
    pub number : IsNumbered m.outcome m.after.commits
    pub inbox : m.after.inbox ≡ v.inbox
    pub awaited : IsAwaited m.outcome m.after.me
    pub brings : Brings sc t m.outcome v m.after
    pub lists : Lists n t m.outcome v m.after
    pub runs : RunsAt v t n → HasNext sc t v → is_of_run m.outcome ≡ true

  -- nothing changes
  rests : (v : View) (o : Outcome) → HasReason sc n v (Run n t) o → counted o ≡ 0 → IsNumbered o v.commits → IsAwaited o v.me → Brings sc t o v v
      → (RunsAt v t n → HasNext sc t v → is_of_run o ≡ true) → Tells v (quiet v o)
  rests v o reason none number awaited brings runs =
      record { reason = reason; fares = Stays refl none; sent = refl; number = number; inbox = refl; awaited = awaited; brings = brings; lists = lists_none n t o v none; runs = runs }

  -- t aborts
  aborts : (v : View) (y : Why) → RunsAt v t n → HasCause sc n v (Run n t) t y → Tells v (abort_step t y v)
  unfolding abort_step aborted
  aborts v y at cause = record {
    reason = (t, at, cause);
    fares = Goes _ at.0 refl (omega arith) (λ _. refl);
    sent = refl;
    number = tt;
    inbox = refl;
    awaited = tt;
    brings = ap (λ (x : Txn). x.status) (at_self v _ t _ refl at.0);
    lists = refl;
    runs = λ _ _. refl;
  }

  -- the same with a lock taken
  aborts_locked : (v : View) (p : ℕ) (kind : LockKind) (y : Why) → RunsAt v t n → HasCause sc n v (Run n t) t y
      → Tells v (abort_step t y (locked t p kind v))
  unfolding abort_step
  aborts_locked v p kind y at cause =
      subst (λ w. Tells v (quiet w (outcome.Aborted y))) (sym (aborted-locked t p kind y v)) (aborts v y at cause)

  -- t does an instruction, with its locks taken before
  goes_on : (v w : View) (pc : ℕ) (regs : List ℕ) (rows : List Row) → RunsAt v t n → w.txns ≡ v.txns → w.outbox ≡ v.outbox → w.inbox ≡ v.inbox
      → w.commits ≡ v.commits → Tells v (quiet (did t pc regs rows w) outcome.Did)
  unfolding did txn_at
  goes_on v w pc regs rows at same out front all = let x = txn_at w t in let y : Txn = record x { pc = pc; regs = regs; rows = rows; done = x.done + 1 } in record {
    reason = tt;
    fares = Goes y at.0 (ap (λ xs. slice_set xs t y) same) (ap (λ xs. (txn_or (slice_get xs t)).done + 1) same) (λ h. absurd (false≢true (sym h)));
    sent = out;
    number = tt;
    inbox = front;
    awaited = tt;
    brings = tt;
    lists = all;
    runs = λ _ _. refl;
  }

  -- an insert on a full page
  full_tells : (v : View) (k x : ℕ) → RunsAt v t n → FindsFull sc t v (page_of v.me.lows k)
      → Tells v (full_step sc t k (page_of v.me.lows k) (locked t (page_of v.me.lows k) Exclusive v))
  unfolding full_step split_step locked cut txn_at
  full_tells v k x at full =
      let p = page_of v.me.lows k in
      cond_both (not (may_split v.me.mode)) _ _ (Tells v)
      (λ s. aborts_locked v p Exclusive (why.Frozen p) at (refl, full, not-true _ s))
      (λ s. cond_both (nat_le sc.pages (length v.me.lows)) _ _ (Tells v)
      (λ most. aborts_locked v p Exclusive why.NoPage at (p, refl, full, not-false _ s, leb-true _ _ most))
      (λ more. record {
        reason = tt;
        fares = Stays refl refl;
        sent = refl;
        number = tt;
        inbox = refl;
        awaited = tt;
        brings = record {
          txns = refl;
          normal = not-false _ s;
          mode = refl;
          room = leb-false _ _ more;
          lows = length-append v.me.lows _;
          new = owns-with_page (length v.me.lows) _ _ ∙ or_left _ _ (eq-eqb (length v.me.lows) _ refl);
          kept = λ q own. owns-with_page q _ _ ∙ or_right _ _ (owns-lowered _ _ v.me.pages q ∙ own);
        };
        lists = refl;
        runs = λ _ _. refl;
      }))

  -- an insert that has its lock
  insert_tells : (v : View) (k x : ℕ) → RunsAt v t n → Next sc t v (effect.Accesses (access.Inserts x) k)
      → Tells v (insert_step sc t k x (page_of v.me.lows k) (locked t (page_of v.me.lows k) Exclusive v))
  unfolding insert_step locked txn_at
  insert_tells v k x at next =
      let p = page_of v.me.lows k in
      cond_both (is_there k p v.me (txn_at v t)) _ _ (Tells v)
      (λ there. aborts_locked v p Exclusive why.Duplicate at (refl, (k, x, next, there)))
      (λ new. cond_both (has_room sc p v.me (txn_at v t)) _ _ (Tells v)
      (λ _. goes_on v (locked t p Exclusive v) _ _ _ at refl refl refl refl)
      (λ full. full_tells v k x at (k, x, next, refl, new, full)))

  -- a write that has its lock
  write_tells : (v : View) (k x : ℕ) → RunsAt v t n → Next sc t v (effect.Accesses (access.Writes x) k)
      → Tells v (write_step t k x (page_of v.me.lows k) (locked t (page_of v.me.lows k) Exclusive v))
  unfolding write_step locked txn_at
  write_tells v k x at next =
      let p = page_of v.me.lows k in
      cond_both (is_there k p v.me (txn_at v t)) _ _ (Tells v)
      (λ _. goes_on v (locked t p Exclusive v) _ _ _ at refl refl refl refl)
      (λ none. aborts_locked v p Exclusive why.Missing at (refl, (k, x, next, none)))

  -- an access that has its lock
  access_tells : (v : View) (i : Access) (k : ℕ) → RunsAt v t n → Next sc t v (effect.Accesses i k)
      → Tells v (access_step sc t i k (page_of v.me.lows k) (locked t (page_of v.me.lows k) (lock_of i) v))
  unfolding access_step read_step locked
  access_tells v (access.Reads r) k at next = goes_on v (locked t (page_of v.me.lows k) Shared v) _ _ _ at refl refl refl refl
  access_tells v (access.Writes x) k at next = write_tells v k x at next
  access_tells v (access.Inserts x) k at next = insert_tells v k x at next

  -- a page that is needed and is not here
  absent_tells : (v : View) (p : ℕ) (kind : LockKind) → RunsAt v t n → Wants sc n v (Run n t) p t kind → owns v.me.pages p ≡ false
      → Tells v (absent_step t p v)
  unfolding absent_step asks
  absent_tells v p kind at wants gone =
      cond_both (not (may_pull v.me.mode)) _ _ (Tells v)
      (λ s. aborts v (why.Gone p) at (gone, inl (kind, wants, not-true _ s)))
      (λ s. cond_both (has v.me.asked p) _ _ (Tells v)
      (λ asked. rests v (outcome.Awaits p) (t, kind, wants, gone, not-false _ s, asked) refl tt asked (waits_here v) (λ _ _. refl))
      (λ unasked. record {
        reason = (t, kind, wants, gone, not-false _ s, unasked);
        fares = Stays refl refl;
        sent = (Pull p, refl, refl);
        number = tt;
        inbox = refl;
        awaited = has-put_new p v.me.asked;
        brings = record { txns = refl; mode = refl; lows = refl; pages = refl };
        lists = refl;
        runs = λ _ _. refl;
      }))

  -- an access, by its key and its page
  key_tells : (v : View) (i : Access) (k : ℕ) → RunsAt v t n → Next sc t v (effect.Accesses i k) → Tells v (key_step sc t i k v)
  unfolding key_step page_step
  key_tells v i k at next =
      let p = page_of v.me.lows k in
      let wants : Wants sc n v (Run n t) p t (lock_of i) = record { run = refl; does = effect.Accesses i k; next = next; needs = (refl, refl) } in
      cond_both (nat_lt max_key k) _ _ (Tells v)
      (λ bad. aborts v why.BadKey at (effect.Accesses i k, refl, next, bad))
      (λ _. cond_both (not (owns v.me.pages p)) _ _ (Tells v)
      (λ gone. absent_tells v p (lock_of i) at wants (not-true _ gone))
      (λ here. cond_both (conflict v.me.locks p t (lock_of i)) _ _ (Tells v)
      (λ taken. rests v (outcome.Waits p) (t, lock_of i, wants, not-false _ here, taken) refl tt tt tt (λ _ _. refl))
      (λ _. access_tells v i k at next)))

  -- a sum whose pages are here
  sum_waits_tells : (v : View) (r : Reg) (a b : ℕ) (o : Option ℕ) → RunsAt v t n → Next sc t v (effect.Sums r a b)
      → o ≡ first_taken v.me.locks t (range_pages v.me.lows a b) → ((p : ℕ) → has (range_pages v.me.lows a b) p ≡ true → owns v.me.pages p ≡ true)
      → Tells v (sum_or_waits t r a b o v)
  unfolding sum_or_waits sum_step set_step shares
  sum_waits_tells v r a b (Some p) at next e here =
      let f = found_has (λ z. conflict v.me.locks z t Shared) (range_pages v.me.lows a b) p (sym e) in
      rests v (outcome.Waits p) (t, Shared, record { run = refl; does = effect.Sums r a b; next = next; needs = (f.0, refl) }, here p f.0, f.1) refl tt tt tt (λ _ _. refl)
  sum_waits_tells v r a b None at next e here = goes_on v (shares t (range_pages v.me.lows a b) v) _ _ _ at refl refl refl refl

  -- a sum with keys
  sum_tells : (v : View) (r : Reg) (a b : ℕ) (o : Option ℕ) → RunsAt v t n → Next sc t v (effect.Sums r a b)
      → o ≡ first_absent v.me.pages (range_pages v.me.lows a b) → Tells v (sum_or_asks t r a b o v)
  unfolding sum_or_asks
  sum_tells v r a b (Some p) at next e =
      let f = found_has (λ z. not (owns v.me.pages z)) (range_pages v.me.lows a b) p (sym e) in
      absent_tells v p Shared at (record { run = refl; does = effect.Sums r a b; next = next; needs = (f.0, refl) }) (not-true _ f.1)
  sum_tells v r a b None at next e =
      sum_waits_tells v r a b _ at next refl (λ p h. not-false _ (none_passes (λ z. not (owns v.me.pages z)) (range_pages v.me.lows a b) p (sym e) h))

  -- a sum
  range_tells : (v : View) (r : Reg) (a b : ℕ) → RunsAt v t n → Next sc t v (effect.Sums r a b) → Tells v (range_step t r a b v)
  unfolding range_step set_step
  range_tells v r a b at next =
      cond_both (nat_lt b a) _ _ (Tells v)
      (λ _. goes_on v v _ _ _ at refl refl refl refl)
      (λ rises. cond_both (nat_lt max_key b) _ _ (Tells v)
      (λ bad. aborts v why.BadKey at (effect.Sums r a b, refl, next, (rises, bad)))
      (λ _. sum_tells v r a b _ at next refl))

  -- a commit
  commit_tells : (v : View) (o : Option ℕ) → RunsAt v t n → Next sc t v effect.Commits → o ≡ least (gone_pages v.me (txn_at v t).rows)
      → Tells v (commit_or_gone t o v)
  unfolding commit_or_gone committed txn_at
  commit_tells v (Some p) at next e =
      let g = gone_row v.me (txn_at v t).rows (txn_at v t).rows (λ k h. h) p (least-has (gone_pages v.me (txn_at v t).rows) p (sym e)) in
      aborts v (why.Gone p) at (g.0, inr (refl, (g.1, next, g.2, g.3)))
  commit_tells v None at next e = record {
    reason = tt;
    fares = Goes _ at.0 refl refl (λ _. refl);
    sent = refl;
    number = let e = length-append v.commits (record { txn = t; done = (txn_at v t).done + 1 } ∷ []) in omega (arith, e);
    inbox = refl;
    awaited = tt;
    brings = tt;
    lists = (at, refl);
    runs = λ _ _. refl;
  }

  -- each effect
  effect_tells : (v : View) (e : Effect) → RunsAt v t n → Next sc t v e → Tells v (effect_step sc t e v)
  unfolding effect_step set_step jump_step commit_step
  effect_tells v (effect.Sets r x) at next = goes_on v v _ _ _ at refl refl refl refl
  effect_tells v (effect.Jumps taken to) at next = goes_on v v _ _ _ at refl refl refl refl
  effect_tells v (effect.Accesses i k) at next = key_tells v i k at next
  effect_tells v (effect.Sums r a b) at next = range_tells v r a b at next
  effect_tells v effect.Commits at next = commit_tells v _ at next refl
  effect_tells v effect.Aborts at next = aborts v why.Own at (refl, next)

  -- the next instruction, if the program has one
  instr_tells : (v : View) (o : Option Instr) → RunsAt v t n → o ≡ slice_get (program_of sc t) (txn_at v t).pc
      → Tells v (instr_step sc t o (txn_at v t).regs v)
  unfolding instr_step
  instr_tells v None at e = rests v outcome.Idle tt refl tt tt tt (λ _ next. let k = next.1 in cc)
  instr_tells v (Some i) at e = effect_tells v (effect_of i (txn_at v t).regs) at (i, sym e, refl)

  -- a run
  pub run_tells : (v : View) → Tells v (run_step sc n t v)
  unfolding run_step
  run_tells v =
      cond_both (not (is_active (txn_at v t).status)) _ _ (Tells v)
      (λ off. rests v outcome.Idle tt refl tt tt tt (λ at _. absurd (false≢true (sym (not-true _ off) ∙ at.0))))
      (λ a. cond_both (not (same_node (txn_at v t).node n)) _ _ (Tells v)
      (λ far. rests v outcome.Elsewhere tt refl tt tt tt (λ at _. absurd (false≢true (sym (not-true _ far) ∙ same_node-same _ _ at.1))))
      (λ h. let at : RunsAt v t n = (not-false _ a, same_node-true _ _ (not-false _ h)) in
      cond_both (is_waiting v.me.mode) _ _ (Tells v)
      (λ waits. rests v outcome.NotYet (t, refl, at, waits_in v.me.mode waits) refl tt tt (waits_here v) (λ _ _. refl))
      (λ _. instr_tells v _ at refl)))
