-- What each step tells: the reason of its outcome, what becomes of each transaction, and what is sent.
use Rattle.std.proofs.Common.{◌≡◌, ℕ, ◌+◌, ◌≤◌, List, [], ◌∷◌, true, false, refl, sym, ap, ◌∙◌, subst, inl, inr, arith, zero, suc}
use Rattle.std.specs.Prelude.{length, Bool, if◌then◌else◌, ◌==◌, ◌&&◌, not, Some, None, Option, slice_get, slice_set, is_some, unwrap_or, ◌⊎◌}
use Rattle.std.proofs.lemmas.Bool.{cond_both, false≢true, not-false, not-true, and_parts, cases_eq, eq-eqb, ne_eqb, or_cases, eqb-true}
use Rattle.zy_isa.specs.Scenario.{Scenario}
use Rattle.zy_isa.specs.declared.choice.Choice.{Choice}
use Rattle.zy_isa.specs.declared.choice.Choice.TheVariants.{Start, Begin, Kill, Run, Take, Finish as Finish_at, Push}
use Rattle.zy_isa.specs.declared.node.Node.{Node}
use Rattle.zy_isa.specs.declared.node.Node.TheVariants.{A}
use Rattle.zy_isa.specs.declared.rule.Rule.{Rule}
use Rattle.zy_isa.specs.declared.rule.Rule.TheVariants as rule
use Rattle.zy_model.specs.Locks.{is_locked}
use Rattle.zy_model.specs.Messages.{Message, Wire, Ready, Dual, Pull, Page, Finish, Done}
use Rattle.zy_model.specs.Table.{may_push, may_start, on_finish, on_message}
use Rattle.zy_model.specs.declared.kind.Kind.{Kind}
use Rattle.zy_model.specs.declared.kind.Kind.TheVariants as kind
use Rattle.zy_model.specs.declared.mode.NodeMode.{NodeMode}
use Rattle.zy_model.specs.declared.mode.NodeMode.TheVariants.{Empty, SInit, SDual, SFinish, DInit, DDual, DFinish}
use Rattle.zy_model.specs.declared.table.MessageLine.{MessageLine}
use Rattle.zy_model.specs.declared.table.MessageLine.TheVariants.{Stray, Turns}
use Rattle.zy_table.specs.Change.{aborted, begun, leaves, nobody, quiet, txn_at, txn_or}
use Rattle.zy_table.specs.Client.{begin_at, begin_step, is_active, is_new, kill_step, start_step}
use Rattle.zy_table.specs.Numbers.{least, has}
use Rattle.zy_table.specs.Pages.{leaf_at, owns}
use Rattle.zy_table.specs.Play.{move, side_of, step}
use Rattle.zy_table.specs.Push.{active_from, finish_if, finish_step, push_if, push_step}
use Rattle.zy_table.specs.Run.{same_node}
use Rattle.zy_table.specs.State.{Move, NodeState, State, Txn, View, facing}
use Rattle.zy_table.specs.Take.{arrival_step, front_step, is_held, message_step, outcome_of, pull_step, take_step, with_answer}
use Rattle.zy_table.specs.declared.entry.CommitRecord.{CommitRecord}
use Rattle.zy_table.specs.declared.outcome.Outcome.{Outcome}
use Rattle.zy_table.specs.declared.outcome.Outcome.TheVariants as outcome
use Rattle.zy_laws.proofs.owner.MovingPages.{owns-without}
use Rattle.zy_laws.proofs.serial.Serializable.{commits_back}
use Rattle.zy_laws.proofs.serial.Values.{back_to}
use Rattle.zy_laws.proofs.walk.Events.{same_node-true}
use Rattle.zy_laws.proofs.walk.Txns.{at_either, at_other, at_same, at_self, at_side, not_new}
use Rattle.zy_outcomes.proofs.Runs.{Fares, Goes, Stays, Tells, run_tells, same_node-same, Lists}
use Rattle.zy_outcomes.specs.Accounts.{Accounts, IsNumbered, Says, counted, is_did, runs, who_begins}
use Rattle.zy_outcomes.specs.Coming.{IsAwaited}
use Rattle.zy_outcomes.specs.Reasons.{HasReason, RunsAt}

-- ---- the lowest active transaction

-- the rule of a held page
held_rule : (r : Rule) → is_held r ≡ true → r ≡ rule.Held
held_rule rule.Held h = refl
held_rule rule.Loose h = absurd (false≢true h)

-- two tests that both hold
and_both : (a b : Bool) → a ≡ true → b ≡ true → (a && b) ≡ true
and_both a b x y = rw (x, y) refl

-- transaction x is active at n
abbrev stands : Node → Txn → Bool
stands n x = is_active x.status && same_node x.node n

-- the found one is the lowest that stands there, counted from i
record IsLowest (n : Node) (i : ℕ) (xs : List Txn) (t : ℕ) : Type 0 where
  at : ℕ
  is : t ≡ i + at
  here : stands n (txn_or (slice_get xs at)) ≡ true
  least : (u : ℕ) → stands n (txn_or (slice_get xs u)) ≡ true → at ≤ u

-- where the first does not stand there, who does is behind it
above : (n : Node) (x : Txn) (xs : List Txn) (at : ℕ) → stands n x ≡ false → ((u : ℕ) → stands n (txn_or (slice_get xs u)) ≡ true → at ≤ u)
    → (u : ℕ) → stands n (txn_or (slice_get (x ∷ xs) u)) ≡ true → suc at ≤ u
above n x xs at off least zero h = absurd (false≢true (sym off ∙ h))
above n x xs at off least (suc u) h = let k = least u h in omega (arith, k)

-- who is found is the lowest
lowest_of : (n : Node) (i : ℕ) (xs : List Txn) (t : ℕ) → active_from n i xs ≡ Some t → IsLowest n i xs t
lowest_of n i [] t e = cc
lowest_of n i (x ∷ xs) t e =
    cond_both (stands n x) (Some i) (active_from n (i + 1) xs) (λ o. o ≡ Some t → IsLowest n i (x ∷ xs) t)
    (λ h e. let same : i ≡ t = cc in record { at = 0; is = omega (arith, same); here = h; least = λ u _. omega arith })
    (λ off e. let k = lowest_of n (i + 1) xs t e in record {
      at = suc k.at;
      is = let j = k.is in omega (arith, j);
      here = k.here;
      least = above n x xs k.at off k.least;
    }) e

-- ---- what each step tells

-- a transaction that has not begun has nothing yet
pub record Blank (v : View) : Type 0 where
  pub each : (t : ℕ) → is_new (txn_at v t).status ≡ true → txn_at v t ≡ nobody

-- a pull that is taken and changes nothing else asks for a page that is not here
abbrev pub Stale : View → View → Type 0
Stale v w = (p : ℕ) (ms : List Message) → v.inbox ≡ Pull p ∷ ms → w.inbox ≡ ms → w.me ≡ v.me → owns v.me.pages p ≡ false

-- where no message is taken, none was a pull
none_taken : (v : View) (x : NodeState) (p : ℕ) (ms : List Message) → v.inbox ≡ Pull p ∷ ms → v.inbox ≡ ms → x ≡ v.me → owns v.me.pages p ≡ false
none_taken v x p ms f e h = let a = ap length f in let b = ap length e in absurd (omega (arith, a, b))

-- which commits there are after a choice: a new one is that of a run
abbrev pub ListsBy : Choice → Outcome → View → View → Type 0
ListsBy (Run n t) o v w = Lists n t o v w
ListsBy c o v w = w.commits ≡ v.commits

-- who begins was new, who was new still is, but for who begins, and a new commit is that of a run
pub record Logs (c : Choice) (o : Outcome) (v w : View) : Type 0 where
  pub begun : (u : ℕ) → has (who_begins c o) u ≡ true → is_new (txn_at v u).status ≡ true
  pub new : (u : ℕ) → is_new (txn_at v u).status ≡ true → (is_new (txn_at w u).status ≡ true) ⊎ (who_begins c o ≡ u ∷ [])
  pub lists : ListsBy c o v w

-- where nobody begins, and no transaction changes
same_logs : (c : Choice) (o : Outcome) (v w : View) → who_begins c o ≡ [] → w.txns ≡ v.txns → ListsBy c o v w → Logs c o v w
same_logs c o v w none same lists = record {
  begun = λ u h. absurd (false≢true (ap (λ xs. has xs u) (sym none) ∙ h));
  new = λ u h. inl (ap (λ (x : Txn). is_new x.status) (at_same v w u same) ∙ h);
  lists = lists;
}

-- where nobody begins, and one changes that runs
set_logs : (c : Choice) (o : Outcome) (v w : View) (t : ℕ) (y : Txn) → who_begins c o ≡ [] → is_active (txn_at v t).status ≡ true
    → w.txns ≡ slice_set v.txns t y → ListsBy c o v w → Logs c o v w
set_logs c o v w t y none on set lists = record {
  begun = λ u h. absurd (false≢true (ap (λ xs. has xs u) (sym none) ∙ h));
  new = λ u h. elim (cases_eq u t) [
    | inl same ↦ absurd (false≢true (sym (not_new _ (subst (λ z. is_new (txn_at v z).status ≡ true) same h)) ∙ on))
    | inr far ↦ inl (ap (λ (x : Txn). is_new x.status) (at_other v w t u y set far) ∙ h)
  ];
  lists = lists;
}

-- a run
run_logs : (n : Node) (t : ℕ) (o : Outcome) (v w : View) → Fares t o v w → Lists n t o v w → Logs (Run n t) o v w
run_logs n t o v w (Stays same none) lists = same_logs (Run n t) o v w refl same lists
run_logs n t o v w (Goes y on set done regs) lists = set_logs (Run n t) o v w t y refl on set lists

-- t begins, which was new
begin_logs : (n : Node) (t : ℕ) (v w : View) (y : Txn) → is_new (txn_at v t).status ≡ true → w.txns ≡ slice_set v.txns t y → w.commits ≡ v.commits
    → Logs (Begin t) (outcome.Began n) v w
begin_logs n t v w y first set all = record {
  begun = λ u h. elim (or_cases (t == u) false h) [
    | inl same ↦ subst (λ z. is_new (txn_at v z).status ≡ true) (eqb-true t u same) first
    | inr never ↦ absurd (false≢true never)
  ];
  new = λ u h. elim (cases_eq u t) [
    | inl same ↦ inr (ap (λ z. z ∷ []) (sym same))
    | inr far ↦ inl (ap (λ (x : Txn). is_new x.status) (at_other v w t u y set far) ∙ h)
  ];
  lists = all;
}

-- what a move tells, where those that have not begun have nothing yet
pub record Told (sc : Scenario) (n : Node) (v : View) (c : Choice) (m : Move) : Type 0 where
  pub reason : HasReason sc n v c m.outcome
  pub sent : Says m.sent v.outbox m.after.outbox
  pub number : IsNumbered m.outcome m.after.commits
  pub stale : Stale v m.after
  pub awaited : IsAwaited m.outcome m.after.me
  pub accounts : Blank v → (u : ℕ) → Accounts c m.outcome u (txn_at v u) (txn_at m.after u)
  pub logs : Logs c m.outcome v m.after

-- where a transaction stays what it was and is not run, nothing is to be accounted for
idle_accounts : (c : Choice) (o : Outcome) (u : ℕ) (x y : Txn) → runs c u ≡ false → y.done ≡ x.done → y.regs ≡ x.regs → Accounts c o u x y
idle_accounts c o u x y off done regs = record {
  done = done ∙ rw off (let e : x.done ≡ x.done + 0 = omega arith in e);
  regs = λ _. regs;
}

-- a step of no transaction
apart : (c : Choice) (o : Outcome) (v w : View) → ((u : ℕ) → runs c u ≡ false) → w.txns ≡ v.txns → Blank v → (u : ℕ)
    → Accounts c o u (txn_at v u) (txn_at w u)
apart c o v w off same blank u =
    let e = at_same v w u same in idle_accounts c o u (txn_at v u) (txn_at w u) (off u) (ap (λ (x : Txn). x.done) e) (ap (λ (x : Txn). x.regs) e)

-- a step that sets t, which is not run
sets : (c : Choice) (o : Outcome) (v w : View) (t : ℕ) (y : Txn) → ((u : ℕ) → runs c u ≡ false) → w.txns ≡ slice_set v.txns t y
    → y.done ≡ (txn_at v t).done → y.regs ≡ (txn_at v t).regs → (u : ℕ) → Accounts c o u (txn_at v u) (txn_at w u)
sets c o v w t y off set done regs u = elim (cases_eq u t) [
  | inl same ↦ subst (λ z. Accounts c o z (txn_at v z) (txn_at w z)) (sym same) (elim (at_either v w t y set) [
    | inl new ↦ subst (λ z. Accounts c o t (txn_at v t) z) (sym new) (idle_accounts c o t (txn_at v t) y (off t) done regs)
    | inr old ↦ idle_accounts c o t (txn_at v t) (txn_at w t) (off t) (ap (λ (x : Txn). x.done) old) (ap (λ (x : Txn). x.regs) old)
  ])
  | inr far ↦
      let e = at_other v w t u y set far in
      idle_accounts c o u (txn_at v u) (txn_at w u) (off u) (ap (λ (x : Txn). x.done) e) (ap (λ (x : Txn). x.regs) e)
]

-- what a run tells of t and of the others
fares_accounts : (n : Node) (t : ℕ) (o : Outcome) (v w : View) → Fares t o v w → (u : ℕ) → Accounts (Run n t) o u (txn_at v u) (txn_at w u)
fares_accounts n t o v w (Stays same none) u = let e = at_same v w u same in record {
  done = ap (λ (x : Txn). x.done) e ∙ (cond_both (t == u) (counted o) 0 (λ k. (txn_at v u).done ≡ (txn_at v u).done + k) (λ _. omega (arith, none)) (λ _. omega arith));
  regs = λ _. ap (λ (x : Txn). x.regs) e;
}
fares_accounts n t o v w (Goes y active set done regs) u = elim (cases_eq u t) [
  | inl same ↦
      let new = at_self v w t y set active in
      let it : (t == t) ≡ true = eq-eqb t t refl in
      subst (λ z. Accounts (Run n t) o z (txn_at v z) (txn_at w z)) (sym same) (record {
        done = ap (λ (x : Txn). x.done) new ∙ done ∙ ap (λ b. (txn_at v t).done + (if b then counted o else 0)) (sym it);
        regs = λ h. ap (λ (x : Txn). x.regs) new ∙ regs (ap (λ b. b && is_did o) (sym it) ∙ h);
      })
  | inr far ↦
      let e = at_other v w t u y set far in
      idle_accounts (Run n t) o u (txn_at v u) (txn_at w u) (ne_eqb t u (λ h. far (sym h))) (ap (λ (x : Txn). x.done) e) (ap (λ (x : Txn). x.regs) e)
]

-- an outcome alone
stays : (sc : Scenario) (n : Node) (c : Choice) (v : View) (o : Outcome) → ((u : ℕ) → runs c u ≡ false) → HasReason sc n v c o
    → IsNumbered o v.commits → IsAwaited o v.me → who_begins c o ≡ [] → ListsBy c o v v → Told sc n v c (quiet v o)
stays sc n c v o off reason number awaited none lists = record {
  reason = reason;
  sent = refl;
  number = number;
  stale = none_taken v v.me;
  awaited = awaited;
  accounts = apart c o v v off refl;
  logs = same_logs c o v v none refl lists;
}

-- a run tells
run_told : (sc : Scenario) (n : Node) (t : ℕ) (v : View) (m : Move) → Tells sc n t v m → Told sc n v (Run n t) m
run_told sc n t v m x = record { reason = x.reason; sent = x.sent; number = x.number; stale = λ p ms f e h. none_taken v m.after.me p ms f (sym x.inbox ∙ e) h; awaited = x.awaited; accounts = λ _ u. fares_accounts n t m.outcome v m.after x.fares u; logs = run_logs n t m.outcome v m.after x.fares x.lists }

-- a kill
kill_told : (sc : Scenario) (n : Node) (t : ℕ) (v : View) → (txn_at v t).node ≡ n → Told sc n v (Kill t) (kill_step t v)
unfolding kill_step aborted
kill_told sc n t v here =
    cond_both (is_active (txn_at v t).status) _ _ (Told sc n v (Kill t))
    (λ a. record { reason = (t, (a, here), refl); sent = refl; number = tt; stale = none_taken v _; awaited = tt; accounts = λ _. sets (Kill t) _ v _ t _ (λ _. refl) refl refl refl; logs = set_logs (Kill t) _ v _ t _ refl a refl refl })
    (λ _. stays sc n (Kill t) v _ (λ _. refl) tt tt tt refl refl)

-- a begin at a node, or at none
begin_at_told : (sc : Scenario) (n : Node) (t : ℕ) (o : Option Node) (v : View) → is_new (txn_at v t).status ≡ true → Told sc n v (Begin t) (begin_at o t v)
unfolding begin_at begun
begin_at_told sc n t None v new = stays sc n (Begin t) v _ (λ _. refl) tt tt tt refl refl
begin_at_told sc n t (Some h) v new = record {
  reason = tt;
  sent = refl;
  number = tt;
  stale = none_taken v _;
  awaited = tt;
  accounts = λ blank. let e = blank.each t new in
      sets (Begin t) _ v _ t _ (λ _. refl) refl (sym (ap (λ (x : Txn). x.done) e)) (sym (ap (λ (x : Txn). x.regs) e));
  logs = begin_logs h t v _ _ new refl refl;
}

-- a begin
begin_told : (sc : Scenario) (n : Node) (t : ℕ) (v : View) → Told sc n v (Begin t) (begin_step t v)
unfolding begin_step
begin_told sc n t v =
    cond_both (is_new (txn_at v t).status) _ _ (Told sc n v (Begin t))
    (λ new. begin_at_told sc n t _ v new)
    (λ _. stays sc n (Begin t) v _ (λ _. refl) tt tt tt refl refl)

-- a start
start_told : (sc : Scenario) (n : Node) (v : View) → Told sc n v Start (start_step v)
unfolding start_step
start_told sc n v =
    cond_both (may_start v.me.mode v.them.mode) _ _ (Told sc n v Start)
    (λ _. record { reason = tt; sent = (Wire v.me.lows, refl, refl); number = tt; stale = none_taken v _; awaited = tt; accounts = apart Start _ v _ (λ _. refl) refl; logs = same_logs Start _ v _ refl refl refl })
    (λ _. stays sc n Start v _ (λ _. refl) tt tt tt refl refl)

-- who is found is the lowest that runs at n
lowest_runs : (n : Node) (t : ℕ) (v : View) → active_from n 0 v.txns ≡ Some t → RunsAt v t n × ((u : ℕ) → RunsAt v u n → t ≤ u)
unfolding txn_at
lowest_runs n t v e =
    let k = lowest_of n 0 v.txns t e in
    let same : k.at ≡ t = let j = k.is in omega (arith, j) in
    let here = and_parts _ _ (subst (λ z. stands n (txn_or (slice_get v.txns z)) ≡ true) same k.here) in
    ((here.0, same_node-true _ _ here.1), (λ u h. let j = k.least u (and_both _ _ h.0 (same_node-same _ _ h.1)) in omega (arith, j, same)))

-- a finish
finish_told : (sc : Scenario) (n : Node) (mode : NodeMode) (o : Option ℕ) (v : View) → active_from n 0 v.txns ≡ o
    → Told sc n v (Finish_at n) (finish_if (on_finish mode (is_some o)) (unwrap_or o 0) v)
unfolding finish_if
finish_told sc n SDual None v e = record { reason = tt; sent = (Finish, refl, refl); number = tt; stale = none_taken v _; awaited = tt; accounts = apart (Finish_at n) _ v _ (λ _. refl) refl; logs = same_logs (Finish_at n) _ v _ refl refl refl }
finish_told sc n SDual (Some t) v e =
    let k = lowest_runs n t v e in
    stays sc n (Finish_at n) v (outcome.Active t) (λ _. refl) (refl, k.0, k.1) tt tt refl refl
finish_told sc n mode o v e = stays sc n (Finish_at n) v _ (λ _. refl) tt tt tt refl refl

-- a push of a page, or of none
push_if_told : (sc : Scenario) (n : Node) (o : Option ℕ) (v : View) → Told sc n v (Push n) (push_if o v)
unfolding push_if leaves
push_if_told sc n None v = stays sc n (Push n) v _ (λ _. refl) tt tt tt refl refl
push_if_told sc n (Some p) v = record { reason = tt; sent = (Page (leaf_at v.me.pages p), refl, refl); number = tt; stale = none_taken v _; awaited = tt; accounts = apart (Push n) _ v _ (λ _. refl) refl; logs = same_logs (Push n) _ v _ refl refl refl }

-- a push
push_told : (sc : Scenario) (n : Node) (v : View) → Told sc n v (Push n) (push_step v)
unfolding push_step
push_told sc n v =
    cond_both (may_push v.me.mode) _ _ (Told sc n v (Push n))
    (λ _. push_if_told sc n _ v)
    (λ _. stays sc n (Push n) v _ (λ _. refl) tt tt tt refl refl)

-- ---- messages

-- what a line of the mode table says is sent is sent
abbrev Answers : MessageLine → List Message → Type 0
Answers Stray out = Unit {0}
Answers (Turns mode sent) out = Says sent out (with_answer sent out)

-- of each message but a pull, whose answer is the page
answers : (mode : NodeMode) (k : Kind) (all : Bool) (out : List Message) → (k ≡ kind.Pull → ⊥) → Answers (on_message mode k all) out
answers Empty kind.Wire all out far = (Ready, refl, refl)
answers SInit kind.Ready all out far = (Dual, refl, refl)
answers DInit kind.Dual all out far = refl
answers SDual kind.Pull all out far = absurd (far refl)
answers SFinish kind.Pull all out far = absurd (far refl)
answers DDual kind.Page all out far = refl
answers DFinish kind.Page false out far = refl
answers DFinish kind.Page true out far = (Done, refl, refl)
answers DDual kind.Finish false out far = refl
answers DDual kind.Finish true out far = (Done, refl, refl)
answers SFinish kind.Done all out far = refl
answers mode k all out far = tt

-- the fronts of equal links are the same message
first_same : {m k : Message} {ms ks : List Message} → (m ∷ ms) ≡ (k ∷ ks) → m ≡ k
first_same e = cc

-- equal pulls ask for one page
pull_same : {p q : ℕ} → Pull p ≡ Pull q → p ≡ q
pull_same e = cc

-- n takes a message
module _ (sc : Scenario) (n : Node) where
  -- a message that is no pull arrives
  arrives : (m : Message) (v : View) (ms : List Message) (y : MessageLine) → v.inbox ≡ m ∷ ms → ((p : ℕ) → m ≡ Pull p → ⊥) → Answers y v.outbox
      → HasReason sc n v (Take n) (outcome_of m) → ((cs : List CommitRecord) → IsNumbered (outcome_of m) cs)
      → ((x : NodeState) → IsAwaited (outcome_of m) x) → Told sc n v (Take n) (arrival_step y m v (record v { inbox = ms }))
  unfolding arrival_step
  arrives m v ms Stray f far a reason number awaited = stays sc n (Take n) v outcome.Stray (λ _. refl) tt tt tt refl refl
  arrives m v ms (Turns mode sent) f far a reason number awaited = record {
    reason = reason;
    sent = a;
    number = number _;
    stale = λ p xs g _ _. absurd (far p (first_same (sym f ∙ g)));
    awaited = awaited _;
    accounts = apart (Take n) _ v _ (λ _. refl) refl;
    logs = same_logs (Take n) _ v _ refl refl refl;
  }

  -- a pull is taken, or it is not
  pulled : (p : ℕ) (v : View) (ms : List Message) (y : MessageLine) → v.inbox ≡ Pull p ∷ ms → Told sc n v (Take n) (pull_step sc p y v (record v { inbox = ms }))
  unfolding pull_step leaves
  pulled p v ms Stray f = stays sc n (Take n) v outcome.Stray (λ _. refl) tt tt tt refl refl
  pulled p v ms (Turns mode sent) f =
      let front : slice_get v.inbox 0 ≡ Some (Pull p) = ap (λ xs. slice_get xs 0) f in
      let asked : (q : ℕ) (xs : List Message) → v.inbox ≡ Pull q ∷ xs → p ≡ q = λ q xs g. pull_same (first_same (sym f ∙ g)) in
      cond_both (not (owns v.me.pages p)) _ _ (Told sc n v (Take n))
      (λ gone. record {
        reason = (refl, front, not-true _ gone);
        sent = refl;
        number = tt;
        stale = λ q xs g _ _. subst (λ z. owns v.me.pages z ≡ false) (asked q xs g) (not-true _ gone);
        awaited = tt;
        accounts = apart (Take n) _ v _ (λ _. refl) refl;
        logs = same_logs (Take n) _ v _ refl refl refl;
      })
      (λ here. cond_both (is_held sc.rule && is_locked v.me.locks p) _ _ (Told sc n v (Take n))
      (λ held. let both = and_parts _ _ held in
      stays sc n (Take n) v (outcome.Held p) (λ _. refl) (refl, front, held_rule sc.rule both.0, not-false _ here, both.1) tt tt refl refl)
      (λ _. record {
        reason = tt;
        sent = (Page (leaf_at v.me.pages p), refl, refl);
        number = tt;
        stale = λ q xs g _ h. subst (λ z. owns v.me.pages z ≡ false) (asked q xs g)
            (ap (λ (x : NodeState). owns x.pages p) (sym h) ∙ owns-without p v.me.pages);
        awaited = tt;
        accounts = apart (Take n) _ v _ (λ _. refl) refl;
        logs = same_logs (Take n) _ v _ refl refl refl;
      }))

  -- a message of each kind
  message_told : (m : Message) (v : View) (ms : List Message) → v.inbox ≡ m ∷ ms → Told sc n v (Take n) (message_step sc m v (record v { inbox = ms }))
  unfolding message_step
  message_told (Wire lows) v ms f =
      arrives (Wire lows) v ms _ f (λ p e. cc) (answers v.me.mode kind.Wire _ v.outbox (λ e. cc)) tt (λ _. tt) (λ _. tt)
  message_told Ready v ms f = arrives Ready v ms _ f (λ p e. cc) (answers v.me.mode kind.Ready _ v.outbox (λ e. cc)) tt (λ _. tt) (λ _. tt)
  message_told Dual v ms f = arrives Dual v ms _ f (λ p e. cc) (answers v.me.mode kind.Dual _ v.outbox (λ e. cc)) tt (λ _. tt) (λ _. tt)
  message_told (Pull p) v ms f = pulled p v ms _ f
  message_told (Page leaf) v ms f =
      arrives (Page leaf) v ms _ f (λ p e. cc) (answers v.me.mode kind.Page _ v.outbox (λ e. cc)) tt (λ _. tt) (λ _. tt)
  message_told Finish v ms f = arrives Finish v ms _ f (λ p e. cc) (answers v.me.mode kind.Finish _ v.outbox (λ e. cc)) tt (λ _. tt) (λ _. tt)
  message_told Done v ms f = arrives Done v ms _ f (λ p e. cc) (answers v.me.mode kind.Done _ v.outbox (λ e. cc)) tt (λ _. tt) (λ _. tt)

  -- the front of the link, if there is one
  front_told : (ms : List Message) (v : View) → v.inbox ≡ ms → Told sc n v (Take n) (front_step sc ms v)
  unfolding front_step
  front_told [] v f = stays sc n (Take n) v outcome.NoMessage (λ _. refl) tt tt tt refl refl
  front_told (m ∷ ms) v f = message_told m v ms f

  -- a take
  take_told : (v : View) → Told sc n v (Take n) (take_step sc v)
  unfolding take_step
  take_told v = front_told v.inbox v refl

-- ---- the whole

-- every step tells, at the side that it is read from
pub step_told : (sc : Scenario) (c : Choice) (s : State) → let n = side_of sc c s in Told sc n (facing n s) c (move sc c (facing n s))
unfolding move finish_step
step_told sc Start s = start_told sc _ _
step_told sc (Begin t) s = begin_told sc A t _
step_told sc (Kill t) s = kill_told sc _ t _ (ap (λ (x : Txn). x.node) (at_side (txn_or (slice_get s.txns t)).node s t))
step_told sc (Run n t) s = run_told sc n t _ _ (run_tells sc n t _)
step_told sc (Take n) s = take_told sc n _
step_told sc (Finish_at n) s = finish_told sc n _ _ _ refl
step_told sc (Push n) s = push_told sc n _

-- the law: an outcome has its reason
pub step_reason : (sc : Scenario) (c : Choice) (s : State) → let n = side_of sc c s in HasReason sc n (facing n s) c (step sc c s).outcome
unfolding step
step_reason sc c s = (step_told sc c s).reason

-- the law: what is sent is said
pub sent_is_said : (sc : Scenario) (c : Choice) (s : State) → let n = side_of sc c s in let x = step sc c s in
    Says x.sent (facing n s).outbox (facing n x.after).outbox
unfolding step
sent_is_said sc c s =
    let n = side_of sc c s in
    let m = move sc c (facing n s) in
    subst (λ (w : View). Says m.sent (facing n s).outbox w.outbox) (sym (back_to n m.after)) (step_told sc c s).sent

-- a page that is said to come is asked for
pub step_awaited : (sc : Scenario) (c : Choice) (s : State) → let n = side_of sc c s in let x = step sc c s in
    IsAwaited x.outcome (facing n x.after).me
unfolding step
step_awaited sc c s =
    let n = side_of sc c s in
    let m = move sc c (facing n s) in
    subst (λ (w : View). IsAwaited m.outcome w.me) (sym (back_to n m.after)) (step_told sc c s).awaited

-- the law: a commit's number is its place
pub commit_number : (sc : Scenario) (c : Choice) (s : State) → let x = step sc c s in IsNumbered x.outcome x.after.commits
unfolding step
commit_number sc c s =
    let n = side_of sc c s in
    let m = move sc c (facing n s) in
    subst (λ cs. IsNumbered m.outcome cs) (sym (commits_back n m.after)) (step_told sc c s).number
