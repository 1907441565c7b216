-- Why there is always a way on: each round in which a transaction does not get on leaves less to come for it.
use Rattle.std.proofs.Common.{◌≡◌, ℕ, ◌+◌, ◌-◌, ◌<◌, ◌≤◌, List, length, true, false, refl, sym, ap, ◌∙◌, subst, inl, inr, arith, zero, suc}
use Rattle.std.specs.Prelude.{if◌then◌else◌, slice_get, slice_set}
use Rattle.std.proofs.lemmas.Bool.{cases_Bool, cases_eq, cond_both, false≢true}
use Rattle.zy_isa.specs.Scenario.{IsScenario, Scenario}
use Rattle.zy_isa.specs.declared.choice.Choice.{Choice}
use Rattle.zy_isa.specs.declared.choice.Choice.TheVariants.{Kill, Run}
use Rattle.zy_isa.specs.declared.node.Node.{Node}
use Rattle.zy_isa.specs.declared.node.Node.TheVariants.{A}
use Rattle.zy_model.specs.Table.{is_waiting, may_pull}
use Rattle.zy_model.specs.declared.mode.NodeMode.{NodeMode}
use Rattle.zy_table.specs.Change.{nobody, txn_at, txn_or}
use Rattle.zy_table.specs.Client.{is_active}
use Rattle.zy_table.specs.Database.{sent_leaves}
use Rattle.zy_table.specs.Numbers.{has}
use Rattle.zy_table.specs.Pages.{owns}
use Rattle.zy_table.specs.Play.{move, opening, play, step}
use Rattle.zy_table.specs.Run.{run_step}
use Rattle.zy_table.specs.State.{Leaf, NodeState, State, Txn, View, facing}
use Rattle.zy_table.specs.declared.outcome.Outcome.{Outcome}
use Rattle.zy_table.specs.declared.outcome.Outcome.TheVariants as outcome
use Rattle.zy_table.specs.declared.outcome.Why.{Why}
use Rattle.zy_table.specs.declared.outcome.Why.TheVariants as why
use Rattle.zy_laws.specs.WayOut.{enough}
use Rattle.zy_laws.proofs.serial.Values.{back_to}
use Rattle.zy_laws.proofs.sources.RealTime.{play-append}
use Rattle.zy_laws.proofs.walk.ModeLines.{pulls_in, splits_in_normal}
use Rattle.zy_laws.proofs.walk.Txns.{at_other, at_self, at_side}
use Rattle.zy_laws.proofs.way_out.Kills.{From, KilledAll, from_step, killed_from}
use Rattle.zy_laws.proofs.way_out.NoDeadEnd.{known, left_enough, txns_side}
use Rattle.zy_outcomes.proofs.Coming.{on_its_way}
use Rattle.zy_outcomes.proofs.Limits.{page_limit}
use Rattle.zy_outcomes.proofs.Runs.{Brings, Cuts, Fares, Goes, Stays, Waits, run_tells, waits_in}
use Rattle.zy_outcomes.proofs.RunsAlone.{a_run_gets_on_or_waits, waits_for_none}
use Rattle.zy_outcomes.proofs.Taken.{Taken, all_taken, links_from, may_wait, none_waits, takes_txns}
use Rattle.zy_outcomes.specs.Accounts.{counted, is_of_run, txn_of}
use Rattle.zy_outcomes.specs.Coming.{IsAwaited, OnItsWay, pulls}
use Rattle.zy_outcomes.specs.GetsOn.{GetsOn, HasGotOn, kills_but, round, rounds}
use Rattle.zy_outcomes.specs.Reasons.{HasCause, HasReason, IsAlone}

-- ---- what is to come

-- 1 if page p is missing, else 0
abbrev lacks : List Leaf → ℕ → ℕ
lacks xs p = if owns xs p then 0 else 1

-- how many of the first w pages are missing
abbrev missing : List Leaf → ℕ → ℕ
missing xs zero = 0
missing xs (suc w) = lacks xs w + missing xs w

-- how many rounds can pass at a node before t gets on: one for `dual`, one for each missing page, and one for each split that is left
abbrev to_come : ℕ → NodeState → ℕ
to_come pages x = (if is_waiting x.mode then 1 else 0) + missing x.pages (length x.lows) + (pages - length x.lows)

-- a page counts for at most 1
lacks_most : (xs : List Leaf) (p : ℕ) → lacks xs p ≤ 1
lacks_most xs p = cond_both (owns xs p) 0 1 (λ z. z ≤ 1) (λ _. omega arith) (λ _. omega arith)

-- a page that is here counts for 0
lacks_none : (xs : List Leaf) (p : ℕ) → owns xs p ≡ true → lacks xs p ≡ 0
lacks_none xs p own = ap (λ b. if b then 0 else 1) own

-- a page that is not here counts for 1
lacks_one : (xs : List Leaf) (p : ℕ) → owns xs p ≡ false → lacks xs p ≡ 1
lacks_one xs p off = ap (λ b. if b then 0 else 1) off

-- a page that stays counts for no more than before
lacks_kept : (xs ys : List Leaf) (p : ℕ) → (owns xs p ≡ true → owns ys p ≡ true) → lacks ys p ≤ lacks xs p
lacks_kept xs ys p kept = elim (cases_Bool (owns xs p)) [
  | inl own ↦ let a = lacks_none ys p (kept own) in omega (arith, a)
  | inr off ↦ let a = lacks_one xs p off in let b = lacks_most ys p in omega (arith, a, b)
]

-- at most w of the first w pages are missing
missing_most : (xs : List Leaf) (w : ℕ) → missing xs w ≤ w
missing_most xs zero = omega arith
missing_most xs (suc w) = let a = lacks_most xs w in let b = missing_most xs w in omega (arith, a, b)

-- if pages stay, no more are missing than before
missing_kept : (xs ys : List Leaf) (w : ℕ) → ((p : ℕ) → owns xs p ≡ true → owns ys p ≡ true) → missing ys w ≤ missing xs w
missing_kept xs ys zero kept = omega arith
missing_kept xs ys (suc w) kept = let a = lacks_kept xs ys w (kept w) in let b = missing_kept xs ys w kept in omega (arith, a, b)

-- if a missing page has come, too, fewer are
missing_less : (xs ys : List Leaf) (w p : ℕ) → p < w → owns xs p ≡ false → owns ys p ≡ true → ((q : ℕ) → owns xs q ≡ true → owns ys q ≡ true)
    → missing ys w < missing xs w
missing_less xs ys zero p below off own kept = absurd (omega (arith, below))
missing_less xs ys (suc w) p below off own kept =
    elim (cases_eq p w) [
      | inl same ↦
          let a = lacks_one xs w (subst (λ z. owns xs z ≡ false) same off) in
          let b = lacks_none ys w (subst (λ z. owns ys z ≡ true) same own) in
          let c = missing_kept xs ys w kept in
          omega (arith, a, b, c)
      | inr far ↦
          let a = lacks_kept xs ys w (kept w) in
          let b = missing_less xs ys w p (omega (arith, below, far)) off own kept in
          omega (arith, a, b)
    ]

-- what is to come at a node that does not wait for `dual`
settled : (pages w : ℕ) (x : NodeState) → is_waiting x.mode ≡ false → length x.lows ≡ w → to_come pages x ≡ missing x.pages w + (pages - w)
settled pages w x off long =
    let a : to_come pages x ≡ 0 + missing x.pages (length x.lows) + (pages - length x.lows) =
    ap (λ b. (if b then 1 else 0) + missing x.pages (length x.lows) + (pages - length x.lows)) off in
    let b = ap (λ n. missing x.pages n + (pages - n)) long in
    omega (arith, a, b)

-- what is to come is at least the missing pages and the splits that are left
at_least : (pages : ℕ) (x : NodeState) → missing x.pages (length x.lows) + (pages - length x.lows) ≤ to_come pages x
at_least pages x = omega arith

-- at most pages + 1 rounds are to come
most : (pages : ℕ) (x : NodeState) → length x.lows ≤ pages → to_come pages x ≤ pages + 1
most pages x few =
    let a = missing_most x.pages (length x.lows) in
    cond_both (is_waiting x.mode) 1 0 (λ z. z + missing x.pages (length x.lows) + (pages - length x.lows) ≤ pages + 1)
    (λ _. omega (arith, a, few)) (λ _. omega (arith, a, few))

-- ---- a run

-- what a run of t brings, in the views of its node before and after: t gets on, waits for `dual` or for a page, or splits a page
data Comes (sc : Scenario) (t : ℕ) (v w : View) : Type 0 where
  On : HasGotOn (txn_at v t) (txn_at w t) → Comes sc t v w
  For_dual : is_waiting v.me.mode ≡ true → Waits v w → Comes sc t v w
  For_page : (p : ℕ) → may_pull v.me.mode ≡ true → owns v.me.pages p ≡ false → has w.me.asked p ≡ true → Waits v w → Comes sc t v w
  Cut : Cuts sc v w → Comes sc t v w

-- t did an instruction more
did_more : (sc : Scenario) (t : ℕ) (o : Outcome) (v w : View) → Fares t o v w → counted o ≡ 1 → Comes sc t v w
did_more sc t o v w (Stays same none) one = absurd (omega (arith, none, one))
did_more sc t o v w (Goes y active set done regs) one =
    let e = ap (λ (x : Txn). x.done) (at_self v w t y set active) in
    On (inl (omega (arith, done, one, e)))

-- the abort of a run is no kill
no_kill : (sc : Scenario) (n : Node) (v : View) (t u : ℕ) (y : Why) → HasCause sc n v (Run n t) u y → y ≡ why.Killed → ⊥
no_kill sc n v t u y cause e = let k : Run n t ≡ Kill u = subst (HasCause sc n v (Run n t) u) e cause in cc k

-- what a run brings, by its outcome
comes : (sc : Scenario) (n : Node) (t : ℕ) (v w : View) (o : Outcome) → HasReason sc n v (Run n t) o → Fares t o v w → IsAwaited o w.me
    → Brings sc t o v w → is_of_run o ≡ true → ((p : ℕ) → o ≡ outcome.Waits p → ⊥) → Comes sc t v w
comes sc n t v w outcome.Did reason fares awaited brings h free = did_more sc t outcome.Did v w fares refl
comes sc n t v w (outcome.Committed i) reason fares awaited brings h free = did_more sc t (outcome.Committed i) v w fares refl
comes sc n t v w (outcome.Aborted y) reason fares awaited brings h free = On (inr (y, brings, no_kill sc n v t reason.0 y reason.2))
comes sc n t v w (outcome.Split p q b) reason fares awaited brings h free = Cut brings
comes sc n t v w (outcome.Pulls p) reason fares awaited brings h free = For_page p reason.4 reason.3 awaited brings
comes sc n t v w (outcome.Awaits p) reason fares awaited brings h free = For_page p reason.4 reason.3 awaited brings
comes sc n t v w outcome.NotYet reason fares awaited brings h free = For_dual (ap is_waiting reason.3) brings
comes sc n t v w (outcome.Waits p) reason fares awaited brings h free = absurd (free p refl)
comes sc n t v w o reason fares awaited brings h free = absurd (false≢true h)

-- ---- a round

-- a state in which a round begins: it is reached, and t alone is active
record Lone (sc : Scenario) (t : ℕ) (s : State) : Type 0 where
  from : From sc s
  alone : IsAlone s t
  active : is_active (txn_of s t).status ≡ true

-- a later state in which no transaction has changed is one, too
lone_on : (sc : Scenario) (t : ℕ) (s w : State) → w.txns ≡ s.txns → From sc w → Lone sc t s → Lone sc t w
lone_on sc t s w same from x = record {
  from = from;
  alone = subst (λ xs. (u : ℕ) → is_active (txn_or (slice_get xs u)).status ≡ true → u ≡ t) (sym same) x.alone;
  active = ap (λ xs. is_active (txn_or (slice_get xs t)).status) same ∙ x.active;
}

-- what holds after all choices holds in a reached state
of_reached : (sc : Scenario) (P : State → Type 0) → ((cs : List Choice) → P (play sc (opening sc) cs)) → (s : State) → From sc s → P s
of_reached sc P law s f = subst P f.is (law f.choices)

-- what a run of t brings in a state in which a round begins
run_comes : (sc : Scenario) → IsScenario sc → (t : ℕ) (s : State) → Lone sc t s → let n = (txn_of s t).node in
    Comes sc t (facing n s) (facing n (step sc (Run n t) s).after)
unfolding step move
run_comes sc ok t s x =
    let n = (txn_of s t).node in
    let v = facing n s in
    let m = run_step sc n t v in
    let tells = run_tells sc n t v in
    let k = known sc ok s x.from in
    let of_run = of_reached sc (λ z. is_active (txn_of z t).status ≡ true → is_of_run (step sc (Run (txn_of z t).node t) z).outcome ≡ true)
    (λ cs. a_run_gets_on_or_waits sc ok cs t) s x.from x.active in
    subst (Comes sc t v) (sym (back_to n m.after))
    (comes sc n t v m.after m.outcome tells.reason tells.fares tells.awaited tells.brings of_run
    (λ p e. waits_for_none sc s t p n k.holders x.alone e))

-- a page that was asked for has come once all messages are taken
has_come : (sc : Scenario) → IsScenario sc → (n : Node) (w z : State) (p : ℕ) → Taken sc n w z → has (facing n w).me.asked p ≡ true
    → owns (facing n z).me.pages p ≡ true
has_come sc ok n w z p taken asked =
    elim (taken.gains.asked p asked) [
      | inr own ↦ own
      | inl still ↦
          let way = of_reached sc (λ x. OnItsWay (facing n x)) (λ cs. on_its_way sc ok cs n) z taken.from in
          let links = links_from n z taken.links in
          elim (way.asked p still).coming [
            | inl pull ↦ let none = ap (pulls p) links.1 in absurd (omega (arith, pull, none))
            | inr page ↦ absurd (false≢true (ap (λ ms. owns (sent_leaves ms) p) (sym links.0) ∙ page))
          ]
    ]

-- ---- the rounds

-- at a node that asks for pages a transaction may have to wait
pulling_may : (m : NodeMode) → may_pull m ≡ true → may_wait m ≡ true
pulling_may m h = elim (pulls_in m h) [ inl e ↦ ap may_wait e | inr e ↦ ap may_wait e ]

-- after these rounds t has got on
abbrev OnIn : Scenario → ℕ → State → ℕ → Type 0
OnIn sc t s n = HasGotOn (txn_of s t) (txn_of (play sc s (rounds sc t n s)) t)

-- the state after a round
abbrev after_round : Scenario → ℕ → State → State
after_round sc t s = play sc s (round sc t s)

-- t has got on after one round more, if it has in the rounds from there on
on_after : (sc : Scenario) (t : ℕ) (s : State) (k : ℕ) → let z = after_round sc t s in
    HasGotOn (txn_of s t) (txn_of (play sc z (rounds sc t k z)) t) → OnIn sc t s (suc k)
on_after sc t s k on =
    let z = after_round sc t s in
    subst (λ y. HasGotOn (txn_of s t) (txn_of y t)) (sym (play-append sc s (round sc t s) (rounds sc t k z))) on

-- what is to come for t
abbrev to_come_for : Scenario → ℕ → State → ℕ
to_come_for sc t s = to_come sc.pages (facing (txn_of s t).node s).me

-- in a round t gets on, or leaves less to come
data Ahead (sc : Scenario) (t : ℕ) (s : State) : Type 0 where
  Gets_on : OnIn sc t s 1 → Ahead sc t s
  Nearer : Lone sc t (after_round sc t s) → txn_of (after_round sc t s) t ≡ txn_of s t
      → to_come_for sc t (after_round sc t s) < to_come_for sc t s → Ahead sc t s

module _ (sc : Scenario) (ok : IsScenario sc) (t : ℕ) (s : State) (x : Lone sc t s) where
  -- the node of t; what it has in a state; the state after the run, and the one after the round
  abbrev home : Node
  home = (txn_of s t).node

  abbrev mine : State → NodeState
  mine z = (facing home z).me

  abbrev after_run : State
  after_run = (step sc (Run home t) s).after

  abbrev at_end : State
  at_end = after_round sc t s

  -- if t has got on by its run, it has after the round
  got_on : HasGotOn (txn_at (facing home s) t) (txn_at (facing home after_run) t) → Ahead sc t s
  got_on on =
      let same : txn_of at_end t ≡ txn_at (facing home after_run) t =
      ap (λ xs. txn_or (slice_get xs t)) (takes_txns sc (enough after_run) after_run) ∙ sym (at_side home after_run t) in
      Gets_on (on_after sc t s 0 (subst (λ a. HasGotOn a (txn_of at_end t)) (at_side home s t) (subst (HasGotOn (txn_at (facing home s) t)) (sym same) on)))

  -- if the run changed no transaction, all messages are taken
  all_come : (facing home after_run).txns ≡ (facing home s).txns → may_wait (mine after_run).mode ≡ true → Taken sc home after_run at_end
  all_come same h =
      let txns : after_run.txns ≡ s.txns = sym (txns_side home after_run) ∙ same ∙ txns_side home s in
      let lone = lone_on sc t s after_run txns (from_step sc (Run home t) s x.from) x in
      all_taken sc ok t home (enough after_run) after_run lone.from lone.alone (ap (λ xs. (txn_or (slice_get xs t)).node) txns) h (left_enough after_run)

  -- then a round can begin again, and if less is to come, it has come nearer
  nearer : (facing home after_run).txns ≡ (facing home s).txns → Taken sc home after_run at_end
      → to_come sc.pages (mine at_end) < to_come sc.pages (mine s) → Ahead sc t s
  nearer same taken less =
      let txns : at_end.txns ≡ s.txns = taken.txns ∙ sym (txns_side home after_run) ∙ same ∙ txns_side home s in
      let txn : txn_of at_end t ≡ txn_of s t = ap (λ xs. txn_or (slice_get xs t)) txns in
      Nearer (lone_on sc t s at_end txns taken.from x) txn
      (subst (λ m. to_come sc.pages (facing m at_end).me < to_come sc.pages (mine s)) (ap (λ (y : Txn). y.node) (sym txn)) less)

  -- what is to come after the round
  then_settled : (many : ℕ) → Taken sc home after_run at_end → length (mine after_run).lows ≡ many
      → to_come sc.pages (mine at_end) ≡ missing (mine at_end).pages many + (sc.pages - many)
  then_settled many taken long =
      settled sc.pages many (mine at_end) (none_waits home at_end (known sc ok at_end taken.from) taken.links) (ap length taken.gains.lows ∙ long)

  -- if t waits, its node keeps its pages
  still_here : Waits (facing home s) (facing home after_run) → Taken sc home after_run at_end → (p : ℕ) → owns (mine s).pages p ≡ true
      → owns (mine at_end).pages p ≡ true
  still_here waits taken p own = taken.gains.kept p (subst (λ xs. owns xs p ≡ true) (sym waits.pages) own)

  -- t waits for `dual`
  dual_nearer : is_waiting (mine s).mode ≡ true → Waits (facing home s) (facing home after_run) → Ahead sc t s
  dual_nearer waiting waits =
      let me = mine s in
      let many = length me.lows in
      let taken = all_come waits.txns (ap may_wait (waits.mode ∙ waits_in me.mode waiting)) in
      let e = then_settled many taken (ap length waits.lows) in
      let a = missing_kept me.pages (mine at_end).pages many (still_here waits taken) in
      let b : to_come sc.pages me ≡ 1 + missing me.pages many + (sc.pages - many) =
      ap (λ b. (if b then 1 else 0) + missing me.pages many + (sc.pages - many)) waiting in
      nearer waits.txns taken (omega (arith, e, a, b))

  -- t waits for a page
  page_nearer : (p : ℕ) → may_pull (mine s).mode ≡ true → owns (mine s).pages p ≡ false → has (mine after_run).asked p ≡ true
      → Waits (facing home s) (facing home after_run) → Ahead sc t s
  page_nearer p pulls_on gone asked waits =
      let me = mine s in
      let many = length me.lows in
      let taken = all_come waits.txns (ap may_wait waits.mode ∙ pulling_may me.mode pulls_on) in
      let e = then_settled many taken (ap length waits.lows) in
      let way = of_reached sc (λ y. OnItsWay (facing home y)) (λ cs. on_its_way sc ok cs home) after_run (from_step sc (Run home t) s x.from) in
      let below : p < many = subst (λ ls. p < length ls) waits.lows (way.asked p asked).known in
      let come = has_come sc ok home after_run at_end p taken asked in
      let a = missing_less me.pages (mine at_end).pages many p below gone come (still_here waits taken) in
      let b = at_least sc.pages me in
      nearer waits.txns taken (omega (arith, e, a, b))

  -- t splits a page
  cut_nearer : Cuts sc (facing home s) (facing home after_run) → Ahead sc t s
  cut_nearer cuts =
      let me = mine s in
      let many = length me.lows in
      let taken = all_come cuts.txns (ap may_wait (cuts.mode ∙ splits_in_normal me.mode cuts.normal)) in
      let long = cuts.lows in
      let e = then_settled (suc many) taken (omega (arith, long)) in
      let a = missing_kept me.pages (mine at_end).pages many (λ p own. taken.gains.kept p (cuts.kept p own)) in
      let none = lacks_none (mine at_end).pages many (taken.gains.kept many cuts.new) in
      let b = at_least sc.pages me in
      let room = cuts.room in
      nearer cuts.txns taken (omega (arith, e, a, none, b, room))

  -- in each case
  ahead : Ahead sc t s
  ahead = elim (run_comes sc ok t s x) [
    | On on ↦ got_on on
    | For_dual waiting waits ↦ dual_nearer waiting waits
    | For_page p pulls_on gone asked waits ↦ page_nearer p pulls_on gone asked waits
    | Cut cuts ↦ cut_nearer cuts
  ]

-- t gets on in at most one round more than are to come
gets_on_in : (sc : Scenario) → IsScenario sc → (t d : ℕ) (s : State) → Lone sc t s → to_come_for sc t s ≤ d
    → (k : ℕ) × (k ≤ d + 1) × OnIn sc t s k
gets_on_in sc ok t zero s x few =
    elim (ahead sc ok t s x) [
      | Gets_on on ↦ (1, omega arith, on)
      | Nearer later same less ↦ absurd (omega (arith, less, few))
    ]
gets_on_in sc ok t (suc d) s x few =
    elim (ahead sc ok t s x) [
      | Gets_on on ↦ (1, omega arith, on)
      | Nearer later same less ↦
          let z = after_round sc t s in
          let rest = gets_on_in sc ok t d z later (omega (arith, less, few)) in
          let within = rest.1 in
          (suc rest.0, omega (arith, within), on_after sc t s rest.0 (subst (λ a. HasGotOn a (txn_of (play sc z (rounds sc t rest.0 z)) t)) same rest.2))
    ]

-- ---- the whole

-- the transactions but t
module _ (t : ℕ) (s : State) (active : is_active (txn_of s t).status ≡ true) where
  -- those of the state, with one in t's place that has not begun
  abbrev others : List Txn
  others = slice_set s.txns t nobody

  -- t is not active there
  t_off : is_active (txn_or (slice_get others t)).status ≡ false
  unfolding txn_at
  t_off = ap (λ (x : Txn). is_active x.status) (at_self (facing A s) (record (facing A s) { txns = others }) t nobody refl active)

  -- every other is as it is
  others_same : (u : ℕ) → (u ≡ t → ⊥) → txn_or (slice_get others u) ≡ txn_of s u
  unfolding txn_at
  others_same u far = at_other (facing A s) (record (facing A s) { txns = others }) t u nobody refl far

  -- who is active there is another one, and active in the state
  others_active : (u : ℕ) → is_active (txn_or (slice_get others u)).status ≡ true → is_active (txn_of s u).status ≡ true
  others_active u h = elim (cases_eq u t) [
    | inl same ↦ absurd (false≢true (sym t_off ∙ subst (λ y. is_active (txn_or (slice_get others y)).status ≡ true) same h))
    | inr far ↦ ap (λ (x : Txn). is_active x.status) (sym (others_same u far)) ∙ h
  ]

-- once the others are killed
module _ (sc : Scenario) (ok : IsScenario sc) (t : ℕ) (s : State) (f : From sc s) (active : is_active (txn_of s t).status ≡ true) where
  -- the state after the kills
  abbrev spared : State
  spared = play sc s (kills_but t s)

  -- what the kills leave
  killed : KilledAll sc 0 (others t s active) s spared
  killed =
      killed_from sc ok (others t s active) 0 s f
      (λ i h. let at : i ≡ 0 + i = omega arith in subst (λ (y : ℕ). is_active (txn_of s y).status ≡ true) at (others_active t s active i h))

  -- who was not among them is as it was
  not_among : (u : ℕ) → is_active (txn_or (slice_get (others t s active) u)).status ≡ false → txn_of spared u ≡ txn_of s u
  not_among u off =
      killed.others u (λ i e.
      let at : u ≡ i = omega (arith, e) in subst (λ (y : ℕ). is_active (txn_or (slice_get (others t s active) y)).status ≡ false) at off)

  -- so is t
  t_same : txn_of spared t ≡ txn_of s t
  t_same = not_among t (t_off t s active)

  -- every other is not active
  other_ended : (u : ℕ) → (u ≡ t → ⊥) → is_active (txn_of spared u).status ≡ false
  other_ended u far = elim (cases_Bool (is_active (txn_or (slice_get (others t s active) u)).status)) [
    | inl on ↦ let at : 0 + u ≡ u = omega arith in subst (λ (y : ℕ). is_active (txn_of spared y).status ≡ false) at (killed.ended u on)
    | inr off ↦ ap (λ (y : Txn). is_active y.status) (not_among u off ∙ sym (others_same t s active u far)) ∙ off
  ]

  -- and t alone is active
  lone_after : Lone sc t spared
  lone_after = record {
    from = killed.from;
    alone = λ u on. elim (cases_eq u t) [ inl here ↦ here | inr far ↦ absurd (false≢true (sym (other_ended u far) ∙ on)) ];
    active = ap (λ (y : Txn). is_active y.status) t_same ∙ active;
  }

-- the law: there is always a way on
pub gets_on : (sc : Scenario) → IsScenario sc → (cs : List Choice) (t : ℕ) → let s = play sc (opening sc) cs in is_active (txn_of s t).status ≡ true → GetsOn sc s t
gets_on sc ok cs t active =
    let s = play sc (opening sc) cs in
    let f : From sc s = record { choices = cs; is = refl } in
    let w = play sc s (kills_but t s) in
    let lone = lone_after sc ok t s f active in
    let n = (txn_of w t).node in
    let few = of_reached sc (λ y. length (facing n y).me.lows ≤ sc.pages) (λ ds. page_limit sc ok ds n) w lone.from in
    let on = gets_on_in sc ok t (sc.pages + 1) w lone (most sc.pages (facing n w).me few) in
    let within = on.1 in
    (on.0, omega (arith, within), subst (λ x. HasGotOn x (txn_of (play sc w (rounds sc t on.0 w)) t)) (t_same sc ok t s f active) on.2)
