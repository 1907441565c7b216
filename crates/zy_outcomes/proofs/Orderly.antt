-- What each transaction of a state keeps: one that has not begun has nothing, and one that does not run has no private row.
use Rattle.std.proofs.Common.{◌≡◌, ℕ, List, [], true, false, refl, sym, ap, ◌∙◌, subst, inl, inr}
use Rattle.std.specs.Prelude.{slice_set}
use Rattle.std.proofs.lemmas.Bool.{cases_eq, false≢true}
use Rattle.zy_isa.specs.Scenario.{Scenario}
use Rattle.zy_isa.specs.declared.choice.Choice.{Choice}
use Rattle.zy_isa.specs.declared.node.Node.{Node}
use Rattle.zy_table.specs.Change.{aborted, begun, committed, cut, did, locked, nobody, shares, txn_at}
use Rattle.zy_table.specs.Client.{is_active, is_new}
use Rattle.zy_table.specs.Play.{move, opening, play, side_of, step}
use Rattle.zy_table.specs.State.{State, Txn, View, facing, seen_from}
use Rattle.zy_laws.proofs.counts.Fates.{txns_of}
use Rattle.zy_laws.proofs.walk.Events.{Event, step_happens, Begins, Aborts, GoesOn, Gets, SumsUp, Writes, Inserts, Splits, Commits}
use Rattle.zy_laws.proofs.walk.Kinds.{quiet_of}
use Rattle.zy_laws.proofs.walk.PlayPush.{play-keeps}
use Rattle.zy_laws.proofs.walk.Txns.{active_old, at_back, at_either, at_other, at_same, at_side, blank_at}
use Rattle.zy_outcomes.proofs.Steps.{Blank, step_told}
use Rattle.zy_outcomes.specs.Accounts.{Accounts, txn_of}

-- a transaction has nothing before it begins, and no private row where it does not run
record Orderly (x : Txn) : Type 0 where
  new : is_new x.status ≡ true → x ≡ nobody
  private : is_active x.status ≡ false → x.rows ≡ []

-- each transaction of a view
abbrev Each : View → Type 0
Each v = (t : ℕ) → Orderly (txn_at v t)

-- who runs may have what it has
running : (x : Txn) → is_active x.status ≡ true → Orderly x
running x on = record { new = λ h. absurd (false≢true (sym (active_old x.status on) ∙ h)); private = λ off. absurd (false≢true (sym off ∙ on)) }

-- a step that sets one transaction
set_each : (v w : View) (t : ℕ) (y : Txn) → w.txns ≡ slice_set v.txns t y → Orderly y → Each v → Each w
set_each v w t y set one all u = elim (cases_eq u t) [
  | inl same ↦ elim (at_either v w t y set) [
    | inl new ↦ subst Orderly (sym (ap (txn_at w) same ∙ new)) one
    | inr old ↦ subst Orderly (sym (ap (txn_at w) same ∙ old)) (all t)
  ]
  | inr far ↦ subst Orderly (sym (at_other v w t u y set far)) (all u)
]

-- a step that sets none
same_each : (v w : View) → w.txns ≡ v.txns → Each v → Each w
same_each v w same all u = subst Orderly (sym (at_same v w u same)) (all u)

-- each event keeps it
each_event : (sc : Scenario) (n : Node) (v w : View) → Event sc n v w → Each v → Each w
unfolding did locked shares txn_at aborted begun committed cut
each_event sc n v w (Begins line e) = set_each v w line.txn _ (ap txns_of e) (running _ refl)
each_event sc n v w (Aborts line e) =
    set_each v w line.txn _ (ap txns_of e) (record { new = λ h. absurd (false≢true h); private = λ _. refl })
each_event sc n v w (GoesOn line e) = set_each v w line.txn _ (ap txns_of e) (running _ line.runs.active)
each_event sc n v w (Gets line e) = set_each v w line.txn _ (ap txns_of e) (running _ line.runs.active)
each_event sc n v w (SumsUp line e) = set_each v w line.txn _ (ap txns_of e) (running _ line.runs.active)
each_event sc n v w (Writes line e) = set_each v w line.txn _ (ap txns_of e) (running _ line.runs.active)
each_event sc n v w (Inserts line e) = set_each v w line.txn _ (ap txns_of e) (running _ line.runs.active)
each_event sc n v w (Splits line e) = same_each v w (ap txns_of e)
each_event sc n v w (Commits line e) =
    set_each v w line.txn _ (ap txns_of e) (record { new = λ h. absurd (false≢true h); private = λ _. refl })
each_event sc n v w e = same_each v w (quiet_of e refl).txns

-- each transaction of a state
abbrev Kept : State → Type 0
Kept s = (t : ℕ) → Orderly (txn_of s t)

-- from a state to a side of it
each_from : (n : Node) (s : State) → Kept s → Each (facing n s)
each_from n s all t = subst Orderly (sym (at_side n s t)) (all t)

-- a step keeps it
step_kept : (sc : Scenario) (c : Choice) (s : State) → Kept s → Kept (step sc c s).after
unfolding step
step_kept sc c s all t =
    let n = side_of sc c s in
    let w = (move sc c (facing n s)).after in
    subst Orderly (sym (at_back n w t)) (each_event sc n (facing n s) w (step_happens sc c s).event (each_from n s all) t)

-- it holds at the opening
opening_kept : (sc : Scenario) → Kept (opening sc)
unfolding opening
opening_kept sc t = subst Orderly (sym (blank_at sc.programs t)) (record { new = λ _. refl; private = λ _. refl })

-- it holds after every schedule
play_kept : (sc : Scenario) (cs : List Choice) → Kept (play sc (opening sc) cs)
play_kept sc cs = play-keeps sc Kept (step_kept sc) cs (opening sc) (opening_kept sc)

-- the law: only who is active has private rows
pub private_active : (sc : Scenario) (cs : List Choice) (t : ℕ) → let x = txn_of (play sc (opening sc) cs) t in is_active x.status ≡ false → x.rows ≡ []
private_active sc cs t off = (play_kept sc cs t).private off

-- the law: what a transaction did, and its registers
pub done_counts : (sc : Scenario) (cs : List Choice) (c : Choice) (t : ℕ) → let s = play sc (opening sc) cs in let x = step sc c s in
    Accounts c x.outcome t (txn_of s t) (txn_of x.after t)
unfolding step
done_counts sc cs c t =
    let s = play sc (opening sc) cs in
    let n = side_of sc c s in
    let m = move sc c (facing n s) in
    let blank : Blank (facing n s) = record { each = λ u new. (each_from n s (play_kept sc cs) u).new new } in
    let told = (step_told sc c s).accounts blank t in
    subst (λ x. Accounts c m.outcome t x (txn_of (seen_from n m.after) t)) (at_side n s t)
    (subst (λ y. Accounts c m.outcome t (txn_at (facing n s) t) y) (sym (at_back n m.after t)) told)
