-- There are never more low keys than the scenario has pages.
use Rattle.std.proofs.Common.{◌≡◌, ◌≤◌, List, [], ◌∷◌, length, refl, sym, ap, subst, inl, inr, arith, length-append}
use Rattle.std.specs.Prelude.{◌==◌}
use Rattle.std.proofs.lemmas.Bool.{cases_Bool, leb-false}
use Rattle.std.proofs.lemmas.List.{length-map}
use Rattle.zy_isa.specs.Scenario.{IsScenario, Scenario, opening_rows}
use Rattle.zy_isa.specs.declared.choice.Choice.{Choice}
use Rattle.zy_isa.specs.declared.node.Node.{Node}
use Rattle.zy_isa.specs.declared.node.Node.TheVariants.{A, B}
use Rattle.zy_model.specs.Families.{is_taker}
use Rattle.zy_model.specs.Messages.{Wire}
use Rattle.zy_table.proofs.OpenLemmas.{opened-none, opened-some, opening_fits}
use Rattle.zy_table.specs.Change.{aborted, asks, begun, committed, cut, did, leaves, locked, shares}
use Rattle.zy_table.specs.Play.{move, opening, opening_leaves, play, side_of, step}
use Rattle.zy_table.specs.Run.{boundary}
use Rattle.zy_table.specs.Change.{txn_at}
use Rattle.zy_table.specs.State.{Leaf, NodeState, State, View, facing, seen_from}
use Rattle.zy_laws.proofs.owner.OneOwner.{inv_from, opening_inv, step_inv}
use Rattle.zy_laws.proofs.owner.PhaseSteps.{taker_of, wire_came}
use Rattle.zy_laws.proofs.owner.Roles.{Inv}
use Rattle.zy_laws.proofs.travel.OneWay.{sourced}
use Rattle.zy_laws.proofs.walk.Conditions.{page}
use Rattle.zy_laws.proofs.walk.Events.{Asks, Commits, Event, Finishes, Gives, GotAll, GotDone, GotDual, GotFinish, GotLast, GotPage}
use Rattle.zy_laws.proofs.walk.Events.{GotReady, GotWire, IsStale, Pushes, Splits, Starts, step_happens}
use Rattle.zy_laws.proofs.walk.Kinds.{in_place_of}
use Rattle.zy_laws.proofs.walk.PlayPush.{play-keeps-with}

-- a node has at most as many low keys as the scenario has pages
abbrev Few : Scenario → NodeState → Type 0
Few sc x = length x.lows ≤ sc.pages

-- a node with the same low keys
same_few : (sc : Scenario) (x y : NodeState) → y.lows ≡ x.lows → Few sc x → Few sc y
same_few sc x y same few = subst (λ lows. length lows ≤ sc.pages) (sym same) few

-- each event keeps it
few_event : (sc : Scenario) (n : Node) (v w : View) → Inv v → Few sc v.me → Few sc v.them → Event sc n v w → Few sc w.me
unfolding did locked shares aborted begun committed cut asks leaves
few_event sc n v w i mine theirs (Splits line e) =
    let b = boundary sc line.key (page line.key v) v.me (txn_at v line.txn) in
    let long = length-append v.me.lows (b ∷ []) in
    let more = leb-false _ _ line.pages in
    rw e (omega (arith, long, more))
few_event sc n v w i mine theirs (GotWire line e) =
    let at = wire_came (taker_of v i.roles (ap is_taker line.empty)) line.front in
    let same : line.lows ≡ v.them.lows = let f : (Wire line.lows ∷ line.after) ≡ (Wire v.them.lows ∷ []) = at.out in cc in
    rw e (subst (λ lows. length lows ≤ sc.pages) (sym same) theirs)
few_event sc n v w i mine theirs (GotDone line e) = rw e (omega arith)
few_event sc n v w i mine theirs (Commits line e) = rw e mine
few_event sc n v w i mine theirs (Asks line e) = rw e mine
few_event sc n v w i mine theirs (Starts line e) = rw e mine
few_event sc n v w i mine theirs (GotReady line e) = rw e mine
few_event sc n v w i mine theirs (GotDual line e) = rw e mine
few_event sc n v w i mine theirs (IsStale line e) = rw e mine
few_event sc n v w i mine theirs (Gives line e) = rw e mine
few_event sc n v w i mine theirs (GotPage line e) = rw e mine
few_event sc n v w i mine theirs (GotLast line e) = rw e mine
few_event sc n v w i mine theirs (GotFinish line e) = rw e mine
few_event sc n v w i mine theirs (GotAll line e) = rw e mine
few_event sc n v w i mine theirs (Finishes line e) = rw e mine
few_event sc n v w i mine theirs (Pushes line e) = rw e mine
few_event sc n v w i mine theirs e = same_few sc v.me w.me (in_place_of e refl).lows mine

-- both nodes
abbrev Both : Scenario → State → Type 0
Both sc s = (n : Node) → Few sc (facing n s).me

-- the node across
across : (sc : Scenario) (n : Node) (s : State) → Both sc s → Few sc (facing n s).them
across sc A s all = all B
across sc B s all = all A

-- it holds of both where it holds of the node that stepped
both_after : (sc : Scenario) (n : Node) (s : State) (w : View) → Few sc w.me → w.them ≡ (facing n s).them → Both sc s → Both sc (seen_from n w)
both_after sc A s w mine them all A = mine
both_after sc A s w mine them all B = subst (Few sc) (sym them) (all B)
both_after sc B s w mine them all A = subst (Few sc) (sym them) (all A)
both_after sc B s w mine them all B = mine

-- a step keeps it
step_few : (sc : Scenario) (c : Choice) (s : State) → Inv (facing A s) → Both sc s → Both sc (step sc c s).after
unfolding step
step_few sc c s i all =
    let n = side_of sc c s in
    let v = facing n s in
    let m = move sc c v in
    let h = step_happens sc c s in
    both_after sc n s m.after (few_event sc n v m.after (inv_from n s i) (all n) (across sc n s all) h.event)
    (sourced sc n m.outcome v m.after h.event h.told).them all

-- the opening pages are few enough
opening_pages_few : (sc : Scenario) → IsScenario sc → length (opening_leaves (opening_rows sc.cap) sc.rows) ≤ sc.pages
opening_pages_few sc ok = elim (cases_Bool (length sc.rows == 0)) [
  | inl none ↦ let e = ap length (opened-none (opening_rows sc.cap) sc.rows none) in let k = ok.pages_least in omega (arith, e, k)
  | inr some ↦ let e = ap length (opened-some (opening_rows sc.cap) sc.rows some) in let k = opening_fits sc ok some in omega (arith, e, k)
]

-- it holds at the opening
opening_few : (sc : Scenario) → IsScenario sc → Both sc (opening sc)
unfolding opening
opening_few sc ok A =
    let leaves = opening_leaves (opening_rows sc.cap) sc.rows in
    let long = length-map leaves (λ (x : Leaf). x.low) in
    let k = opening_pages_few sc ok in
    omega (arith, long, k)
opening_few sc ok B = omega arith

-- the law: there are at most as many low keys as the scenario has pages
pub page_limit : (sc : Scenario) → IsScenario sc → (cs : List Choice) (n : Node) → length (facing n (play sc (opening sc) cs)).me.lows ≤ sc.pages
page_limit sc ok cs n =
    play-keeps-with sc (λ s. Inv (facing A s)) (Both sc) (step_inv sc) (step_few sc) cs (opening sc) (opening_inv sc) (opening_few sc ok) n
