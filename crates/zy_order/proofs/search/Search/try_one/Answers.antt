-- The choice changes nothing, or where it leads is known; or it may not be that of a missing step.
use Rattle.std.proofs.Common.{◌≡◌, ◌∙◌, ℕ, Bool, true, ap, subst, sym, inr, refl, arith}
use Rattle.zy_isa.specs.declared.choice.Choice.{Choice}
use Rattle.zy_isa.specs.declared.node.Actor.{Actor}
use Rattle.zy_search.specs.Visits.{path_at}
use Rattle.zy_order.specs.declared.logs.Logs.{Logs}
use Rattle.zy_order.specs.declared.cursors.Cursors.{Cursors}
use Rattle.zy_order.specs.declared.reached.Reached.{Reached}
use Rattle.zy_isa.specs.Choices.{actor_of}
use Rattle.zy_isa.specs.Scenario.{Scenario}
use Rattle.zy_table.specs.Play.{step}
use Rattle.zy_table.specs.State.{State}
use Rattle.zy_order.specs.Ways.{with_missing, HasGap}
use Rattle.zy_order.specs.Reaches.{cursors_at, state_by, IsKnown, IsTried, Adds}
use Rattle.zy_order.proofs.LoopLemmas.{if_ok, missing_few, tried_by}
use Rattle.zy_order.proofs.NeedLemmas.{need_missing}
use Rattle.zy_order.proofs.PushLemmas.{adds_then, adds_twin, is_next, search_twin}
use Rattle.zy_order.proofs.WayLemmas.{way_room}
use Rattle.zy_order.proofs.search.Search.try_one.Goals as goal

-- the gap that was found is one of the choice's actor where the path leads
missing_gap : (r : Reached) (i : ℕ) (c : Choice) (l : Logs) (x : Actor) (g : Cursors) → x ≡ actor_of c → g ≡ cursors_at r i → HasGap x l g
    → HasGap (actor_of c) l (cursors_at r i)
missing_gap r i c l x g own at gap = subst (HasGap (actor_of c) l) at (subst (λ (y : Actor). HasGap y l g) own gap)

pub attempt-requires-clause-room : goal.attempt-requires-clause-room
attempt-requires-clause-room c =
    let p = c.args.here.plan.now in
    let h = p.start in
    let at = c.requires.at in
    let r = c.args.self.now.reached in
    let i = c.args.here.at in
    let g = cursors_at r i in
    let choice = c.args.choice in
    let gap = missing_gap c.args.self.now.reached i choice p.logs c.actor-actor.result c.cursors_at-cursors.result c.actor-actor.ensures
    c.cursors_at-cursors.ensures (c.has_gap.ensures.0 c.if-not-has_gap.false) in
    let few = way_room h.scenario p.logs h.state (path_at r.visited i) g choice (with_missing (actor_of choice) g) at.search.under_way.plan.gaps
    (at.search.under_way.reached.ways i at.there) (inr (record { named = c.requires.named; gap = gap }, refl)) in
    omega (arith, at.machine.entries, few, at.search.under_way.plan.room)

pub with_missing-requires : goal.with_missing-requires
with_missing-requires c =
    missing_few c.args.here.plan.now c.actor-actor.result c.cursors_at-cursors.result c.requires.at.search.under_way.plan
    (c.has_gap.ensures.0 c.if-not-has_gap.false)

pub returns-then-is_same-clause-adds : goal.returns-then-is_same-clause-adds
returns-then-is_same-clause-adds c =
    let at = c.requires.at in
    adds_twin c.args.here.plan.now c.args.self.now c.attempt.new.twin at.search (c.in_ok-attempt.ensures.scenario ∙ at.machine.scenario)

pub returns-then-is_same-clause-tried : goal.returns-then-is_same-clause-tried
returns-then-is_same-clause-tried c = λ _ gap.
    let h = c.args.here.plan.now.start in
    let here = c.args.here.machine.now in
    let r = c.args.self.now.reached in
    let i = c.args.here.at in
    let choice = c.args.choice in
    let machine = c.requires.at.machine in
    let unchanged = c.is_same.ensures c.if-is_same.true in
    let made = c.in_ok-attempt.ensures.state ∙ (ap (λ (sc : Scenario). (step sc choice here.state).after) machine.scenario
    ∙ ap (λ (s : State). (step h.scenario choice s).after) machine.state) in
    (i, c.requires.at.there, need_missing (actor_of choice) (cursors_at r i), sym machine.state ∙ (sym unchanged ∙ made))

pub note-requires : goal.note-requires
note-requires c =
    let here = c.args.here in
    let s = c.args.self.now in
    let choice = c.args.choice in
    let e = c.in_ok-attempt.ensures in
    let l = here.plan.now.logs in
    let there = c.with_missing.ensures ∙ (ap (λ (x : Actor). with_missing x c.cursors_at-cursors.result) c.actor-actor.ensures
    ∙ ap (with_missing (actor_of choice)) c.cursors_at-cursors.ensures) in
    let gap = missing_gap s.reached here.at choice l c.actor-actor.result c.cursors_at-cursors.result c.actor-actor.ensures
    c.cursors_at-cursors.ensures (c.has_gap.ensures.0 c.if-not-has_gap.false) in
    record {
      search = search_twin here.plan.now s c.attempt.new.twin c.requires.at.search (e.scenario ∙ c.requires.at.machine.scenario);
      there = c.requires.at.there;
      leads = inr (record { named = c.requires.named; gap = gap }, there);
      next = is_next here.plan.now s here.at here.machine.now choice c.attempt.new.twin c.requires.at e.scenario e.state e.longer;
    }

pub returns-clause-adds : goal.returns-clause-adds
returns-clause-adds c =
    let p = c.args.here.plan.now in
    let at = c.requires.at in
    let s = c.args.self.now in
    let twin = c.attempt.new.twin in
    adds_then p s (record s { twin = twin }) c.note.new.self c.note.result
    (adds_twin p s twin at.search (c.in_ok-attempt.ensures.scenario ∙ at.machine.scenario)) c.note.ensures.adds

pub returns-clause-tried : goal.returns-clause-tried
returns-clause-tried c =
    let p = c.args.here.plan.now in
    let h = p.start in
    let s = c.args.self.now in
    let new = c.note.new.self in
    let choice = c.args.choice in
    let at = c.args.here.at in
    let there = c.with_missing.ensures ∙ (ap (λ (x : Actor). with_missing x c.cursors_at-cursors.result) c.actor-actor.ensures
    ∙ ap (with_missing (actor_of choice)) c.cursors_at-cursors.ensures) in
    if_ok (Adds p (record s { twin = c.attempt.new.twin }) new)
    (λ (b : Bool). b ≡ true → IsKnown h new.reached c.with_missing.result (state_by h s.reached at choice))
    (λ (b : Bool). b ≡ true → IsTried h p.logs new.reached at choice) c.note.result
    (λ b adds known e. tried_by h p.logs s.reached new.reached at choice c.with_missing.result adds.extends c.requires.at.there there (known e))
    c.note.ensures.adds c.note.ensures.known
