-- The machine was at the place, or a checkpoint is there, or it has gone to the path before it and makes one choice more.
use Rattle.std.proofs.Common.{◌≡◌, ◌∙◌, ◌++◌, ◌∷◌, [], List, ap, length, length-append, subst, arith}
use Rattle.zy_isa.specs.declared.choice.Choice.{Choice}
use Rattle.zy_isa.specs.Scenario.{Scenario, AreNamed}
use Rattle.zy_table.specs.declared.entry.Entry.{Entry}
use Rattle.zy_table.specs.Play.{step}
use Rattle.zy_search.specs.Visits.{path_at}
use Rattle.zy_search.proofs.SearchLemmas.{length_more, named_last, walked}
use Rattle.zy_order.specs.Ways.{at_start}
use Rattle.zy_order.specs.Reaches.{cursors_at}
use Rattle.zy_order.proofs.RecentLemmas.{placed_there, there_placed}
use Rattle.zy_order.proofs.WayLemmas.{way_few, way_named}
use Rattle.zy_order.proofs.walk.+go_to.Goals as goal

pub step-requires-clause-named : goal.step-requires-clause-named
step-requires-clause-named t c =
    let p = c.args.plan.now in
    let r = c.args.reached.now in
    let b = c.branch-branch.result in
    let n = length p.start.scenario.programs in
    let path = subst (λ (ps : List (List Choice)). path_at ps c.args.at ≡ path_at ps b.from ++ b.by ∷ []) c.tree.ensures c.branch-branch.ensures.path in
    let named = way_named p.start.scenario p.logs at_start p.start.state (path_at r.visited c.args.at) (cursors_at r c.args.at)
    c.requires.under_way.plan.lines (c.requires.under_way.reached.ways c.args.at c.requires.there) in
    rw c.in_ok-go_to.ensures.placed.scenario (named_last n (path_at r.visited b.from) b.by (subst (AreNamed n) path named))

pub step-requires-clause-room : goal.step-requires-clause-room
step-requires-clause-room t c =
    let p = c.args.plan.now in
    let r = c.args.reached.now in
    let b = c.branch-branch.result in
    let path = subst (λ (ps : List (List Choice)). path_at ps c.args.at ≡ path_at ps b.from ++ b.by ∷ []) c.tree.ensures c.branch-branch.ensures.path in
    let there = there_placed p.start r.visited b.from c.go_to.new.machine c.in_ok-go_to.ensures.at c.in_ok-go_to.ensures.placed in
    let few = way_few p.start.scenario p.logs p.start.state (path_at r.visited c.args.at) (cursors_at r c.args.at) c.requires.under_way.plan.gaps
    (c.requires.under_way.reached.ways c.args.at c.requires.there) in
    omega (arith, there.here.entries, length_more (path_at r.visited c.args.at) (path_at r.visited b.from) b.by path, few, c.requires.under_way.plan.room)

pub returns-clause-placed : goal.returns-clause-placed
returns-clause-placed t c =
    let p = c.args.plan.now in
    let h = p.start in
    let r = c.args.reached.now in
    let b = c.branch-branch.result in
    let m = c.go_to.new.machine in
    let new = c.step.new.self in
    let path = subst (λ (ps : List (List Choice)). path_at ps c.args.at ≡ path_at ps b.from ++ b.by ∷ []) c.tree.ensures c.branch-branch.ensures.path in
    let there = there_placed h r.visited b.from m c.in_ok-go_to.ensures.at c.in_ok-go_to.ensures.placed in
    let made = subst (λ (sc : Scenario). new.state ≡ (step sc b.by m.machine.state).after) there.here.scenario c.in_ok-step.ensures.state in
    let one = length_more (path_at r.visited c.args.at) (path_at r.visited b.from) b.by path in
    placed_there h r.visited c.args.at new (record {
      there = c.requires.there;
      here = record {
        scenario = c.step.ensures.scenario ∙ there.here.scenario;
        state = walked h.scenario h.state m.machine.state new.state (path_at r.visited c.args.at) (path_at r.visited b.from) b.by path there.here.state made;
        entries = omega (
          arith,
          there.here.entries,
          one,
          ap (λ (es : List Entry). length es) c.in_ok-step.ensures.history,
          length-append m.machine.entries (c.in_ok-step.field-0 ∷ []),
        );
      };
    })
