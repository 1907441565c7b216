-- A path that leads to the twin's state is known, or the new one is kept.
use Rattle.std.proofs.Common.{sym, subst}
use Rattle.zy_table.specs.State.{State}
use Rattle.zy_order.specs.declared.reached.Reached.{Reached}
use Rattle.zy_order.specs.Reaches.{state_by, IsKnown}
use Rattle.zy_order.proofs.PushLemmas.{adds_on, adds_recent, goes_on_recent}
use Rattle.zy_order.proofs.search.Search.note.Goals as goal

pub returns-in_default-clause-adds : goal.returns-in_default-clause-adds
returns-in_default-clause-adds c =
    adds_recent c.args.plan.now c.args.self.now c.free_under.new.self c.in_ok-digest.ensures.keeps c.requires.search

pub returns-in_default-clause-known : goal.returns-in_default-clause-known
returns-in_default-clause-known c = λ _.
    let h = c.args.plan.now.start in
    let old = c.args.self.now.reached in
    let to = c.args.cursors in
    subst (λ (r : Reached). IsKnown h r to (state_by h old c.args.branch.from c.args.branch.by)) (sym c.in_ok-digest.ensures.keeps.reached)
    (subst (λ (s : State). IsKnown h old to s) c.requires.next.state (c.in_ok-digest.ensures.known c.in_default.is))

pub returns-then-plan-len-clause-adds : goal.returns-then-plan-len-clause-adds
returns-then-plan-len-clause-adds c =
    adds_recent c.args.plan.now c.args.self.now c.free_under.new.self c.in_ok-digest.ensures.keeps c.requires.search

pub keep-requires-clause-leads : goal.keep-requires-clause-leads
keep-requires-clause-leads c =
    goes_on_recent c.args.plan.now c.args.self.now c.free_under.new.self c.args.branch c.args.cursors c.in_ok-digest.ensures.keeps c.requires

pub returns-clause-adds : goal.returns-clause-adds
returns-clause-adds c =
    let p = c.args.plan.now in
    let s = c.args.self.now in
    let t = c.free_under.new.self in
    adds_on p s t c.keep.new.self (adds_recent p s t c.in_ok-digest.ensures.keeps c.requires.search) c.in_ok-keep.ensures.adds

pub returns-clause-known : goal.returns-clause-known
returns-clause-known c = λ _.
    let h = c.args.plan.now.start in
    subst (λ (r : Reached). IsKnown h c.keep.new.self.reached c.args.cursors (state_by h r c.args.branch.from c.args.branch.by))
    c.in_ok-digest.ensures.keeps.reached c.in_ok-keep.ensures.known
