-- The next line of an actor is met alone, and a node's with the client's.
use Rattle.std.proofs.Common.{◌≡◌, ◌<◌, Bool, true, length, arith}
use Rattle.zy_isa.specs.declared.node.Node.TheVariants as node
use Rattle.zy_order.specs.declared.tellers.Tellers.TheVariants.{Both}
use Rattle.zy_order.specs.Reaches.{Adds, IsMet, IsMetWith}
use Rattle.zy_order.proofs.PushLemmas.{adds_then}
use Rattle.zy_order.proofs.LoopLemmas.{client_met, if_ok, node_met}
use Rattle.zy_order.proofs.search.Search.meet_with.Goals as goal

pub returns-in-C-clause-met : goal.returns-in-C-clause-met
returns-in-C-clause-met c = λ _.
    let p = c.args.here.plan.now in
    client_met p.start p.logs c.meet.new.self.reached c.args.here.at c.args.actor c.in-C.is (c.in_ok-meet.ensures.met c.if-not-branch.false)

pub returns-in-A-clause-adds : goal.returns-in-A-clause-adds
returns-in-A-clause-adds c =
    adds_then c.args.here.plan.now c.args.self.now c.meet.new.self c.meet-in-A.new.self c.meet-in-A.result c.in_ok-meet.ensures.adds
    c.meet-in-A.ensures.adds

pub returns-in-A-clause-met : goal.returns-in-A-clause-met
returns-in-A-clause-met c =
    let p = c.args.here.plan.now in
    let at = c.args.here.at in
    let mid = c.meet.new.self in
    let new = c.meet-in-A.new.self in
    let there : at < length mid.reached.visited = omega (arith, c.requires.there, c.in_ok-meet.ensures.adds.extends.paths.longer) in
    if_ok (Adds p mid new) (λ (b : Bool). b ≡ true → IsMet p.start p.logs new.reached at (Both node.A))
    (λ (b : Bool). b ≡ true → IsMetWith p.start p.logs new.reached at c.args.actor) c.meet-in-A.result
    (λ b adds met e. node_met p.start p.logs mid.reached new.reached at node.A c.args.actor c.in-A.is adds.extends there
    (c.in_ok-meet.ensures.met c.if-not-branch.false) (met e)) c.meet-in-A.ensures.adds c.meet-in-A.ensures.met

pub returns-in-B-clause-adds : goal.returns-in-B-clause-adds
returns-in-B-clause-adds c =
    adds_then c.args.here.plan.now c.args.self.now c.meet.new.self c.meet-in-B.new.self c.meet-in-B.result c.in_ok-meet.ensures.adds
    c.meet-in-B.ensures.adds

pub returns-in-B-clause-met : goal.returns-in-B-clause-met
returns-in-B-clause-met c =
    let p = c.args.here.plan.now in
    let at = c.args.here.at in
    let mid = c.meet.new.self in
    let new = c.meet-in-B.new.self in
    let there : at < length mid.reached.visited = omega (arith, c.requires.there, c.in_ok-meet.ensures.adds.extends.paths.longer) in
    if_ok (Adds p mid new) (λ (b : Bool). b ≡ true → IsMet p.start p.logs new.reached at (Both node.B))
    (λ (b : Bool). b ≡ true → IsMetWith p.start p.logs new.reached at c.args.actor) c.meet-in-B.result
    (λ b adds met e. node_met p.start p.logs mid.reached new.reached at node.B c.args.actor c.in-B.is adds.extends there
    (c.in_ok-meet.ensures.met c.if-not-branch.false) (met e)) c.meet-in-B.ensures.adds c.meet-in-B.ensures.met
