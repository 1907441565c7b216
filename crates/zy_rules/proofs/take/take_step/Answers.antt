use Rattle.std.proofs.Common.{refl, subst}
use Rattle.zy_node.specs.Nodes.{node_shown}
use Rattle.zy_rules.specs.Fronts.{IsFront, meets}
use Rattle.zy_rules.proofs.TakeLemmas.{take-nothing, take-asks, take-brings}
use Rattle.zy_rules.proofs.take.take_step.Goals as goal

pub returns-in-Nothing-clause-line : goal.returns-in-Nothing-clause-line
returns-in-Nothing-clause-line c =
    let empty = subst (λ f. IsFront f (node_shown c.args.me.now) c.args.inbox.now.messages) c.in-Nothing.is c.at_front.ensures in
    (refl, refl, λ v. rw (take-nothing c.args.scenario.now (meets c.args.me.now c.args.inbox.now v) empty, c.quiet.ensures) refl)

pub returns-in-Asks-clause-line : goal.returns-in-Asks-clause-line
returns-in-Asks-clause-line c =
    let stands = subst (λ f. IsFront f (node_shown c.args.me.now) c.args.inbox.now.messages) c.in-Asks.is c.at_front.ensures in
    let made = c.pull_step.ensures.line in
    (made.0, made.1, λ v. rw (take-asks c.args.scenario.now c.in-Asks.p c.in-Asks.line (meets c.args.me.now c.args.inbox.now v) stands) (made.2 v))

pub returns-in-Brings-clause-line : goal.returns-in-Brings-clause-line
returns-in-Brings-clause-line c =
    let stands = subst (λ f. IsFront f (node_shown c.args.me.now) c.args.inbox.now.messages) c.in-Brings.is c.at_front.ensures in
    let made = c.arrival_step.ensures.line stands.0 stands.2.front in
    (made.0, made.1, λ v. rw (take-brings c.args.scenario.now stands.0 c.in-Brings.line (meets c.args.me.now c.args.inbox.now v) stands.1 stands.2) (made.2 v))

pub returns-in-Asks-clause-memory : goal.returns-in-Asks-clause-memory
returns-in-Asks-clause-memory c v none =
    let stands = subst (λ f. IsFront f (node_shown c.args.me.now) c.args.inbox.now.messages) c.in-Asks.is c.at_front.ensures in
    c.pull_step.ensures.memory v
    (rw (take-asks c.args.scenario.now c.in-Asks.p c.in-Asks.line (meets c.args.me.now c.args.inbox.now v) stands) at none)

pub returns-in-Brings-clause-memory : goal.returns-in-Brings-clause-memory
returns-in-Brings-clause-memory c v none =
    let stands = subst (λ f. IsFront f (node_shown c.args.me.now) c.args.inbox.now.messages) c.in-Brings.is c.at_front.ensures in
    c.arrival_step.ensures.memory stands.0 v
    (rw (take-brings c.args.scenario.now stands.0 c.in-Brings.line (meets c.args.me.now c.args.inbox.now v) stands.1 stands.2) at none)
