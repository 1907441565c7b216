use Rattle.std.proofs.Common.{◌≡◌, ◌∙◌, ap, refl}
use Rattle.zy_links.specs.Messages.{message_of}
use Rattle.zy_table.specs.Take.{arrival_step}
use Rattle.zy_node.specs.Nodes.{limits_of}
use Rattle.zy_rules.proofs.take.turn_step.Goals as goal

pub returns-clause-line : goal.returns-clause-line
unfolding arrival_step
returns-clause-line c m front =
    let first = c.in-Some.ensures.front in
    let is : message_of c.in-Some.message ≡ m = cc in (
      c.take.ensures.pages,
      c.take_in.ensures.limits ∙ ap limits_of c.reserve_answer.ensures.others,
      λ v. rw (
        c.outcome_of-outcome.ensures,
        c.take_in.ensures.node,
        c.take_in.ensures.outbox,
        c.take.ensures.left,
        c.reserve_answer.ensures.others,
        is,
      ) refl,
    )
