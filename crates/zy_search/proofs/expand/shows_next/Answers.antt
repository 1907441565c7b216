use Rattle.std.proofs.Common.{◌∙◌, subst, sym}
use Rattle.std.specs.Bool.{Decides}
use Rattle.std.proofs.Math.Bool.{false≢true}
use Rattle.zy_table.specs.State.{State}
use Rattle.zy_isa.specs.Scenario.{Scenario}
use Rattle.zy_search.specs.Searches.{reached, Shows}
use Rattle.zy_search.specs.Visits.{path_at, state_by, states_of}
use Rattle.zy_search.proofs.CommitLemmas.{never_by_others}
use Rattle.zy_search.proofs.ReachedLemmas.{if_ok_with, state_at}
use Rattle.zy_search.proofs.expand.shows_next.Goals as goal

pub returns-then-same_commits-clause-shows : goal.returns-then-same_commits-clause-shows
returns-then-same_commits-clause-shows c =
    let p = c.args.plan.now in
    let x = c.args.reached.now in
    let b = c.args.branch in
    let ready = c.requires.ready.turn.ready in
    let cs = path_at x.tree b.from in
    let same = c.same_commits.ensures c.if-same_commits.true p.start.scenario (states_of p.start x.tree) (reached p.start cs) (state_by p x.tree b)
    c.requires.ready.informed.knows (state_at p.start x.tree b.from ready.there) c.requires.numbers in (
      λ e. absurd (false≢true e),
      λ s. absurd
          (never_by_others p.start p.sought cs b.by c.scenario-tested.ensures.replay same (sym c.is_by_commits.ensures ∙ c.if-is_by_commits.true)
          (ready.visits.none b.from ready.there) s),
    )

pub returns-clause-shows : goal.returns-clause-shows
returns-clause-shows c =
    let p = c.args.plan.now in
    let x = c.args.reached.now in
    let after = state_by p x.tree c.args.branch in
    if_ok_with (λ b. Decides b (Shows c.attempt.new.scratch.after.scenario p.sought c.attempt.new.scratch.after.state)) (λ b. Decides b (Shows p.start.scenario p.sought after))
    c.shows.result
    (λ b d. subst (λ (s : State). Decides b (Shows p.start.scenario p.sought s)) c.in_ok-attempt.ensures.state
    (subst (λ (sc : Scenario). Decides b (Shows sc p.sought c.attempt.new.scratch.after.state)) c.in_ok-attempt.ensures.scratch.machines.after d))
    c.shows.ensures.shows
