-- The choice at the place that was found is one of those that are considered, and has the outcome.
use Rattle.std.proofs.Common.{◌≡◌, ◌∙◌, true, length, sym, subst}
use Rattle.zy_isa.specs.declared.choice.Choice.{Choice}
use Rattle.zy_search.specs.Choices.{is_considered}
use Rattle.zy_search.specs.Possible.{gives}
use Rattle.zy_search.specs.Searches.{reached}
use Rattle.zy_search.proofs.LastLemmas.{follows}
use Rattle.zy_search.proofs.PossibleLemmas.{there}
use Rattle.zy_search.proofs.SearchLemmas.{all_named}
use Rattle.zy_search.proofs.MeetLemmas.{element, is_one}
use Rattle.zy_search.proofs.last.last_choice.Goals as goal

pub first_giving-requires-clause-named : goal.first_giving-requires-clause-named
first_giving-requires-clause-named c =
    rw c.requires.scenario
    (all_named c.args.plan.now.sought.kinds (length c.args.plan.now.start.scenario.programs) c.deref.result.now (c.deref.ensures.value ∙ c.requires.whole))

pub returns : goal.returns
returns c =
    let h = c.args.plan.now.start in
    let q = c.args.plan.now.sought in
    let n = length h.scenario.programs in
    let cs = c.args.plan.now.choices.items in
    let s = reached h c.args.path.now in
    let some = rw (c.deref.ensures.value, c.requires.scenario, c.requires.state) at c.in_ok-place.ensures.some in
    let has = rw (c.deref.ensures.value, c.requires.scenario, c.requires.state) at c.in_ok-place.ensures.there in
    let possible = follows h q c.args.wanted c.requires.then c.args.path.now c.requires.finds in
    let lt = there h.scenario q.kinds c.args.wanted s cs c.in_ok-place.place c.requires.whole some possible in
    let is = element cs c.in_ok-place.place c.index-choice.result.now lt c.index-choice.ensures in
    record {
      considered = subst (λ (d : Choice). is_considered q.kinds n d ≡ true) (sym is) (is_one q.kinds n c.in_ok-place.place cs c.requires.whole lt);
      outcome =
          subst (λ (d : Choice). gives h.scenario c.args.wanted s d ≡ true) (sym c.index-choice.ensures) (has c.index-choice.result.now lt);
      room = rw c.requires.entries at c.requires.room;
    }
