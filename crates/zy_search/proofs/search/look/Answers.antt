use Rattle.std.proofs.Common.{◌∙◌, arith, length, sym}
use Rattle.std.proofs.Math.Bool.{false≢true}
use Rattle.zy_search.proofs.SearchLemmas.{visits_first}
use Rattle.zy_search.proofs.DepthLemmas.{steps_fit}
use Rattle.zy_search.proofs.search.look.Goals as goal

pub shows-requires-clause-room : goal.shows-requires-clause-room
shows-requires-clause-room g c =
    steps_fit c.args.plan.now.sought (length c.args.plan.now.start.entries) (omega (arith, c.if-deepest-len.false, c.len.ensures.value, c.deepest.ensures))

pub shows-requires-clause-choices : goal.shows-requires-clause-choices
shows-requires-clause-choices g c = c.deref.ensures.value ∙ c.requires.whole

pub expand_all-requires-clause-begins : goal.expand_all-requires-clause-begins
expand_all-requires-clause-begins g c κs within = record {
  whole = c.requires.whole;
  visits =
      rw c.requires.first (visits_first c.args.plan.now.start c.args.plan.now.sought (omega (arith, c.if-deepest-len.false, c.len.ensures.value, c.deepest.ensures))
      (λ s. false≢true (sym c.if-is_shown.false ∙ c.in_ok-is_shown.ensures.shows.1 s)));
  first = c.requires.first;
  informed = c.requires.informed;
}

pub returns-then-is_shown-clause-answer : goal.returns-then-is_shown-clause-answer
returns-then-is_shown-clause-answer g c =
    rw c.new.ensures.items (record {
      finds = record {
        path = record { considered = tt; moves = tt; room = omega (arith, c.if-deepest-len.false, c.len.ensures.value, c.deepest.ensures) };
        shows = c.in_ok-is_shown.ensures.shows.0 c.if-is_shown.true;
      };
      shortest = λ cs a lt. absurd (omega (arith, lt));
    })
