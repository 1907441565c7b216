use Rattle.std.proofs.Common.{◌≡◌, ap, length, refl, subst, sym, true}
use Rattle.zy_isa.specs.Choices.{names_below}
use Rattle.zy_isa.specs.declared.choice.Choice.{Choice}
use Rattle.zy_table.specs.Play.{step}
use Rattle.zy_steps.specs.Reads.{uncounted}
use Rattle.zy_search.specs.Searches.{reached}
use Rattle.zy_search.specs.Visits.{path_at, states_of}
use Rattle.zy_search.proofs.SearchLemmas.{grows_not, named_if}
use Rattle.zy_search.proofs.ReachedLemmas.{informed_still, remembered_choice, state_at, still_alike}
use Rattle.zy_search.proofs.expand.learn.Goals as goal

pub returns-clause-leads : goal.returns-clause-leads
returns-clause-leads c =
    let p = c.args.plan.now in
    let x = c.args.reached.now in
    let b = c.args.turn.branch in
    let sc = p.start.scenario in
    let s = reached p.start (path_at x.tree b.from) in
    let is = sym (remembered_choice p x c.requires.ready.informed c.args.turn.choice b.by c.requires.choice) in
    let made = c.in_ok-outcome.ensures in
    let kept = c.in_ok-learn.ensures in
    let outcome = ap uncounted made.outcome in
    let after = subst (λ (d : Choice). c.attempt.new.scratch.after.state ≡ (step sc d s).after) is made.state in
    let same = subst (λ (d : Choice). uncounted c.in_ok-outcome.outcome ≡ uncounted (step sc d s).outcome) is outcome in
    let named = subst (λ (d : Choice). names_below (length sc.programs) d ≡ true) is (named_if p.sought.kinds (length sc.programs) b.by c.requires.ready.turn.considered) in
    record {
      still = still_alike c.in_ok-outcome.outcome (step sc b.by s).outcome (sym outcome);
      numbers = λ moved. rw (← made.state) kept.next;
      informed = informed_still p x _ refl
          (kept.knows sc (states_of p.start x.tree) s c.requires.ready.informed.knows (state_at p.start x.tree b.from c.requires.ready.turn.ready.there) after same named)
          kept.part kept.choices c.requires.ready.informed;
    }

pub returns-clause-goes_on : goal.returns-clause-goes_on
returns-clause-goes_on c = record {
  paths = grows_not c.args.reached.now.tree;
  parts = c.in_ok-learn.ensures.keeps;
  part = c.in_ok-learn.ensures.part;
}
