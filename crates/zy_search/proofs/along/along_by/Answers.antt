-- Each position is judged by the state of the machine that has come there.
use Rattle.std.proofs.Common.{◌∙◌, ℕ, Bool, ap, arith, sym}
use Rattle.zy_machine.specs.Replays.{state_at}
use Rattle.zy_search.specs.Searches.{shows}
use Rattle.zy_search.proofs.AlongLemmas.{more_fails, more_passes, shows_at}
use Rattle.zy_search.proofs.along.along_by.Goals as goal
use Rattle.zy_search.proofs.along.along_by.Goals.{then-branch+in_ok-push, else-branch}

pub loop-m-preserved : goal.loop-m-preserved
loop-m-preserved c =
    let sc = c.args.machine.now.scenario in
    let q = c.args.sought.now in
    let test : ℕ → Bool = λ n. shows sc q (state_at sc n) in
    let scenario = c.advance_to.ensures.scenario ∙ c.loop-m.invariant.scenario in
    let judged = c.in_ok-shows_all.ensures.shows
    ∙ shows_at c.advance_to.new.machine sc q c.loop-m.m c.advance_to.ensures.follows scenario c.in_ok-advance_to.ensures.position in
    record {
      scenario = scenario;
      follows = c.advance_to.ensures.follows;
      made = omega (arith, c.in_ok-advance_to.ensures.position);
      spare = c.in_ok-shows_all.ensures.spare ∙ scenario;
      positions = elim c.if-branch.branch [
        | then-branch+in_ok-push w ↦ more_passes test c.loop-m.m _ _ c.loop-m.invariant.positions (sym judged ∙ w.if-branch.true) (ap (λ v. v.items) w.positions-is ∙ w.in_ok-push.ensures.items)
        | else-branch w ↦ more_fails test c.loop-m.m _ _ c.loop-m.invariant.positions (sym judged ∙ w.if-branch.false) (ap (λ v. v.items) w.positions-is)
      ];
    }
