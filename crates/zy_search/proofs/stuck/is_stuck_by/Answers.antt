use Rattle.std.proofs.Common.{◌≡◌, ◌∙◌, get_or, true, sym, arith}
use Rattle.zy_isa.specs.declared.choice.Choice.{Choice}
use Rattle.zy_isa.specs.declared.choice.Choice.TheVariants.{Start}
use Rattle.zy_table.specs.Play.{step}
use Rattle.std.proofs.lemmas.List.Folds.{list_all_at}
use Rattle.zy_goals.proofs.EachLemmas.{more, each_here}
use Rattle.zy_search.specs.Stuck.{is_still}
use Rattle.zy_search.proofs.SearchLemmas.{named_at}
use Rattle.zy_search.proofs.stuck.is_stuck_by.Goals as goal

pub stays-requires-clause-named : goal.stays-requires-clause-named
stays-requires-clause-named c = named_at _ c.args.choices.now c.loop-i.i _ c.requires.named c.loop-i-test.true

-- something comes of the choice at i
pub returns-then-not-branch-clause-stuck : goal.returns-then-not-branch-clause-stuck
returns-then-not-branch-clause-stuck c =
    sym (list_all_at (λ (d : Choice). is_still (step c.args.machine.now.scenario d c.args.machine.now.state).outcome) c.args.choices.now c.loop-i.i Start
    c.loop-i-test.true (sym c.in_ok-stays.ensures.still ∙ c.if-not-branch.true))

pub loop-i-preserved : goal.loop-i-preserved
loop-i-preserved c =
    record {
      twin = c.in_ok-stays.ensures.twin c.if-not-branch.false;
      still = more (λ k. is_still (step c.args.machine.now.scenario (get_or c.args.choices.now k Start) c.args.machine.now.state).outcome ≡ true) c.loop-i.i
          c.loop-i.invariant.still
          (sym c.in_ok-stays.ensures.still ∙ c.if-not-branch.false);
    }

-- nothing comes of any
pub returns-clause-stuck : goal.returns-clause-stuck
returns-clause-stuck c =
    sym (each_here (λ (d : Choice). is_still (step c.args.machine.now.scenario d c.args.machine.now.state).outcome) c.args.choices.now Start
    (λ k lt. c.loop-i.invariant.still k (omega (arith, lt, c.loop-i-test.false))))
