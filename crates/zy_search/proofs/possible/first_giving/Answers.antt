use Rattle.std.proofs.Common.{◌≡◌, ◌∙◌, get_or, false, sym, length, arith}
use Rattle.zy_isa.specs.declared.choice.Choice.TheVariants.{Start}
use Rattle.zy_goals.proofs.EachLemmas.{more, none_here}
use Rattle.zy_search.specs.Possible.{gives}
use Rattle.zy_search.proofs.PossibleLemmas.{not_below}
use Rattle.zy_search.proofs.SearchLemmas.{named_at}
use Rattle.zy_search.proofs.possible.first_giving.Goals as goal

pub gives-requires-clause-named : goal.gives-requires-clause-named
gives-requires-clause-named c = named_at _ c.args.choices.now c.loop-i.i _ c.requires.named c.loop-i-test.true

pub loop-i-preserved : goal.loop-i-preserved
loop-i-preserved c = record {
  spare = c.in_ok-gives.ensures.spare;
  none = more (λ k. gives c.args.machine.now.scenario c.args.wanted c.args.machine.now.state (get_or c.args.choices.now k Start) ≡ false)
      c.loop-i.i c.loop-i.invariant.none (sym c.in_ok-gives.ensures.gives ∙ c.if-branch.false);
}

-- none of them has it
pub returns-clause-some : goal.returns-clause-some
returns-clause-some c =
    not_below (length c.args.choices.now)
    ∙ sym (none_here (gives c.args.machine.now.scenario c.args.wanted c.args.machine.now.state) c.args.choices.now Start
    (λ k lt. c.loop-i.invariant.none k (omega (arith, lt, c.loop-i-test.false))))
