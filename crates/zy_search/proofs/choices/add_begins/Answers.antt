use Rattle.std.proofs.Common.{append-nil, sym}
use Rattle.zy_isa.specs.declared.choice.Choice.TheVariants.{Begin}
use Rattle.zy_search.proofs.ChoiceLemmas.{each_more}
use Rattle.zy_search.proofs.choices.add_begins.Goals as goal

pub loop-t-init : goal.loop-t-init
loop-t-init c = sym (append-nil _)

pub loop-t-preserved : goal.loop-t-preserved
loop-t-preserved c = each_more Begin _ _ _ c.loop-t.t c.loop-t.invariant c.in_ok-push.ensures.items
