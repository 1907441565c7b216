use Rattle.std.proofs.Common.{arith}
use Rattle.zy_isa.specs.Limits.{max_pages}
use Rattle.zy_node.proofs.LimitLemmas.{limit_under}
use Rattle.zy_rules.proofs.run.key_step.Goals as goal

pub page_step-requires-clause-page : goal.page_step-requires-clause-page
page_step-requires-clause-page c = record {
  on = c.page_of-p.ensures.value;
  few = c.page_of-p.ensures.few max_pages
      (limit_under c.args.scenario.now.pages max_pages c.args.me.now c.requires.limited c.requires.splits.pages) (omega arith);
}
