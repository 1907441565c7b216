use Rattle.std.proofs.Common.{refl}
use Rattle.zy_table.specs.Change.{cut, locked, txn_at}
use Rattle.zy_table.specs.Run.{split_step}
use Rattle.zy_rules.proofs.SplitLemmas.{cuttable, growable}
use Rattle.zy_rules.proofs.run.split_step.Goals as goal

pub boundary-requires : goal.boundary-requires
boundary-requires c = rw c.txn.ensures c.requires.full.full

pub cut-requires-clause-cuttable : goal.cut-requires-clause-cuttable
cut-requires-clause-cuttable c =
    cuttable c.args.scenario.now c.args.t c.args.key c.args.p c.args.at c.in_ok-boundary.boundary c.args.me.now c.args.book.now c.requires.full
    c.requires.normal c.requires.more
    (rw c.txn.ensures at c.in_ok-boundary.ensures)

pub cut-requires-clause-limit : goal.cut-requires-clause-limit
cut-requires-clause-limit c =
    growable c.args.scenario.now c.args.t c.args.key c.args.p c.args.at c.args.me.now c.args.book.now c.requires.full c.requires.normal c.requires.more

pub returns : goal.returns
unfolding split_step cut locked txn_at
returns c = (
  c.in_ok-cut.ensures.link.1,
  λ v. rw (
    c.quiet.ensures,
    c.in_ok-cut.ensures.ok,
    c.in_ok-cut.ensures.link.0,
    c.in_ok-boundary.ensures,
    c.txn.ensures,
    c.page_count-new_page.ensures.value,
  ) refl,
)
