use Rattle.std.proofs.Common.{◌∙◌, sym}
use Rattle.zy_model.specs.declared.lock.LockKind.TheVariants.{Exclusive}
use Rattle.zy_table.specs.Change.{txn_at}
use Rattle.zy_rules.specs.Parts.{here}
use Rattle.zy_rules.proofs.AbortLemmas.{write-missing}
use Rattle.zy_rules.proofs.run.write_step.Goals as goal

pub returns-then-not-is_there-clause-line : goal.returns-then-not-is_there-clause-line
unfolding txn_at
returns-then-not-is_there-clause-line c =
    let none = rw c.txn.ensures at (sym c.is_there.ensures ∙ c.if-not-is_there.true) in
    (c.abort_step.ensures.line.0, λ v. c.abort_step.ensures.line.1 v ∙ sym (write-missing c.args.t c.args.key c.args.value c.args.p Exclusive (here c.args.me.now c.args.book.now v) none))
