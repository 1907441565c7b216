-- The fault of one lock's text is that of all.
use Rattle.std.proofs.Common.{Err, ap, ◌∙◌}
use Rattle.std.proofs.lemmas.Result.{err_from_is_err_and}
use Rattle.zy_io.proofs.WritingLemmas.{Appended-element-stops}
use Rattle.zy_listing.specs.Locked.{lock_on}
use Rattle.zy_listing.proofs.lines.locked.LocksOnLine.append.Goals as goal

pub returns-in_err-append : goal.returns-in_err-append
returns-in_err-append c =
    let p = err_from_is_err_and c.from_residual.result c.from_residual.ensures.1 in
    Appended-element-stops (lock_on c.args.self.now.node c.args.self.now.page) c.args.self.now.locks.now c.loop-lock.lock-index _ c.args.line.now
    c.loop-lock.line c.append.new.line _ _ c.loop-lock-test.true c.loop-lock.invariant c.in_err-append.ensures (p.1 ∙ ap Err p.2)
