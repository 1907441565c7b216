-- The lines of the transactions before this one have been shown.
use Rattle.std.proofs.Common.{◌≡◌, ◌++◌, map}
use Rattle.zy_listing.specs.Listing.{below}
use Rattle.zy_trace.specs.declared.subject.Subject.TheVariants.{Txn}
use Rattle.zy_trace.specs.Subjects.{shown_texts}
use Rattle.zy_trace.proofs.since.append_txns.Given as goal

abbrev pub invariant-loop-t : goal.invariant-loop-t
invariant-loop-t l = l.line ≡ l.initial.line ++ shown_texts l.since.marks l.since.all l.since.before.now.state l.since.after.now.state (map Txn (below l.t))
