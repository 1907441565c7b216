-- The lines of the pages before this one have been shown.
use Rattle.std.proofs.Common.{◌≡◌, ◌++◌, map}
use Rattle.zy_listing.specs.Listing.{below}
use Rattle.zy_trace.specs.declared.subject.Subject.TheVariants.{Page}
use Rattle.zy_trace.specs.Subjects.{shown_texts}
use Rattle.zy_trace.proofs.since.append_pages.Given as goal

abbrev pub invariant-loop-p : goal.invariant-loop-p
invariant-loop-p l = l.line ≡ l.initial.line ++ shown_texts l.since.marks l.since.all l.since.before.now.state l.since.after.now.state (map Page (below l.p))
