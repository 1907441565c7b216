-- One line more is shown.
use Rattle.std.proofs.Common.{◌∙◌, ◌++◌, ap, sym, append_assoc}
use Rattle.zy_trace.specs.declared.subject.Subject.TheVariants.{Txn}
use Rattle.zy_trace.specs.Subjects.{shown_text, shown_texts}
use Rattle.zy_listing.specs.Listing.{below}
use Rattle.std.proofs.Common.{map}
use Rattle.zy_trace.proofs.TraceLemmas.{shown_more}
use Rattle.zy_trace.proofs.since.append_txns.Goals as goal

pub loop-t-preserved : goal.loop-t-preserved
loop-t-preserved c =
    let s = c.args.since.now in
    let f = shown_text s.marks s.all s.before.now.state s.after.now.state in
    let so_far = shown_texts s.marks s.all s.before.now.state s.after.now.state (map Txn (below c.loop-t.t)) in
    c.in_ok-append_shown.ensures
    ∙ ap (λ l. l ++ f (Txn c.loop-t.t)) c.loop-t.invariant
    ∙ append_assoc c.args.line.now so_far (f (Txn c.loop-t.t))
    ∙ ap (λ l. c.args.line.now ++ l) (sym (shown_more f Txn c.loop-t.t))
