-- One line more is shown.
use Rattle.std.proofs.Common.{◌∙◌, ◌++◌, ap, sym, append_assoc}
use Rattle.zy_trace.specs.declared.subject.Subject.TheVariants.{Page}
use Rattle.zy_trace.specs.Subjects.{shown_text, shown_texts}
use Rattle.zy_listing.specs.Listing.{below}
use Rattle.std.proofs.Common.{map}
use Rattle.zy_trace.proofs.TraceLemmas.{shown_more}
use Rattle.zy_trace.proofs.since.append_pages.Goals as goal

pub loop-p-preserved : goal.loop-p-preserved
loop-p-preserved c =
    let s = c.args.since.now in
    let f = shown_text s.marks s.all s.before.now.state s.after.now.state in
    let so_far = shown_texts s.marks s.all s.before.now.state s.after.now.state (map Page (below c.loop-p.p)) in
    c.in_ok-append_page.ensures
    ∙ ap (λ l. l ++ f (Page c.loop-p.p)) c.loop-p.invariant
    ∙ append_assoc c.args.line.now so_far (f (Page c.loop-p.p))
    ∙ ap (λ l. c.args.line.now ++ l) (sym (shown_more f Page c.loop-p.p))
