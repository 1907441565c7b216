-- The four parts follow one another.
use Rattle.std.proofs.Common.{[], ◌∷◌, length, map}
use Rattle.zy_isa.specs.declared.node.Node.TheVariants.{A, B}
use Rattle.zy_table.specs.Database.{newest}
use Rattle.zy_listing.specs.Listing.{below}
use Rattle.zy_trace.specs.declared.subject.Subject.TheVariants.{Mode, Page, Link, Txn}
use Rattle.zy_trace.specs.Subjects.{shown_text}
use Rattle.zy_trace.proofs.TraceLemmas.{four_parts, two_subjects}
use Rattle.zy_trace.proofs.since.append_since.Goals as goal

pub returns : goal.returns
returns c =
    let s = c.args.since.now in
    let t = s.after.now.state in
    let f = shown_text s.marks s.all s.before.now.state t in
    let modes = two_subjects f c.args.line.now c.append_shown.new.line c.append_shown-2.new.line (Mode A) (Mode B)
    c.in_ok-append_shown.ensures c.in_ok-append_shown-2.ensures in
    let links = two_subjects f c.append_pages.new.line c.append_shown-3.new.line c.append_shown-4.new.line (Link A) (Link B)
    c.in_ok-append_shown-3.ensures c.in_ok-append_shown-4.ensures in
    four_parts f c.args.line.now c.append_shown-2.new.line c.append_pages.new.line c.append_shown-4.new.line c.append_txns.new.line
    (Mode A ∷ Mode B ∷ []) (map Page (below (length (newest t)))) (Link A ∷ Link B ∷ []) (map Txn (below (length t.txns)))
    modes c.in_ok-append_pages.ensures links c.in_ok-append_txns.ensures
